-- On the samples of pixels, and on the table of a palette.
use Rattle.std.proofs.Common.{◌≡◌, ℕ, ◌+◌, ◌*◌, ◌<◌, ◌≤◌, Bool, true, ◌&&◌, nat_lt, Option, Some, None, List, []}
use Rattle.std.proofs.Common.{◌∷◌, ◌++◌, length, drop, take, get_or, is_some, refl, sym, ap, ap₂, ◌∙◌, arith}
use Rattle.std.proofs.Common.{append-nil, inl, inr}
use Rattle.std.specs.Prelude.{◌==◌, slice_set}
use Rattle.std.specs.Option.{option_flatten, option_map_or}
use Rattle.std.specs.List.{cons_option, filter_map, flat_map, list_all}
use Rattle.std.proofs.Math.Seq.{take-append-add}
use Rattle.std.proofs.lemmas.Bool.{and_parts, cases_eq, cases_lt, eqb-true}
use Rattle.std.proofs.lemmas.Grind.{flat_map-append, get_or-set_at}
use Rattle.std.proofs.lemmas.List.{append_assoc, take_at, get_or-set_other, length-take, take-append-drop, take-take}
use Rattle.std.proofs.lemmas.List.{take_more}
use Rattle.std.proofs.lemmas.Option.{slice_get_past}
use Rattle.std.proofs.lemmas.Simd.{take_more_put_chunk}
use lib.Lanes.{put_chunk}
use Rattle.sixel_model.specs.Colours.{palette_at}
use Rattle.sixel_model.specs.Pictures.{IsAnyPicture, PictureValue, is_side}
use Rattle.sixel_ppm.specs.Ppm.{are_rgb, colours_of, is_rgb, ppm_header, ppm_text, samples_of}
use Rattle.sixel_ppm.specs.PpmTables.{IsTable, rgbx_of, samples_from}
use Rattle.sixel_model.specs.Profiles.{count_of}
use Rattle.sixel_model.specs.declared.colour.Parts.{Parts}
use Rattle.sixel_model.specs.declared.colour.Parts.TheVariants.{Rgb, Hls}
use Rattle.sixel_model.specs.declared.picture.PictureReason.TheVariants.{Size, Count, Register, NoColour}
use Rattle.sixel_model.specs.declared.profile.Profile.{Profile}
use Rattle.sixel_model.specs.declared.profile.Profile.TheVariants.{Registers16, Registers256}
use Rattle.sixel_ppm.proofs.PpmLemmas.{are_rgb_of, last_test, samples_by}

pub samples_join : {P : Type 0} (rgbx : P → List ℕ) (xs ys : List P)
    → samples_from rgbx (xs ++ ys) ≡ samples_from rgbx xs ++ samples_from rgbx ys
samples_join rgbx = flat_map-append (λ p. take 3 (rgbx p))

-- the samples of one more pixel
samples_more : {P : Type 0} (rgbx : P → List ℕ) (pixels : List P) (i : ℕ) (pixel : P) → i < length pixels
    → pixel ≡ get_or pixels i pixel
    → samples_from rgbx (take (i + 1) pixels) ≡ samples_from rgbx (take i pixels) ++ take 3 (rgbx pixel)
samples_more rgbx pixels i pixel lt its =
    ap (samples_from rgbx) (take_more pixels i pixel lt ∙ ap (λ p. take i pixels ++ p ∷ []) (sym its))
    ∙ samples_join rgbx (take i pixels) (pixel ∷ [])
    ∙ ap (λ (t : List ℕ). samples_from rgbx (take i pixels) ++ t) (append-nil (take 3 (rgbx pixel)))

-- storing four bytes, the last of which the next pixel overwrites
stored_three : (at : ℕ) (xs entry : List ℕ) → length entry ≡ 4 → at + 4 ≤ length xs
    → take (at + 3) (put_chunk at xs entry) ≡ take at xs ++ take 3 entry
stored_three at xs entry long room =
    let whole : take (at + 4) (put_chunk at xs entry) ≡ take at xs ++ entry =
    take_more_put_chunk at xs entry (at + 4) (omega (arith, long)) room in
    let prefix : length (take at xs) ≡ at = omega (arith, length-take at xs) in
    sym (take-take (at + 3) (at + 4) (put_chunk at xs entry) (omega arith))
    ∙ ap (take (at + 3)) whole
    ∙ ap (λ n. take (n + 3) (take at xs ++ entry)) (sym prefix)
    ∙ take-append-add (take at xs) entry 3

-- one more pixel's samples are put behind those of the ones before
pub pixel_put : {P : Type 0} (rgbx : P → List ℕ) (pixels : List P) (head text : List ℕ) (i at : ℕ) (pixel : P)
    (bytes : List ℕ) → i < length pixels → at + 4 ≤ length text → pixel ≡ get_or pixels i pixel
    → bytes ≡ rgbx pixel → length bytes ≡ 4 → take at text ≡ head ++ samples_from rgbx (take i pixels)
    → take (at + 3) (put_chunk at text bytes) ≡ head ++ samples_from rgbx (take (i + 1) pixels)
pixel_put rgbx pixels head text i at pixel bytes lt room its is long before =
    stored_three at text bytes long room
    ∙ ap₂ (λ (xs ys : List ℕ). xs ++ take 3 ys) before is
    ∙ append_assoc head (samples_from rgbx (take i pixels)) (take 3 (rgbx pixel))
    ∙ ap (λ (t : List ℕ). head ++ t) (sym (samples_more rgbx pixels i pixel lt its))

-- the table with one more register's entry
pub entry_more : (palette : List (Option Parts)) (table : List (List ℕ)) (n : ℕ) (entry : List ℕ)
    → n < length table → entry ≡ rgbx_of (palette_at palette n)
    → ((r : ℕ) → r < n → get_or table r [] ≡ rgbx_of (palette_at palette r))
    → (r : ℕ) → r < n + 1 → get_or (slice_set table n entry) r [] ≡ rgbx_of (palette_at palette r)
entry_more palette table n entry room is before r lt = elim (cases_eq r n) [
  | inl same ↦ get_or-set_at table n r entry [] same room
      ∙ is ∙ ap (λ k. rgbx_of (palette_at palette k)) (sym same)
  | inr other ↦ get_or-set_other table n r entry [] other ∙ before r (omega arith)
]

-- ---- a group of pixels

-- what was put before, what goes out with a group, and what is left after it
pub group_put : {P : Type 0} (rgbx : P → List ℕ) (rest group more : List P) (n : ℕ) (whole done head piece : List ℕ)
    → group ≡ take n rest → more ≡ drop n rest → whole ≡ done ++ (head ++ samples_from rgbx rest)
    → piece ≡ head ++ samples_from rgbx group → whole ≡ (done ++ piece) ++ samples_from rgbx more
group_put rgbx rest group more n whole done head piece front back was is =
    let cut : rest ≡ group ++ more = rw (front, back) (sym (take-append-drop n rest)) in
    was
    ∙ ap (λ (t : List ℕ). done ++ t)
    (ap (λ (t : List ℕ). head ++ t) (ap (samples_from rgbx) cut ∙ samples_join rgbx group more)
    ∙ sym (append_assoc head (samples_from rgbx group) (samples_from rgbx more))
    ∙ ap (λ (t : List ℕ). t ++ samples_from rgbx more) (sym is))
    ∙ sym (append_assoc done piece (samples_from rgbx more))

-- nothing is left after the last group
pub all_put : {P : Type 0} (rgbx : P → List ℕ) (more : List P) (whole put : List ℕ) → (length more == 0) ≡ true
    → whole ≡ put ++ samples_from rgbx more → put ≡ whole
all_put rgbx [] whole put e is = sym (is ∙ append-nil put)
all_put rgbx (x ∷ more) whole put e is = absurd (omega (arith, eqb-true (length (x ∷ more)) 0 e))

pub copied_prefix : (header copied tail : List ℕ) → copied ≡ header → take (length header) (copied ++ tail) ≡ header
copied_prefix header copied tail is =
    ap (λ (t : List ℕ). take (length header) (t ++ tail)) is ∙ take_at header tail (length header) refl

-- ---- colours that are no registers'

pub direct_are : (colours : List Parts) → are_rgb colours ≡ true
    → samples_from (λ c. rgbx_of (Some c)) colours ≡ flat_map samples_of colours
direct_are [] rgb = refl
direct_are (Rgb red green blue ∷ colours) rgb =
    ap (λ (t : List ℕ). red ∷ green ∷ blue ∷ t) (direct_are colours (and_parts (is_rgb (Rgb red green blue)) _ rgb).1)
direct_are (Hls hue lightness saturation ∷ colours) rgb = cc

-- ---- the table of a picture's palette

most_registers : (profile : Profile) → count_of profile ≤ 256
most_registers Registers16 = omega arith
most_registers Registers256 = omega arith

short_palette : (p : PictureValue) → IsAnyPicture p → length p.palette ≤ 256
short_palette p is = omega (arith, is.parts.palette.entries, most_registers is.profile)

no_entry_past : (palette : List (Option Parts)) (r : ℕ) → length palette ≤ r → palette_at palette r ≡ None
no_entry_past palette r past = ap (λ (o : Option (Option Parts)). option_flatten o) (slice_get_past palette r past)

all_true : (p : ℕ → Bool) (xs : List ℕ) → ((x : ℕ) → p x ≡ true) → list_all p xs ≡ true
all_true p [] each = refl
all_true p (x ∷ xs) each = rw (each x) (all_true p xs each)

-- a picture whose palette has only RGB colours
pub rgb_by_palette : (p : PictureValue) → IsAnyPicture p
    → ((r : ℕ) → r < 256 → option_map_or is_rgb (palette_at p.palette r) true ≡ true)
    → are_rgb (colours_of p) ≡ true
rgb_by_palette p is each = are_rgb_of p ∙ all_true _ p.registers (λ r. elim (cases_lt r 256) [
  | inl below ↦ each r below
  | inr above ↦ ap (λ (o : Option Parts). option_map_or is_rgb o true)
      (no_entry_past p.palette r (omega (arith, short_palette p is)))
])

-- the samples of an RGB colour are the first three bytes of its entry
prefix_of : (o : Option Parts) (cs : List Parts) (t : List ℕ) → is_some o ≡ true → option_map_or is_rgb o true ≡ true
    → t ≡ flat_map samples_of cs → take 3 (rgbx_of o) ++ t ≡ flat_map samples_of (cons_option o cs)
prefix_of None cs t some rgb e = cc
prefix_of (Some (Rgb red green blue)) cs t some rgb e = ap (λ (u : List ℕ). red ∷ green ∷ blue ∷ u) e
prefix_of (Some (Hls hue lightness saturation)) cs t some rgb e = cc

within_palette : (palette : List (Option Parts)) (r : ℕ) → is_some (palette_at palette r) ≡ true → r < length palette
within_palette palette r some = elim (cases_lt r (length palette)) [
  | inl below ↦ below
  | inr above ↦ let none = ap (λ (o : Option Parts). is_some o) (no_entry_past palette r above) in cc
]

samples_are : (palette : List (Option Parts)) (table : List (List ℕ)) (registers : List ℕ) → length palette ≤ 256
    → IsTable palette table → list_all (λ r. is_some (palette_at palette r)) registers ≡ true
    → list_all (λ r. option_map_or is_rgb (palette_at palette r) true) registers ≡ true
    → samples_from (λ r. get_or table r []) registers ≡ samples_by palette registers
samples_are palette table [] short is some rgb = refl
samples_are palette table (r ∷ registers) short is some rgb =
    let have = and_parts (is_some (palette_at palette r)) _ some in
    let are = and_parts (option_map_or is_rgb (palette_at palette r) true) _ rgb in
    let below : r < 256 = omega (arith, within_palette palette r have.0) in
    let rest = samples_from (λ s. get_or table s []) registers in
    ap (λ (bs : List ℕ). take 3 bs ++ rest) (is r below)
    ∙ prefix_of (palette_at palette r) (filter_map (palette_at palette) registers) rest
    have.0 are.0 (samples_are palette table registers short is have.1 are.1)

-- the samples of a picture's pixels, by its palette's table
pub samples_of_picture : (p : PictureValue) (table : List (List ℕ)) → IsAnyPicture p → IsTable p.palette table
    → are_rgb (colours_of p) ≡ true
    → samples_from (λ r. get_or table r []) p.registers ≡ flat_map samples_of (colours_of p)
samples_of_picture p table is entries rgb =
    let count = count_of is.profile in
    let some : list_all (λ r. is_some (palette_at p.palette r)) p.registers ≡ true =
    last_test (is_side p.width && is_side p.height) (length p.registers == p.width * p.height)
    (list_all (λ r. nat_lt r count) p.registers) (list_all (λ r. is_some (palette_at p.palette r)) p.registers)
    Size Count Register NoColour is.parts.accepted in
    samples_are p.palette table p.registers (short_palette p is) entries some (sym (are_rgb_of p) ∙ rgb)

-- the text of a picture file is its header, then the samples
pub header_then_samples : (width height : ℕ) (colours : List Parts) (samples : List ℕ)
    → samples ≡ flat_map samples_of colours
    → ppm_text width height colours ≡ ppm_header width height ++ samples
unfolding ppm_text
header_then_samples width height colours samples is = ap (λ (t : List ℕ). ppm_header width height ++ t) (sym is)
