-- The mended picture: its parts, its text, and what it keeps.
use Rattle.std.proofs.Common.{◌≡◌, ◌==◌, ◌≤◌, ◌<◌, ◌+◌, ℕ, Bool, true, false, ◌&&◌, ◌||◌, Option, Some, None, List, []}
use Rattle.std.proofs.Common.{◌∷◌, Ok, Err, length, max, refl, sym, ap, subst, ◌∙◌, arith}
use Rattle.std.specs.Prelude.{nat_lt, if◌then◌else◌}
use Rattle.std.specs.Option.{option_map_or}
use Rattle.std.proofs.lemmas.Bool.{ltb-false}
use Rattle.sixel_grammar.specs.declared.command.Event.{Event}
use Rattle.sixel_grammar.specs.declared.command.Placed.{Placed}
use Rattle.sixel_grammar.specs.Document.{events_of, most_bytes}
use Rattle.sixel_grammar.specs.FixedText.{fixed_places}
use Rattle.sixel_grammar.specs.Spelling.{fixed_spelling}
use Rattle.sixel_model.specs.declared.profile.Profile.{Profile}
use Rattle.sixel_model.specs.declared.colour.Parts.{Parts}
use Rattle.sixel_model.specs.Colours.{IsColour, palette_at}
use Rattle.sixel_model.specs.Events.{Attributes}
use Rattle.sixel_model.specs.Pictures.{IsPicture, PictureValue, is_side, most_side, register_of}
use Rattle.sixel_model.specs.Profiles.{count_of}
use Rattle.sixel_model.specs.Rules.{BreaksNone, last_rule, picture_left, raster_before}
use Rattle.sixel_model.proofs.PictureLemmas.{at_most_256}
use Rattle.sixel_ppm.specs.PpmReading.{distinct, picture_of}
use Rattle.sixel_terminal.specs.Drawing.{screen_on, shown_on}
use Rattle.sixel_judge.specs.Portable.{IsPortable}
use Rattle.sixel_judge.proofs.ShownLemmas.{left_is_portable}
use Rattle.sixel_encode.specs.Canon.{canon}
use Rattle.sixel_encode_laws.proofs.LengthLemmas.{texts_have_at_most}
use Rattle.sixel_encode_laws.proofs.LeadsBackLemmas.{lists_break_no_rule, lists_leave_their_picture}
use Rattle.sixel_encode_laws.proofs.WrittenLemmas.{lists_are_whole, texts_are_documents}
use Rattle.sixel_mend.specs.declared.mending.MendFault.TheVariants.{Empty, TooLarge, TooManyColours}
use Rattle.sixel_mend.specs.declared.mending.Mending.{Mending}
use Rattle.sixel_mend.specs.Screens.{mending_terminal}
use Rattle.sixel_mend.specs.Mended.{mended, mended_colours}
use Rattle.sixel_mend.proofs.MendLemmas.{sides_from, whole_screen}
use Rattle.sixel_mend.proofs.NumberLemmas.{numbered_is_picture, pixel_found}
use Rattle.sixel_mend.proofs.SizeLemmas.{touched_anywhere}
use Rattle.sixel_mend_laws.specs.Laws.{MendedIsPortable, NothingIsLost}
use Rattle.sixel_mend_laws.proofs.RangeLemmas.{screen_in_range}
use Rattle.sixel_mend_laws.proofs.TouchedLemmas.{touched_shows}

-- ---- the parts

-- the picture is that of the colours shown, which are few, in a size that a picture may have
pub record IsMended (registers : ℕ) (m : Mending) (events : List Event) (width height : ℕ)
    (p : PictureValue) : Type 0 where
  pub sides : (is_side width && is_side height) ≡ true
  pub few : length (distinct (mended_colours m events width height)) ≤ registers
  pub is : p ≡ picture_of registers width height (mended_colours m events width height)

pub mended_is : (registers : ℕ) (m : Mending) (events : List Event) (width height : ℕ) (p : PictureValue)
    → Ok p ≡ mended registers m events width height → IsMended registers m events width height p
unfolding mended
mended_is registers m events width height p h =
    by ((width == 0) || (height == 0)) (nat_lt most_side width || nat_lt most_side height)
    (nat_lt registers (length (distinct (mended_colours m events width height)))) refl refl refl h
  where
    by : (a b c : Bool) → ((width == 0) || (height == 0)) ≡ a
        → (nat_lt most_side width || nat_lt most_side height) ≡ b
        → nat_lt registers (length (distinct (mended_colours m events width height))) ≡ c
        → Ok p
        ≡ (if a then Err Empty else if b then Err TooLarge else if c then Err TooManyColours
        else Ok (picture_of registers width height (mended_colours m events width height)))
        → IsMended registers m events width height p
    by true b c d e f g = cc
    by false true c d e f g = cc
    by false false true d e f g = cc
    by false false false d e f g = record {
      sides = sides_from width height d e;
      few = ltb-false registers (length (distinct (mended_colours m events width height))) f;
      is = (let same : p ≡ picture_of registers width height (mended_colours m events width height) = cc in same);
    }

-- ---- the picture is one

pub mended_is_picture : (registers : ℕ) (m : Mending) (events : List Event) (width height : ℕ) (p : PictureValue)
    → IsColour m.background → IsMended registers m events width height p → IsPicture registers p
mended_is_picture registers m events width height p good is =
    subst (IsPicture registers) (sym is.is)
    (numbered_is_picture registers width height (mended_colours m events width height)
    (whole_screen m events width height) is.sides is.few (screen_in_range m width height events good))

-- ---- its text

events_placed : (n : ℕ) (es : List Event) → events_of (fixed_places n es) ≡ es
events_placed n [] = refl
events_placed n (e ∷ es) = ap (λ (more : List Event). e ∷ more) (events_placed (n + length (fixed_spelling e)) es)

pub mended_is_portable : (profile : Profile) → MendedIsPortable (count_of profile)
mended_is_portable profile m events p good gives =
    let registers : ℕ = count_of profile in
    let few : registers ≤ 256 = at_most_256 profile in
    let is : IsPicture registers p =
    mended_is_picture registers m events gives.0 gives.1 p good
    (mended_is registers m events gives.0 gives.1 p gives.3) in
    let placed : List Placed = fixed_places 0 (canon p) in
    let same : events_of placed ≡ canon p = events_placed 0 (canon p) in
    let none : BreaksNone registers last_rule (canon p) = lists_break_no_rule registers p is in
    let left : picture_left registers (canon p) ≡ p = lists_leave_their_picture registers p is in
    let shown : IsPortable registers (canon p) p =
    subst (IsPortable registers (canon p)) left (left_is_portable registers (canon p) (lists_are_whole p) none) in (
      placed,
      texts_are_documents registers (omega (arith, few))
          (texts_have_at_most most_bytes registers (omega (arith, few)) (omega (arith, few))) p is,
      (subst (BreaksNone registers last_rule) (sym same) none, sym left ∙ ap (picture_left registers) (sym same)),
      subst (λ (es : List Event). IsPortable registers es p) (sym same) shown,
    )

-- ---- what it keeps

over_extent : (o : Option Attributes) (declared : Attributes → ℕ) (extent : ℕ)
    → extent ≤ option_map_or (λ a. max extent (declared a)) o extent
over_extent None declared extent = omega arith
over_extent (Some a) declared extent = omega arith

-- a pixel of the mended picture has the colour that the terminal shows
pub mended_shows : (registers : ℕ) (m : Mending) (events : List Event) (width height : ℕ) (p : PictureValue) (x y : ℕ)
    → IsMended registers m events width height p → x < width → y < height
    → palette_at p.palette (register_of p x y) ≡ Some (shown_on (mending_terminal m width height) events x y)
unfolding screen_on
mended_shows registers m events width height p x y is across down =
    ap (λ (q : PictureValue). palette_at q.palette (register_of q x y)) is.is
    ∙ pixel_found registers width height (shown_on (mending_terminal m width height) events) x y is.few across down

pub nothing_is_lost : (registers : ℕ) → NothingIsLost registers
nothing_is_lost registers m events p w h x y gives touched =
    let width = gives.0 in
    let height = gives.1 in
    let size = gives.2 in
    let is = mended_is registers m events width height p gives.3 in
    let here = touched_anywhere m w h width height events x y touched in
    let inside = size.extent.bounds x y here in
    let across : x < width =
    omega (arith, inside.0, size.width_is, over_extent (raster_before events) (λ a. a.width) size.extent_width) in
    let down : y < height =
    omega (arith, inside.1, size.height_is, over_extent (raster_before events) (λ a. a.height) size.extent_height) in
    record {
      across = omega (arith, across, ap (λ (q : PictureValue). q.width) is.is);
      down = omega (arith, down, ap (λ (q : PictureValue). q.height) is.is);
      shown = λ background v u right bottom.
          mended_shows registers m events width height p x y is across down
          ∙ ap (λ (c : Parts). Some c) (touched_shows m background width height v u events x y here);
    }
