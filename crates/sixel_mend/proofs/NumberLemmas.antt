-- Pictures whose registers are numbered by their colours.
use Rattle.std.proofs.Common.{◌≡◌, ℕ, zero, suc, ◌+◌, ◌*◌, ◌<◌, ◌≤◌, Bool, true, false, ◌&&◌, ◌||◌, Option, Some}
use Rattle.std.proofs.Common.{None, IfSome, List, [], ◌∷◌, ◌++◌, fold, length, map, get_or, refl, sym, ap, ◌∙◌}
use Rattle.std.proofs.Common.{◌⊎◌, inl, inr, arith, length-append, subst, zero-add}
use Rattle.std.specs.Prelude.{slice_index, unwrap_or, if◌then◌else◌}
use Rattle.std.specs.List.{AllByRecursion, list_any}
use Rattle.std.proofs.lemmas.Bool.{and_parts, eqb-true, or_left, or_right}
use Rattle.std.proofs.lemmas.List.{get_or-map}
use Rattle.std.proofs.lemmas.List.Folds.{list_any-append}
use Rattle.std.proofs.lemmas.List.Quantifiers.{position-Some}
use Rattle.std.proofs.lemmas.Iterator.Adapters.{position_from-zero}
use Rattle.sixel_model.specs.Colours.{IsColour, is_entry, is_same, palette_at}
use Rattle.sixel_model.specs.Pictures.{IsPicture, is_side, register_of}
use Rattle.sixel_model.specs.Grids.{row_by_row}
use Rattle.sixel_model.specs.declared.colour.Parts.{Parts}
use Rattle.sixel_model.specs.declared.colour.Parts.TheVariants.{Rgb, Hls}
use Rattle.sixel_model.proofs.GridLemmas.{get_rows, length_rows}
use Rattle.std.proofs.lemmas.Nat.{mul-add-lt}
use Rattle.sixel_ppm.specs.PpmReading.{distinct, palette_of, picture_of, register_among, with_colour}
use Rattle.sixel_ppm.specs.PpmSamples.{AllSeen}
use Rattle.sixel_ppm.proofs.PpmColourLemmas.{any_then_position, same_as_itself}
use Rattle.sixel_ppm.proofs.PpmSampleLemmas.{picture_accepted, seen_more, seen_with}

-- ---- colours that were seen

seen_stays : (seen more : List Parts) (c : Parts) → list_any (is_same c) seen ≡ true
    → list_any (is_same c) (fold with_colour seen more) ≡ true
seen_stays seen [] c h = h
seen_stays seen (d ∷ more) c h =
    let both : AllSeen (with_colour seen d) (c ∷ d ∷ []) = seen_more seen d (c ∷ []) (h, tt) in
    seen_stays (with_colour seen d) more c both.0

all_seen_from : (seen more : List Parts) → AllSeen (fold with_colour seen more) more
all_seen_from seen [] = tt
all_seen_from seen (c ∷ more) =
    (seen_stays (with_colour seen c) more c (seen_with seen c), all_seen_from (with_colour seen c) more)

-- each colour of a list is among its distinct ones
pub all_seen : (colours : List Parts) → AllSeen (distinct colours) colours
all_seen colours = all_seen_from [] colours

pub seen_at : (seen colours : List Parts) (i : ℕ) (d : Parts) → AllSeen seen colours → i < length colours
    → list_any (is_same (get_or colours i d)) seen ≡ true
seen_at seen [] i d all lt = absurd (omega arith)
seen_at seen (c ∷ colours) zero d all lt = all.0
seen_at seen (c ∷ colours) (suc i) d all lt = seen_at seen colours i d all.1 (omega (arith, lt))

-- ---- the colour of a register

pub same_is : (c d : Parts) → is_same c d ≡ true → c ≡ d
same_is (Rgb red green blue) (Rgb r g b) h =
    let last = and_parts _ _ h in
    let first = and_parts _ _ last.0 in
    rw (eqb-true red r first.0, eqb-true green g first.1, eqb-true blue b last.1) refl
same_is (Hls hue lightness saturation) (Hls r g b) h =
    let last = and_parts _ _ h in
    let first = and_parts _ _ last.0 in
    rw (eqb-true hue r first.0, eqb-true lightness g first.1, eqb-true saturation b last.1) refl
same_is (Rgb red green blue) (Hls r g b) h = cc
same_is (Hls hue lightness saturation) (Rgb r g b) h = cc

-- a colour that was seen stands where its register says
seen_there : (seen : List Parts) (c d : Parts) → list_any (is_same c) seen ≡ true
    → get_or seen (register_among seen c) d ≡ c
seen_there seen c d any =
    let found = any_then_position (is_same c) seen 0 any in
    let is : register_among seen c ≡ found.0 = ap (λ (o : Option ℕ). unwrap_or o 0) found.1 in
    let at = position-Some (is_same c) seen found.0 d (position_from-zero (is_same c) seen ∙ found.1) in
    ap (λ (n : ℕ). get_or seen n d) is ∙ sym (same_is c (get_or seen found.0 d) at.1)

register_below : (seen : List Parts) (c : Parts) → list_any (is_same c) seen ≡ true
    → register_among seen c < length seen
register_below seen c any =
    let found = any_then_position (is_same c) seen 0 any in
    let is : register_among seen c ≡ found.0 = ap (λ (o : Option ℕ). unwrap_or o 0) found.1 in
    let at = position-Some (is_same c) seen found.0 c (position_from-zero (is_same c) seen ∙ found.1) in
    omega (arith, is, at.0)

entry_at : (n : ℕ) (seen : List Parts) (i : ℕ) (d : Parts) → i < length seen → length seen ≤ n
    → palette_at (palette_of n seen) i ≡ Some (get_or seen i d)
entry_at n [] i d lt few = absurd (omega arith)
entry_at zero (c ∷ seen) i d lt few = absurd (omega arith)
entry_at (suc n) (c ∷ seen) zero d lt few = refl
entry_at (suc n) (c ∷ seen) (suc i) d lt few = entry_at n seen i d (omega (arith, lt)) (omega (arith, few))

-- the palette gives each colour's register the colour
pub colour_found : (registers : ℕ) (seen : List Parts) (c : Parts) → length seen ≤ registers
    → list_any (is_same c) seen ≡ true → palette_at (palette_of registers seen) (register_among seen c) ≡ Some c
colour_found registers seen c few any =
    entry_at registers seen (register_among seen c) c (register_below seen c any) few
    ∙ ap (λ (d : Parts). Some d) (seen_there seen c c any)

-- each pixel of a picture of some colours has its colour
pub pixel_found : (registers width height : ℕ) (f : ℕ → ℕ → Parts) (x y : ℕ)
    → length (distinct (row_by_row width height f)) ≤ registers → x < width → y < height
    → palette_at (picture_of registers width height (row_by_row width height f)).palette
    (register_of (picture_of registers width height (row_by_row width height f)) x y)
    ≡ Some (f x y)
pixel_found registers width height f x y few across down =
    let colours = row_by_row width height f in
    let seen = distinct colours in
    let i = y * width + x in
    let lt : i < length colours = rw (length_rows width height f) (mul-add-lt y width x height down across) in
    let is : get_or colours i (f x y) ≡ f x y = get_rows width height f x y (f x y) across down in
    let register : slice_index (map (register_among seen) colours) i ≡ register_among seen (f x y) =
    get_or-map (register_among seen) colours i (f x y) 0 lt ∙ ap (register_among seen) is in
    let any : list_any (is_same (f x y)) seen ≡ true =
    subst (λ (c : Parts). list_any (is_same c) seen ≡ true) is (seen_at seen colours i (f x y) (all_seen colours) lt) in
    ap (palette_at (palette_of registers seen)) register ∙ colour_found registers seen (f x y) few any

-- ---- such a picture is one

pub length_palette : (n : ℕ) (seen : List Parts) → length (palette_of n seen) ≡ n
length_palette zero seen = refl
length_palette (suc n) [] = ap suc (length_palette n [])
length_palette (suc n) (c ∷ seen) = ap suc (length_palette n seen)

seen_in_range : (seen more : List Parts) → AllByRecursion IsColour seen → AllByRecursion IsColour more
    → AllByRecursion IsColour (fold with_colour seen more)
seen_in_range seen [] old new = old
seen_in_range seen (c ∷ more) old new =
    seen_in_range (with_colour seen c) more (with_one (list_any (is_same c) seen)) new.1
  where
    at_end : (cs : List Parts) → AllByRecursion IsColour cs → AllByRecursion IsColour (cs ++ c ∷ [])
    at_end [] h = (new.0, tt)
    at_end (d ∷ cs) h = (h.0, at_end cs h.1)

    with_one : (b : Bool) → AllByRecursion IsColour (if b then seen else seen ++ c ∷ [])
    with_one true = old
    with_one false = at_end seen old

entries_in_range : (n : ℕ) (seen : List Parts) → AllByRecursion IsColour seen → (k : ℕ) (d : Option Parts)
    → k < length (palette_of n seen) → IfSome (get_or (palette_of n seen) k d) IsColour
entries_in_range zero seen h k d lt = absurd (omega arith)
entries_in_range (suc n) [] h zero d lt = tt
entries_in_range (suc n) [] h (suc k) d lt = entries_in_range n [] h k d (omega (arith, lt))
entries_in_range (suc n) (c ∷ seen) h zero d lt = h.0
entries_in_range (suc n) (c ∷ seen) h (suc k) d lt = entries_in_range n seen h.1 k d (omega (arith, lt))

-- with at most so many distinct colours, all in range, it is a picture
pub numbered_is_picture : (registers width height : ℕ) (colours : List Parts) → length colours ≡ width * height
    → (is_side width && is_side height) ≡ true → length (distinct colours) ≤ registers
    → AllByRecursion IsColour colours → IsPicture registers (picture_of registers width height colours)
numbered_is_picture registers width height colours whole sides few good =
    let seen = distinct colours in
    let palette = palette_of registers seen in
    let count : length palette ≡ registers = length_palette registers seen in
    record {
      accepted = rw count at (picture_accepted (record { palette = palette; count = length seen }) None 0
          (map (register_among seen) colours) 0 width height colours
          (record {
            fills = record {
              palette = ap (λ (n : ℕ). palette_of n seen) (sym count);
              count = refl;
              few = omega (arith, few, count);
            };
            knows_last = tt;
            numbered = refl;
            all_seen = all_seen colours;
            whole = omega (arith, whole);
          }) refl sides);
      palette = record {
        entries = count;
        in_range = λ k d lt. entries_in_range registers seen (seen_in_range [] colours tt good) k d lt;
      };
    }

-- ---- few colours

-- the palette without the first entry that is this colour
abbrev without : Parts → List (Option Parts) → List (Option Parts)
without c [] = []
without c (o ∷ palette) = if is_entry c o then palette else o ∷ without c palette

one_less_step : (c : Parts) (o : Option Parts) (palette : List (Option Parts)) (b : Bool)
    → (list_any (is_entry c) palette ≡ true → suc (length (without c palette)) ≡ length palette)
    → (b || list_any (is_entry c) palette) ≡ true
    → suc (length (if b then palette else o ∷ without c palette)) ≡ suc (length palette)
one_less_step c o palette true more h = refl
one_less_step c o palette false more h = ap suc (more h)

one_less : (c : Parts) (palette : List (Option Parts)) → list_any (is_entry c) palette ≡ true
    → suc (length (without c palette)) ≡ length palette
one_less c [] any = cc
one_less c (o ∷ palette) any = one_less_step c o palette (is_entry c o) (one_less c palette) any

entry_of_both : (c d : Parts) (o : Option Parts) → is_entry c o ≡ true → is_entry d o ≡ true → is_same d c ≡ true
entry_of_both c d None h k = cc
entry_of_both c d (Some x) h k = subst (λ (z : Parts). is_same d z ≡ true) (sym (same_is c x h)) k

stays_step : (c d : Parts) (o : Option Parts) (palette : List (Option Parts)) (b e : Bool) → is_same d c ≡ false
    → is_entry c o ≡ b → is_entry d o ≡ e
    → (list_any (is_entry d) palette ≡ true → list_any (is_entry d) (without c palette) ≡ true)
    → (e || list_any (is_entry d) palette) ≡ true
    → list_any (is_entry d) (if b then palette else o ∷ without c palette) ≡ true
stays_step c d o palette true true other p q more h =
    let bad : true ≡ false = sym (entry_of_both c d o p q) ∙ other in cc
stays_step c d o palette true false other p q more h = h
stays_step c d o palette false true other p q more h =
    or_left (is_entry d o) (list_any (is_entry d) (without c palette)) q
stays_step c d o palette false false other p q more h =
    or_right (is_entry d o) (list_any (is_entry d) (without c palette)) (more h)

-- another colour keeps its entry
others_stay : (c d : Parts) (palette : List (Option Parts)) → is_same d c ≡ false
    → list_any (is_entry d) palette ≡ true → list_any (is_entry d) (without c palette) ≡ true
others_stay c d [] other any = cc
others_stay c d (o ∷ palette) other any =
    stays_step c d o palette (is_entry c o) (is_entry d o) other refl refl (others_stay c d palette other) any

-- a colour was seen, or has an entry
abbrev IsFound : List Parts → List (Option Parts) → Parts → Type 0
IsFound seen palette c = (list_any (is_same c) seen ≡ true) ⊎ (list_any (is_entry c) palette ≡ true)

found_next : (seen : List Parts) (palette : List (Option Parts)) (c d : Parts) → IsFound seen palette d
    → IsFound (seen ++ c ∷ []) (without c palette) d
found_next seen palette c d (inl h) =
    inl (list_any-append (is_same d) seen (c ∷ []) ∙ or_left (list_any (is_same d) seen) _ h)
found_next seen palette c d (inr h) = by (is_same d c) refl
  where
    by : (b : Bool) → is_same d c ≡ b → IsFound (seen ++ c ∷ []) (without c palette) d
    by true e =
        inl (list_any-append (is_same d) seen (c ∷ [])
        ∙ or_right (list_any (is_same d) seen) _ (or_left (is_same d c) false e))
    by false e = inr (others_stay c d palette e h)

all_found_next : (seen : List Parts) (palette : List (Option Parts)) (c : Parts) (more : List Parts)
    → AllByRecursion (IsFound seen palette) more → AllByRecursion (IsFound (seen ++ c ∷ []) (without c palette)) more
all_found_next seen palette c [] h = tt
all_found_next seen palette c (d ∷ more) h = (found_next seen palette c d h.0, all_found_next seen palette c more h.1)

few_step : (seen more : List Parts) (palette : List (Option Parts)) (c : Parts) (b : Bool)
    → list_any (is_same c) seen ≡ b → IsFound seen palette c
    → length (fold with_colour seen more) ≤ length seen + length palette
    → length (fold with_colour (seen ++ c ∷ []) more) ≤ length (seen ++ c ∷ []) + length (without c palette)
    → length (fold with_colour (if b then seen else seen ++ c ∷ []) more) ≤ length seen + length palette
few_step seen more palette c true e found old new = old
few_step seen more palette c false e (inl found) old new = let bad : true ≡ false = sym found ∙ e in cc
few_step seen more palette c false e (inr found) old new =
    omega (arith, new, one_less c palette found, length-append seen (c ∷ []))

few_from : (seen more : List Parts) (palette : List (Option Parts)) → AllByRecursion (IsFound seen palette) more
    → length (fold with_colour seen more) ≤ length seen + length palette
few_from seen [] palette h = omega arith
few_from seen (c ∷ more) palette h =
    few_step seen more palette c (list_any (is_same c) seen) refl h.0 (few_from seen more palette h.1)
    (few_from (seen ++ c ∷ []) more (without c palette) (all_found_next seen palette c more h.1))

-- if each colour has an entry in a palette, there are at most as many distinct colours as entries
pub few_colours : (colours : List Parts) (palette : List (Option Parts))
    → AllByRecursion (λ c. list_any (is_entry c) palette ≡ true) colours → length (distinct colours) ≤ length palette
few_colours colours palette h = rw zero-add at (few_from [] colours palette (found colours h))
  where
    found : (cs : List Parts) → AllByRecursion (λ c. list_any (is_entry c) palette ≡ true) cs
        → AllByRecursion (IsFound [] palette) cs
    found [] h = tt
    found (c ∷ cs) h = (inr h.0, found cs h.1)

-- a register's colour has an entry
pub entry_there : (palette : List (Option Parts)) (r : ℕ) (c : Parts) → palette_at palette r ≡ Some c
    → list_any (is_entry c) palette ≡ true
entry_there [] r c h = cc
entry_there (o ∷ palette) zero c h = let is : o ≡ Some c = h in rw is (or_left (is_same c c) _ (same_as_itself c))
entry_there (o ∷ palette) (suc r) c h = or_right (is_entry c o) _ (entry_there palette r c h)

-- ---- lists by index

-- what holds of each element by its index holds of each element
pub each_by_index : {X : Type 0} (P : X → Type 0) (xs : List X) (d : X)
    → ((i : ℕ) → i < length xs → P (get_or xs i d)) → AllByRecursion P xs
each_by_index P [] d h = tt
each_by_index P (x ∷ xs) d h = (h 0 (omega arith), each_by_index P xs d (λ i lt. h (suc i) (omega (arith, lt))))
