-- The picture over the background, from the numbers of a screen that was drawn over a mark.
use Rattle.std.proofs.Common.{◌≡◌, ◌∷◌, ◌∙◌, [], ℕ, Bool, false, true, List, None, Option, Some, ap, ap₂}
use Rattle.std.proofs.Common.{map, refl, subst, sym}
use Rattle.std.specs.Prelude.{IfSome, count_by, is_none, is_some, position, slice_set, if◌then◌else◌}
use Rattle.std.specs.List.{list_any}
use Rattle.std.specs.Option.{option_map}
use Rattle.std.proofs.lemmas.Iterator.Adapters.{position_from-zero}
use Rattle.std.proofs.lemmas.List.Quantifiers.{position-Some}
use Rattle.sixel_model.specs.declared.colour.Parts.{Parts}
use Rattle.sixel_model.specs.Colours.{is_entry, is_same}
use Rattle.sixel_ppm.specs.PpmReading.{distinct, palette_of}
use Rattle.sixel_ppm.specs.PpmSamples.{AllSeen}
use Rattle.sixel_ppm.proofs.PpmColourLemmas.{none_then_any, same_as_itself}
use Rattle.sixel_mend.specs.declared.numbering.PictureParts.{PictureParts}
use Rattle.sixel_mend.specs.Marking.{IsMarked, IsNumbered, IsSettled, over}
use Rattle.sixel_mend.specs.Painted.{hidden_among}
use Rattle.sixel_mend.proofs.NumberLemmas.{all_seen, same_is}
use Rattle.sixel_mend.proofs.ReplaceLemmas.{IsOnce, any_entry, entry_replaced, once_in_palette}
use Rattle.sixel_mend.proofs.RgbLemmas.{or_parts}
use Rattle.sixel_mend.proofs.SwapLemmas.{numbered_mapped, swapped, swapped_same}

pub not_some : {A : Type 0} (o : Option A) → is_some o ≡ false → o ≡ None
not_some None h = refl
not_some (Some a) h = cc

-- ---- a colour without a register

seen_any : (a : Parts) (seen colours : List Parts) → AllSeen seen colours → list_any (is_same a) seen ≡ false
    → list_any (is_same a) colours ≡ false
seen_any a seen [] all none = refl
seen_any a seen (c ∷ colours) all none =
    rw (first (is_same a c) refl, seen_any a seen colours all.1 none) refl
  where
    first : (b : Bool) → is_same a c ≡ b → b ≡ false
    first false e = refl
    first true e = sym all.0 ∙ ap (λ (x : Parts). list_any (is_same x) seen) (sym (same_is a c e)) ∙ none

-- no pixel has it
pub absent : (a : Parts) {count : ℕ} {palette : List (Option Parts)} {registers : List ℕ} {colours : List Parts}
    → IsNumbered count palette registers colours → position (is_entry a) palette ≡ None
    → list_any (is_same a) colours ≡ false
absent a {count} {palette} {registers} {colours} is none =
    let no_entry : list_any (is_entry a) (palette_of count (distinct colours)) ≡ false =
    subst (λ (p : List (Option Parts)). list_any (is_entry a) p ≡ false) is.palette_is
    (none_then_any (is_entry a) palette 0 (sym (position_from-zero (is_entry a) palette) ∙ none)) in
    seen_any a (distinct colours) colours (all_seen colours)
    (sym (any_entry count a (distinct colours) is.few) ∙ no_entry)

-- ---- each pixel is painted

-- no pixel shows the mark, so each one shows what is painted
pub whole : (mark : Parts) (painted : List (Option Parts)) → list_any (is_same mark) (over mark painted) ≡ false
    → (list_any is_none painted ≡ false) × ((c : Parts) → over mark painted ≡ over c painted)
whole mark [] h = (refl, λ c. refl)
whole mark (None ∷ painted) h =
    let bad : true ≡ false = sym (same_as_itself mark) ∙ (or_parts (is_same mark mark) _ h).0 in cc
whole mark (Some d ∷ painted) h =
    let more = whole mark painted (or_parts (is_same mark d) _ h).1 in
    (more.0, λ c. ap (λ (cs : List Parts). d ∷ cs) (more.1 c))

pub settled_whole : (mark background : Parts) {has_hls : Bool} {count : ℕ} {palette : List (Option Parts)}
    {registers : List ℕ} {colours : List Parts} {painted : List (Option Parts)}
    → IsNumbered count palette registers colours → IsMarked mark has_hls painted colours
    → position (is_entry mark) palette ≡ None → IsSettled count palette registers background painted
settled_whole mark background {count} {palette} {registers} {painted} is marked none =
    let no_mark = subst (λ (cs : List Parts). list_any (is_same mark) cs ≡ false) marked.colours_are
    (absent mark is none) in
    let all = whole mark painted no_mark in
    record {
      numbered = subst (IsNumbered count palette registers) (marked.colours_are ∙ all.1 background) is;
      none_hidden =
          ap (λ (b : Bool). if b then count_by (is_entry background) painted else 0) all.0;
    }

-- ---- nothing is painted in the mark, or in the background's colour

apart_step : (mark background d : Parts) → is_same mark d ≡ false → is_same background d ≡ false
    → d ≡ swapped mark background d
apart_step mark background d h k = rw (h, k) refl

swapped_over : (mark background : Parts) (painted : List (Option Parts)) → list_any (is_entry mark) painted ≡ false
    → list_any (is_entry background) painted ≡ false
    → over background painted ≡ map (swapped mark background) (over mark painted)
swapped_over mark background [] h k = refl
swapped_over mark background (None ∷ painted) h k =
    ap₂ (λ (c : Parts) (cs : List Parts). c ∷ cs) (rw (same_as_itself mark) refl)
    (swapped_over mark background painted h k)
swapped_over mark background (Some d ∷ painted) h k =
    let first = or_parts (is_same mark d) (list_any (is_entry mark) painted) h in
    let second = or_parts (is_same background d) (list_any (is_entry background) painted) k in
    ap₂ (λ (c : Parts) (cs : List Parts). c ∷ cs) (apart_step mark background d first.0 second.0)
    (swapped_over mark background painted first.1 second.1)

-- a colour that isn't shown isn't painted
unpainted : (a mark : Parts) (painted : List (Option Parts)) → list_any (is_same a) (over mark painted) ≡ false
    → list_any (is_entry a) painted ≡ false
unpainted a mark [] h = refl
unpainted a mark (None ∷ painted) h = unpainted a mark painted (or_parts (is_same a mark) _ h).1
unpainted a mark (Some d ∷ painted) h =
    let both = or_parts (is_same a d) (list_any (is_same a) (over mark painted)) h in
    rw (both.0, unpainted a mark painted both.1) refl

count_none : {X : Type 0} (p : X → Bool) (xs : List X) → list_any p xs ≡ false → count_by p xs ≡ 0
count_none p [] h = refl
count_none p (x ∷ xs) h =
    let both = or_parts (p x) (list_any p xs) h in rw both.0 (count_none p xs both.1)

none_hidden : (background : Parts) (painted : List (Option Parts)) → list_any (is_entry background) painted ≡ false
    → hidden_among background painted ≡ 0
none_hidden background painted h = by (list_any is_none painted)
  where
    by : (b : Bool) → (if b then count_by (is_entry background) painted else 0) ≡ 0
    by true = count_none (is_entry background) painted h
    by false = refl

pub settled_replaced : (mark background : Parts) (register : ℕ) {count : ℕ} {palette : List (Option Parts)}
    {registers : List ℕ} {colours : List Parts} {painted : List (Option Parts)}
    → IsNumbered count palette registers colours → IsMarked mark false painted colours
    → position (is_entry mark) palette ≡ Some register → position (is_entry background) palette ≡ None
    → is_same mark background ≡ false
    → IsSettled count (slice_set palette register (Some background)) registers background painted
settled_replaced mark background register {count} {palette} {registers} {colours} {painted} is marked found none
    other =
    let at = position-Some (is_entry mark) palette register None found in
    let new : slice_set palette register (Some background) ≡ map (option_map (swapped mark background)) palette =
    entry_replaced mark background palette register
    (subst (IsOnce (is_entry mark)) (sym is.palette_is) (once_in_palette count mark colours is.few))
    (none_then_any (is_entry background) palette 0 (sym (position_from-zero (is_entry background) palette) ∙ none)) at.0 at.1
    in
    let not_shown = subst (λ (cs : List Parts). list_any (is_same background) cs ≡ false) marked.colours_are
    (absent background is none) in
    let not_painted = unpainted background mark painted not_shown in
    let colours_are : map (swapped mark background) colours ≡ over background painted =
    ap (λ (cs : List Parts). map (swapped mark background) cs) marked.colours_are
    ∙ sym (swapped_over mark background painted (marked.unpainted refl) not_painted) in
    record {
      numbered =
          subst (λ (p : List (Option Parts)). IsNumbered count p registers (over background painted)) (sym new)
          (subst (IsNumbered count (map (option_map (swapped mark background)) palette) registers) colours_are
          (numbered_mapped (swapped mark background) (swapped_same mark background other) is));
      none_hidden = none_hidden background painted not_painted;
    }

-- the settled parts, for the colours that were numbered
pub settled_for : (count : ℕ) (mark background : Parts) (has_hls : Bool) (colours : List Parts) (parts : PictureParts)
    (result : Option PictureParts) → IsNumbered count parts.palette parts.registers.items colours
    → IfSome result (λ p. (n : ℕ) (cs : List Parts) (painted : List (Option Parts))
    → IsNumbered n parts.palette parts.registers.items cs → IsMarked mark has_hls painted cs
    → IsSettled n p.palette p.registers.items background painted)
    → IfSome result (λ p. (painted : List (Option Parts)) → IsMarked mark has_hls painted colours
    → IsSettled count p.palette p.registers.items background painted)
settled_for count mark background has_hls colours parts None is h = tt
settled_for count mark background has_hls colours parts (Some p) is h = λ painted marked.
    h count colours painted is marked
