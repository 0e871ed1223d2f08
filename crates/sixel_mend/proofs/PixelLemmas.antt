-- Pixels of two screens, compared one by one.
use Rattle.std.proofs.Common.{◌≡◌, ◌+◌, ◌<◌, ◌∙◌, ℕ, Bool, false, true, List, Option, Some, ap, ap₂, arith, cond, get_or}
use Rattle.std.proofs.Common.{length, map, refl, subst, sym, take}
use Rattle.std.specs.Prelude.{◌↔◌, IsTrue, count_by, slice_get, unwrap_or}
use Rattle.std.proofs.lemmas.List.{get_or-map, length-map}
use Rattle.std.proofs.lemmas.List.Sums.{sum_by_more}
use Rattle.std.proofs.lemmas.Option.{slice_get-get_or}
use Rattle.sixel_model.specs.declared.colour.Parts.{Parts}
use Rattle.sixel_model.specs.Colours.{is_same}
use Rattle.sixel_ppm.proofs.PpmColourLemmas.{same_as_itself}
use Rattle.sixel_terminal.specs.declared.pixel.Ink.{Ink}
use Rattle.sixel_terminal.specs.declared.pixel.Ink.TheVariants.{Bound, Fixed}
use Rattle.sixel_terminal.specs.Screens.{IsAllFixed, IsFixed, colour_in_ink}
use Rattle.sixel_mend.specs.Marking.{over}
use Rattle.sixel_mend.proofs.HiddenLemmas.{IsUnpainted, unpainted_at}
use Rattle.sixel_mend.proofs.NumberLemmas.{same_is}

-- ---- inks and their colours

-- two colours are the same exactly if the inks are
same_ink : (a b : Ink) → IsFixed a → IsFixed b → colour_in_ink a ≡ colour_in_ink b → a ≡ b
same_ink (Fixed c) (Fixed d) p q same = ap (λ (x : Parts). Fixed x) same
same_ink (Fixed c) (Bound r) p q same = absurd q
same_ink (Bound r) b p q same = absurd p

ink_colour : (a b : Ink) → a ≡ b → is_same (colour_in_ink b) (colour_in_ink a) ≡ true
ink_colour a b same =
    subst (λ (x : Ink). is_same (colour_in_ink b) (colour_in_ink x) ≡ true) (sym same) (same_as_itself (colour_in_ink b))

other_colour : (a b : Ink) → IsFixed a → IsFixed b → (a ≡ b → ⊥)
    → is_same (colour_in_ink b) (colour_in_ink a) ≡ false
other_colour a b p q differ = by (is_same (colour_in_ink b) (colour_in_ink a)) refl
  where
    by : (x : Bool) → is_same (colour_in_ink b) (colour_in_ink a) ≡ x → x ≡ false
    by false e = refl
    by true e = absurd (differ (same_ink a b p q (sym (same_is (colour_in_ink b) (colour_in_ink a) e))))

-- a test of inks is one of their colours
same_test : (a b : Ink) (t : Bool) → IsFixed a → IsFixed b → (IsTrue t ↔ (a ≡ b))
    → t ≡ is_same (colour_in_ink b) (colour_in_ink a)
same_test a b true p q same = sym (ink_colour a b (same.0 refl))
same_test a b false p q same =
    sym (other_colour a b p q (λ e. let bad : false ≡ true = same.1 e in cc))

-- ---- one more pixel

pub counted_more : (pixels : List Ink) (pixel other : Ink) (i count : ℕ) (t : Bool) → i < length pixels
    → other ≡ get_or pixels i other → IsAllFixed pixels → IsFixed pixel → (IsTrue t ↔ (other ≡ pixel))
    → count ≡ count_by (is_same (colour_in_ink pixel)) (take i (map colour_in_ink pixels))
    → count + cond t 1 0 ≡ count_by (is_same (colour_in_ink pixel)) (take (i + 1) (map colour_in_ink pixels))
counted_more pixels pixel other i count t lt is all fixed same before =
    let c = colour_in_ink other in
    let there : get_or (map colour_in_ink pixels) i c ≡ c =
    get_or-map colour_in_ink pixels i other c lt ∙ ap colour_in_ink (sym is) in
    let other_fixed : IsFixed other = subst IsFixed (sym is) (all i other lt) in
    let within : i < length (map colour_in_ink pixels) = omega (arith, lt, length-map pixels colour_in_ink) in
    let test : t ≡ is_same (colour_in_ink pixel) (get_or (map colour_in_ink pixels) i c) =
    same_test other pixel t other_fixed fixed same ∙ ap (is_same (colour_in_ink pixel)) (sym there) in
    ap₂ (λ (n : ℕ) (b : Bool). n + cond b 1 0) before test
    ∙ sym (sum_by_more (λ (x : Parts). cond (is_same (colour_in_ink pixel) x) 1 0) (map colour_in_ink pixels) i c within)

-- ---- a pixel in which two screens differ

-- it isn't painted
pub unpainted_pixel : {background : Parts} {painted : List (Option Parts)} (mark : Parts) (marked shown : List Ink)
    (i : ℕ) (pixel : Ink) → i < length marked → length marked ≡ length shown → pixel ≡ get_or shown i pixel
    → (slice_get marked i ≡ slice_get shown i → ⊥) → IsAllFixed marked → IsAllFixed shown
    → map colour_in_ink marked ≡ over mark painted → map colour_in_ink shown ≡ over background painted
    → IsUnpainted background painted (colour_in_ink pixel)
unpainted_pixel {background} {painted} mark marked shown i pixel lt long is differ p q e f =
    let x = get_or marked i pixel in
    let below : i < length shown = omega (arith, lt, long) in
    let fixed : IsFixed pixel = subst IsFixed (sym is) (q i pixel below) in
    let within : i < length painted =
    omega (
      arith,
      lt,
      length-map marked colour_in_ink,
      ap (λ (cs : List Parts). length cs) e,
      length-map painted (λ (o : Option Parts). unwrap_or o mark),
    ) in
    unpainted_at mark background painted i (colour_in_ink x) (colour_in_ink pixel) within
    (ap (λ (cs : List Parts). get_or cs i (colour_in_ink x)) (sym e)
    ∙ get_or-map colour_in_ink marked i pixel (colour_in_ink x) lt)
    (ap (λ (cs : List Parts). get_or cs i (colour_in_ink pixel)) (sym f)
    ∙ get_or-map colour_in_ink shown i pixel (colour_in_ink pixel) below ∙ ap colour_in_ink (sym is))
    (λ same.
    differ (slice_get-get_or marked i pixel lt
    ∙ ap (λ (ink : Ink). Some ink) (same_ink x pixel (p i pixel lt) fixed same ∙ is)
    ∙ sym (slice_get-get_or shown i pixel below)))
