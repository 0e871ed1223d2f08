-- Runs of pixels that show the same.
use Rattle.std.proofs.Common.{◌≡◌, ◌≤◌, ◌<◌, ◌+◌, ◌-◌, ◌++◌, ◌∷◌, ◌∙◌, [], ℕ, zero, suc, List, Option, None, Some}
use Rattle.std.proofs.Common.{ap, arith, drop, get_or, inl, inr, length, map, refl, replicate, subst, sym, take, true}
use Rattle.std.specs.Prelude.{slice_get}
use Rattle.std.specs.List.{list_any}
use Rattle.std.proofs.lemmas.Bool.{cases_lt}
use Rattle.std.proofs.lemmas.List.{append-nil, append_assoc, get_or-map, get_or-take, length-take-le, map-append}
use Rattle.std.proofs.lemmas.List.{replicate_more, take-append-drop, take_more}
use Rattle.std.proofs.lemmas.Option.{same_Some, slice_get-get_or, slice_get_within}
use Rattle.sixel_model.specs.Colours.{is_same}
use Rattle.sixel_model.specs.declared.colour.Parts.{Parts}
use Rattle.sixel_ppm.specs.declared.ppm.colours.Colours.{Colours}
use Rattle.sixel_ppm.specs.PpmColours.{Fills, HasRegister}
use Rattle.sixel_ppm.specs.PpmReading.{distinct, register_among, with_colour}
use Rattle.sixel_ppm.specs.PpmSamples.{HoldsPixels}
use Rattle.sixel_ppm.proofs.PpmSampleLemmas.{distinct-snoc, holds_more}
use Rattle.sixel_terminal.specs.declared.pixel.Ink.{Ink}
use Rattle.sixel_terminal.specs.Screens.{colour_in_ink}
use Rattle.sixel_mend.specs.declared.numbering.Numbered.{Numbered}
use Rattle.sixel_mend.specs.Numbering.{AreAll, KnowsLast}
use Rattle.sixel_mend.proofs.NumberLemmas.{seen_at}
use Rattle.sixel_mend.proofs.RepeatLemmas.{seen_again, seen_before}

-- the colours of the first pixels
abbrev pub colours_to : List Ink → ℕ → List Parts
colours_to pixels i = map colour_in_ink (take i pixels)

-- the colours of the pixels up to and including this one
pub one_more : (pixels : List Ink) (i : ℕ) (pixel : Ink) → slice_get pixels i ≡ Some pixel
    → colours_to pixels (i + 1) ≡ colours_to pixels i ++ colour_in_ink pixel ∷ []
one_more pixels i pixel there =
    let lt : i < length pixels = slice_get_within pixels i pixel there in
    let is : get_or pixels i pixel ≡ pixel =
    same_Some (get_or pixels i pixel) pixel (sym (slice_get-get_or pixels i pixel lt) ∙ there) in
    let more : take (i + 1) pixels ≡ take i pixels ++ pixel ∷ [] =
    take_more pixels i pixel lt ∙ ap (λ (x : Ink). take i pixels ++ x ∷ []) is in
    ap (λ (xs : List Ink). map colour_in_ink xs) more ∙ map-append colour_in_ink (take i pixels) (pixel ∷ [])

-- the colours seen with this pixel
pub distinct_more : (pixels : List Ink) (i : ℕ) (pixel : Ink) → slice_get pixels i ≡ Some pixel
    → distinct (colours_to pixels (i + 1)) ≡ with_colour (distinct (colours_to pixels i)) (colour_in_ink pixel)
distinct_more pixels i pixel there =
    ap distinct (one_more pixels i pixel there) ∙ distinct-snoc (colours_to pixels i) (colour_in_ink pixel)

-- the state after one more pixel
pub pushed : {kept more : Colours} {registers : List ℕ} (pixels : List Ink) (i : ℕ) (pixel : Ink) (register : ℕ)
    → slice_get pixels i ≡ Some pixel
    → HoldsPixels kept None 0 registers (length pixels - i) (length pixels) (colours_to pixels i)
    → register
    ≡ register_among (with_colour (distinct (colours_to pixels i)) (colour_in_ink pixel)) (colour_in_ink pixel)
    → Fills more (with_colour (distinct (colours_to pixels i)) (colour_in_ink pixel))
    → HoldsPixels more None 0 (registers ++ register ∷ []) (length pixels - (i + 1)) (length pixels)
    (colours_to pixels (i + 1))
pushed {kept} {more} {registers} pixels i pixel register there holds is fills =
    let lt : i < length pixels = slice_get_within pixels i pixel there in
    let less : (length pixels - (i + 1)) + 1 ≡ length pixels - i = omega (arith, lt) in
    subst
    (λ (cs : List Parts). HoldsPixels more None 0 (registers ++ register ∷ []) (length pixels - (i + 1))
    (length pixels) cs) (sym (one_more pixels i pixel there))
    (holds_more kept more None None 0 registers (length pixels - i) (length pixels) (colours_to pixels i)
    (colour_in_ink pixel) register (length pixels - (i + 1)) less holds fills tt is)

-- the state before a pixel whose colour was seen
pub record Repeats (kept : Colours) (last : Option Numbered) (pixels : List Ink) (pixel : Ink) (register : ℕ)
    (registers : List ℕ) (i : ℕ) : Type 0 where
  pub holds : HoldsPixels kept None 0 registers (length pixels - i) (length pixels) (colours_to pixels i)
  pub has : HasRegister (distinct (colours_to pixels i)) (colour_in_ink pixel) register
  pub knows : KnowsLast last (distinct (colours_to pixels i))

once_more : {kept : Colours} {last : Option Numbered} {pixels : List Ink} {pixel : Ink} {register : ℕ}
    {registers : List ℕ} {i : ℕ} → slice_get pixels i ≡ Some pixel → Repeats kept last pixels pixel register registers i
    → Repeats kept last pixels pixel register (registers ++ register ∷ []) (i + 1)
once_more {last} {pixels} {pixel} {register} {i} there before =
    let seen = distinct (colours_to pixels i) in
    let again = seen_again last pixel register before.has before.holds.fills before.knows in
    let same : distinct (colours_to pixels (i + 1)) ≡ seen =
    distinct_more pixels i pixel there ∙ seen_before seen (colour_in_ink pixel) before.has.0 in
    record {
      holds = pushed pixels i pixel register there before.holds again.0 again.1;
      has = subst (λ (s : List Parts). HasRegister s (colour_in_ink pixel) register) (sym same) before.has;
      knows = subst (λ (s : List Parts). KnowsLast last s) (sym same) before.knows;
    }

-- and after a run of it
pub repeated : {kept : Colours} {last : Option Numbered} {pixels : List Ink} {pixel : Ink} {register : ℕ}
    {registers : List ℕ} {i : ℕ} (n end : ℕ) → end ≡ i + n → AreAll pixels i end pixel
    → Repeats kept last pixels pixel register registers i
    → Repeats kept last pixels pixel register (registers ++ replicate n register) end
repeated {kept} {last} {pixels} {pixel} {register} {registers} {i} zero end is all before =
    let same : end ≡ i = omega (arith, is) in
    subst (λ (e : ℕ). Repeats kept last pixels pixel register (registers ++ replicate 0 register) e) (sym same)
    (subst (λ (rs : List ℕ). Repeats kept last pixels pixel register rs i) (sym (append-nil registers)) before)
repeated {kept} {last} {pixels} {pixel} {register} {registers} {i} (suc n) end is all before =
    let less : end ≡ (i + n) + 1 = omega (arith, is) in
    let first = repeated n (i + n) refl (λ k from to. all k from (omega (arith, to, less))) before in
    let one = once_more (all (i + n) (omega arith) (omega (arith, less))) first in
    let counted : n + 1 ≡ suc n = omega arith in
    let joined : (registers ++ replicate n register) ++ register ∷ [] ≡ registers ++ replicate (suc n) register =
    append_assoc registers (replicate n register) (register ∷ [])
    ∙ ap (λ (rs : List ℕ). registers ++ rs) (replicate_more n register)
    ∙ ap (λ (k : ℕ). registers ++ replicate k register) counted in
    subst (λ (e : ℕ). Repeats kept last pixels pixel register (registers ++ replicate (suc n) register) e) (sym less)
    (subst (λ (rs : List ℕ). Repeats kept last pixels pixel register rs ((i + n) + 1)) joined one)

-- ---- the run of the pixel before

-- the pixel before an index has its register
pub last_has : {kept : Colours} {registers : List ℕ} (pixels : List Ink) (i j : ℕ) (pixel : Ink) (register : ℕ) → j < i
    → i ≤ length pixels → HoldsPixels kept None 0 registers (length pixels - i) (length pixels) (colours_to pixels i)
    → slice_get pixels j ≡ Some pixel → register ≡ get_or registers j 0
    → HasRegister (distinct (colours_to pixels i)) (colour_in_ink pixel) register
last_has pixels i j pixel register low inside holds there read =
    let colours = colours_to pixels i in
    let seen = distinct colours in
    let long : length colours ≡ i = omega (arith, holds.whole, inside) in
    let lt : j < length colours = omega (arith, long, low) in
    let few : j < length (take i pixels) = omega (arith, low, length-take-le i pixels inside) in
    let d : Parts = colour_in_ink pixel in
    let is : get_or pixels j pixel ≡ pixel =
    same_Some (get_or pixels j pixel) pixel
    (sym (slice_get-get_or pixels j pixel (omega (arith, low, inside))) ∙ there) in
    let colour : get_or colours j d ≡ colour_in_ink pixel =
    get_or-map colour_in_ink (take i pixels) j pixel d few ∙ ap colour_in_ink (get_or-take i pixels j pixel low ∙ is) in
    let any = seen_at seen colours j d holds.all_seen lt in (
      subst (λ (c : Parts). list_any (is_same c) seen ≡ true) colour any,
      read ∙ ap (λ (rs : List ℕ). get_or rs j 0) holds.numbered ∙ get_or-map (register_among seen) colours j d 0 lt
          ∙ ap (register_among seen) colour,
    )

-- two runs of it after each other
pub all_of_both : (pixels : List Ink) (from mid to : ℕ) (first pixel : Ink) (j : ℕ) → slice_get pixels j ≡ Some first
    → slice_get pixels j ≡ Some pixel → AreAll pixels from mid first → AreAll pixels mid to pixel
    → AreAll pixels from to pixel
all_of_both pixels from mid to first pixel j here there before after k low high =
    let same : first ≡ pixel = same_Some first pixel (sym here ∙ there) in
    elim (cases_lt k mid) [
      | inl near ↦ before k low near ∙ ap (λ (p : Ink). Some p) same
      | inr far ↦ after k far high
    ]

-- the colours of all pixels are those of the first ones, and others
pub then_the_rest : (pixels : List Ink) (i : ℕ)
    → colours_to pixels i ++ map colour_in_ink (drop i pixels) ≡ map colour_in_ink pixels
then_the_rest pixels i =
    sym (map-append colour_in_ink (take i pixels) (drop i pixels))
    ∙ ap (λ (xs : List Ink). map colour_in_ink xs) (take-append-drop i pixels)
