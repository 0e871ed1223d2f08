-- Pixels by their index, and by their column and row.
use Rattle.std.proofs.Common.{◌≡◌, ◌<◌, ◌≤◌, ◌+◌, ◌-◌, ◌*◌, ◌/◌, ◌%◌, ◌⊎◌, ℕ, List, Option, Some, None, length, map}
use Rattle.std.proofs.Common.{refl, sym, ap, subst, ◌∙◌, arith}
use Rattle.std.proofs.Common.{inl, inr, get_or, suc, zero}
use Rattle.std.specs.Prelude.{slice_get}
use Rattle.std.specs.Option.{option_map}
use Rattle.std.proofs.lemmas.Bool.{cases_lt}
use Rattle.std.proofs.lemmas.List.{length-map}
use Rattle.std.proofs.lemmas.Nat.{div-add-mod', mod_below, mul-add-lt, row_below_turned, row_fits}
use Rattle.std.proofs.lemmas.Option.{none-some, same_Some, slice_get-map, slice_get-get_or, slice_get_within}
use Rattle.sixel_model.specs.declared.colour.Parts.{Parts}
use Rattle.sixel_terminal.specs.declared.pixel.Ink.{Ink}
use Rattle.sixel_terminal.specs.Screens.{Shown, colour_in_ink}
use Rattle.sixel_differ.specs.Pixels.{AreAlike, AreSameBelow, ComesBefore, DifferFirstAt, IsFirstUnlike, seen_at}
use Rattle.sixel_differ.specs.Pixels.{seen_in, seen_in_pixel, seen_of}

-- ---- what is seen of inks

mapped : (o : Option Ink) → option_map seen_in o ≡ option_map seen_of (option_map colour_in_ink o)
mapped None = refl
mapped (Some ink) = refl

-- what is seen of the colours of these inks
seen_colours : List Ink → ℕ → Option Parts
seen_colours inks k = option_map seen_of (slice_get (map colour_in_ink inks) k)

of_inks : (inks : List Ink) (k : ℕ) → seen_in_pixel inks k ≡ seen_colours inks k
unfolding seen_colours
of_inks inks k =
    mapped (slice_get inks k) ∙ ap (option_map seen_of) (sym (slice_get-map colour_in_ink inks k))

same_colour : (p q : List Ink) (k : ℕ) → seen_in_pixel p k ≡ seen_in_pixel q k → seen_colours p k ≡ seen_colours q k
same_colour p q k e = sym (of_inks p k) ∙ e ∙ of_inks q k

same_ink : (p q : List Ink) (k : ℕ) → seen_colours p k ≡ seen_colours q k → seen_in_pixel p k ≡ seen_in_pixel q k
same_ink p q k e = of_inks p k ∙ e ∙ sym (of_inks q k)

-- ---- columns and rows

-- a pixel that comes before the one with this index has a lower index
pub index_below : (w at u v : ℕ) → u < w → ComesBefore u v (at % w) (at / w) → v * w + u < at
index_below w at u v wide (inl above) =
    omega (arith, row_fits v w (at / w) w above (omega arith), wide, div-add-mod' at w)
index_below w at u v wide (inr same) =
    subst (λ (n : ℕ). v * w + u < n) (div-add-mod' at w)
    (subst (λ (row : ℕ). v * w + u < row * w + at % w) same.0 (omega (arith, same.1)))

-- the screens of these pixels
pub record ArePixels (a b : Shown) (p q : List Ink) : Type 0 where
  pub first : map colour_in_ink p ≡ a.colours
  pub second : map colour_in_ink q ≡ b.colours
  pub width : a.width ≡ b.width
  pub whole : length a.colours ≡ a.width * a.height

long_as : (a b : Shown) (p q : List Ink) → ArePixels a b p q → length p ≡ a.width * a.height
long_as a b p q are =
    sym (length-map p colour_in_ink) ∙ ap (λ (cs : List Parts). length cs) are.first ∙ are.whole

-- what is seen of the colour with this index
seen_get : List Parts → ℕ → Option Parts
seen_get colours k = option_map seen_of (slice_get colours k)

-- what is seen at a pixel is what is seen at its index
at_pixel : (a b : Shown) (p q : List Ink) (x y k : ℕ) → ArePixels a b p q → y * a.width + x ≡ k
    → seen_colours p k ≡ seen_colours q k → seen_at a x y ≡ seen_at b x y
unfolding seen_colours seen_get
at_pixel a b p q x y k are is e =
    ap (λ (n : ℕ). seen_get a.colours n) is ∙ ap (λ (cs : List Parts). seen_get cs k) (sym are.first) ∙ e
    ∙ ap (λ (cs : List Parts). seen_get cs k) are.second ∙ ap (λ (n : ℕ). seen_get b.colours n) (sym is)
    ∙ ap (λ (w : ℕ). seen_get b.colours (y * w + x)) are.width

at_index : (a b : Shown) (p q : List Ink) (x y k : ℕ) → ArePixels a b p q → y * a.width + x ≡ k
    → seen_at a x y ≡ seen_at b x y → seen_colours p k ≡ seen_colours q k
unfolding seen_colours seen_get
at_index a b p q x y k are is e =
    ap (λ (cs : List Parts). seen_get cs k) are.first ∙ ap (λ (n : ℕ). seen_get a.colours n) (sym is) ∙ e
    ∙ ap (λ (w : ℕ). seen_get b.colours (y * w + x)) (sym are.width)
    ∙ ap (λ (n : ℕ). seen_get b.colours n) is ∙ ap (λ (cs : List Parts). seen_get cs k) (sym are.second)

-- ---- the first pixel

pub alike : (a b : Shown) (p q : List Ink) → ArePixels a b p q → AreSameBelow p q (length p) → AreAlike a b
alike a b p q are same = λ x y wide high.
    let k = y * a.width + x in
    let lt : k < length p =
    subst (λ (n : ℕ). k < n) (sym (long_as a b p q are)) (mul-add-lt y a.width x a.height high wide) in
    at_pixel a b p q x y k are refl (same_colour p q k (same k lt))

pub some_width : (w h at : ℕ) → at < w * h → 0 < w
some_width zero h at lt = absurd (omega (arith, lt))
some_width (suc w) h at lt = omega arith

pub differ_first : (a b : Shown) (p q : List Ink) (at x y : ℕ) → ArePixels a b p q → x ≡ at % a.width
    → y ≡ at / a.width → IsFirstUnlike p q at → DifferFirstAt a b x y
differ_first a b p q at x y are c r is =
    subst (λ (n : ℕ). DifferFirstAt a b n y) (sym c) (subst (λ (n : ℕ). DifferFirstAt a b (at % a.width) n) (sym r)
    (record {
      column = mod_below at a.width wide;
      row = below;
      differ = λ e. is.unlike (same_ink p q at
          (at_index a b p q (at % a.width) (at / a.width) at are (div-add-mod' at a.width) e));
      before = λ u v wide_u high first.
          at_pixel a b p q u v (v * a.width + u) are refl
          (same_colour p q (v * a.width + u) (is.before (v * a.width + u) (index_below a.width at u v wide_u first)));
    }))
  where
    within : at < a.width * a.height
    within = subst (λ (n : ℕ). at < n) (long_as a b p q are) is.within

    wide : 0 < a.width
    wide = some_width a.width a.height at within

    below : at / a.width < a.height
    below = (row_below_turned at a.width a.height a.width (omega (arith, within)) (omega arith)).1

-- ---- four at once

four_more_at : (p q : List Ink) (at k : ℕ) → AreSameBelow p q at
    → ((j : ℕ) → j < 4 → slice_get p (at + j) ≡ slice_get q (at + j)) → k < at + 4 → (k < at) ⊎ (at ≤ k)
    → seen_in_pixel p k ≡ seen_in_pixel q k
four_more_at p q at k below four lt (inl earlier) = below k earlier
four_more_at p q at k below four lt (inr later) =
    let is : at + (k - at) ≡ k = omega (arith, later) in
    ap (option_map seen_in)
    (subst (λ (n : ℕ). slice_get p n ≡ slice_get q n) is (four (k - at) (omega (arith, lt, later))))

-- the pixels below an index look the same, and the four from there on are the same
pub four_more : (p q : List Ink) (at : ℕ) → AreSameBelow p q at
    → ((j : ℕ) → j < 4 → slice_get p (at + j) ≡ slice_get q (at + j)) → AreSameBelow p q (at + 4)
four_more p q at below four = λ k lt. four_more_at p q at k below four lt (cases_lt k at)
