-- Which registers occur in a band.
use Rattle.std.proofs.Common.{◌≡◌, ℕ, ◌<◌, Bool, true, not, ◌||◌, List, [], ◌∷◌, map, refl, sym, ap, ◌∙◌, arith}
use Rattle.std.specs.Prelude.{◌==◌}
use Rattle.std.specs.List.{list_any}
use Rattle.sixel_model.specs.Pictures.{PictureValue}
use Rattle.sixel_encode.specs.Canon.{below, column_bits, has_pixel, occurs}
use Rattle.sixel_encode.proofs.BitLemmas.{column_has}
use Rattle.sixel_encode.proofs.RangeLemmas.{any_range}

any_map : (f : ℕ → ℕ) (q : ℕ → Bool) (xs : List ℕ) → list_any q (map f xs) ≡ list_any (λ x. q (f x)) xs
any_map f q [] = refl
any_map f q (x ∷ xs) = ap (λ (t : Bool). q (f x) || t) (any_map f q xs)

pub occurs_is : (p : PictureValue) (band r : ℕ)
    → occurs p band r ≡ list_any (λ x. not (column_bits p band r x == 0)) (below p.width)
unfolding occurs
occurs_is p band r = any_map (column_bits p band r) (λ bits. not (bits == 0)) (below p.width)

-- the register of a pixel of a band occurs there
pub pixel_occurs : (p : PictureValue) (band r x k : ℕ) → x < p.width → k < 6 → has_pixel p band r x k ≡ true
    → occurs p band r ≡ true
pixel_occurs p band r x k l m here =
    occurs_is p band r
    ∙ any_range p.width 0 x (λ u. not (column_bits p band r u == 0)) (omega arith) (omega arith)
    (sym (column_has p band r x) ∙ any_range 6 0 k (has_pixel p band r x) (omega arith) (omega arith) here)
