-- The columns of a register in a band, and the register's pixels.
use Rattle.std.proofs.Common.{◌≡◌, ℕ, zero, suc, ◌+◌, ◌*◌, ◌/◌, ◌%◌, ◌<◌, ◌≤◌, Bool, true, false, not, ◌&&◌, ◌||◌, List}
use Rattle.std.proofs.Common.{[], ◌∷◌, map, get_or, refl, sym, ap, ◌∙◌, subst, arith}
use Rattle.std.specs.Prelude.{◌==◌, if◌then◌else◌, nat_le, nat_lt}
use Rattle.std.specs.Int.{bit_at}
use Rattle.std.specs.List.{range_with_len}
use Rattle.std.proofs.Math.Bool.{and_assoc}
use Rattle.std.proofs.lemmas.Bool.{agree_below, agree_below_at, and_from, and_parts, eq-eqb, eqb-true, le-leb, leb-true}
use Rattle.std.proofs.lemmas.Bool.{lt-ltb, ltb-true, not-false, or_from, or_parts}
use Rattle.std.proofs.lemmas.Bool.Decides.{nat_tests}
use Rattle.sixel_model.specs.Pictures.{PictureValue, register_of}
use Rattle.sixel_model.specs.Geometry.{covers}
use Rattle.sixel_model.proofs.RunLemmas.{same_test}
use Rattle.sixel_model.proofs.CoverLemmas.{covers_under, lies_under, no_bits_cover}
use Rattle.sixel_encode.specs.Canon.{band_columns, below, column_bits, has_bits, has_pixel, without_blanks}
use Rattle.sixel_encode.proofs.BitLemmas.{bits_are, each_six_at, six}
use Rattle.sixel_encode_laws.proofs.StripLemmas.{lies, or_and, within_split}

-- ---- bits

-- bit k of the number made of six bits is the k-th of them
six_at : (t : ℕ → Bool) (k : ℕ) → k < 6 → (bit_at (six (t 0) (t 1) (t 2) (t 3) (t 4) (t 5)) k == 1) ≡ t k
six_at t k l =
    agree_below_at (λ i. bit_at (six (t 0) (t 1) (t 2) (t 3) (t 4) (t 5)) i == 1) t 6 k
    (each_six_at (λ a b c d e f. agree_below (λ i. bit_at (six a b c d e f) i == 1)
    (λ i. get_or (a ∷ b ∷ c ∷ d ∷ e ∷ f ∷ []) i false) 6) refl (t 0) (t 1) (t 2) (t 3) (t 4) (t 5)) l

-- a bit of a column
pub bit_is : (p : PictureValue) (band register x k : ℕ) → k < 6
    → (bit_at (column_bits p band register x) k == 1) ≡ has_pixel p band register x k
bit_is p band register x k l = ap (λ n. bit_at n k == 1) (bits_are p band register x)
    ∙ six_at (has_pixel p band register x) k l

-- the point is a pixel of the band
abbrev pub is_in_band : PictureValue → ℕ → ℕ → ℕ → Bool
is_in_band p band x y = nat_lt x p.width && (nat_lt y p.height && (y / 6 == band))

-- the point is a pixel of the band with the register
abbrev pub owns : PictureValue → ℕ → ℕ → ℕ → ℕ → Bool
owns p band register x y = is_in_band p band x y && (register_of p x y == register)

-- the same, in any column
abbrev is_here : PictureValue → ℕ → ℕ → ℕ → ℕ → Bool
is_here p band register x y = (nat_lt y p.height && (y / 6 == band)) && (register_of p x y == register)

-- the row of a pixel in its band
pub row_of_pixel : (p : PictureValue) (band register x y : ℕ) → is_here p band register x y ≡ true
    → (y ≡ 6 * band + y % 6) × (has_pixel p band register x (y % 6) ≡ true)
row_of_pixel p band register x y h =
    let parts = and_parts (nat_lt y p.height && (y / 6 == band)) (register_of p x y == register) h in
    let more = and_parts (nat_lt y p.height) (y / 6 == band) parts.0 in
    let q : y / 6 ≡ band = eqb-true (y / 6) band more.1 in
    let e : y ≡ 6 * band + y % 6 = omega arith in
    (e, subst (λ n. (nat_lt n p.height && (register_of p x n == register)) ≡ true) e (and_from _ _ more.0 parts.1))

-- ---- columns

-- columns without set bits paint nothing
lies_blank : (left band : ℕ) (bs : List ℕ) (x y : ℕ) → has_bits bs ≡ false → lies left band bs x y ≡ false
unfolding lies
lies_blank left band [] x y h = refl
lies_blank left band (b ∷ bs) x y h =
    let parts = or_parts (not (b == 0)) (has_bits bs) h in
    let zero_bits : b ≡ 0 = eqb-true b 0 (not-false (b == 0) parts.0) in
    or_from _ _ (no_bits_cover left 1 band b x y (rw zero_bits refl)) (lies_blank (left + 1) band bs x y parts.1)

blank_step : (left band b : ℕ) (bs : List ℕ) (x y : ℕ) (t : Bool) → (t ≡ false → lies left band (b ∷ bs) x y ≡ false)
    → lies (left + 1) band (without_blanks bs) x y ≡ lies (left + 1) band bs x y →
    lies left band (if t then b ∷ without_blanks bs else []) x y ≡ lies left band (b ∷ bs) x y
unfolding lies
blank_step left band b bs x y true h k = ap (λ o. covers left 1 band 1 b x y || o) k
blank_step left band b bs x y false h k = sym (h refl)

lies_without : (left band : ℕ) (bs : List ℕ) (x y : ℕ) → lies left band (without_blanks bs) x y ≡ lies left band bs x y
lies_without left band [] x y = refl
lies_without left band (b ∷ bs) x y =
    blank_step left band b bs x y (has_bits (b ∷ bs)) (lies_blank left band (b ∷ bs) x y)
    (lies_without (left + 1) band bs x y)

-- the bits of a column paint its pixels with the register
column_forth : (p : PictureValue) (band register a x y : ℕ)
    → covers a 1 band 1 (column_bits p band register a) x y ≡ true
    → ((nat_le a x && nat_lt x (a + 1)) && is_here p band register x y) ≡ true
column_forth p band register a x y h =
    let u = lies_under a 1 band (column_bits p band register a) x y h in
    let from : a ≤ x = u.from in
    let to : x < a + 1 = u.to in
    let same : a ≡ x = omega arith in
    let row : y ≡ 6 * band + u.bit = u.row in
    let below : u.bit < 6 = u.below in
    let line : y / 6 ≡ band = omega arith in
    let here : has_pixel p band register a u.bit ≡ true =
    sym (bit_is p band register a u.bit below) ∙ eq-eqb _ 1 u.set in
    let pixel : (nat_lt y p.height && (register_of p x y == register)) ≡ true = rw (← row, same) at here in
    let parts = and_parts (nat_lt y p.height) (register_of p x y == register) pixel in
    and_from _ _ (and_from _ _ (le-leb a x from) (lt-ltb x (a + 1) to))
    (and_from _ _ (and_from _ _ parts.0 (eq-eqb (y / 6) band line)) parts.1)

column_back : (p : PictureValue) (band register a x y : ℕ)
    → ((nat_le a x && nat_lt x (a + 1)) && is_here p band register x y) ≡ true
    → covers a 1 band 1 (column_bits p band register a) x y ≡ true
column_back p band register a x y h =
    let parts = and_parts (nat_le a x && nat_lt x (a + 1)) (is_here p band register x y) h in
    let within = and_parts (nat_le a x) (nat_lt x (a + 1)) parts.0 in
    let from : a ≤ x = leb-true a x within.0 in
    let to : x < a + 1 = ltb-true x (a + 1) within.1 in
    let same : x ≡ a = omega arith in
    let row = row_of_pixel p band register x y parts.1 in
    let under : y % 6 < 6 = omega arith in
    let here : has_pixel p band register a (y % 6) ≡ true = rw same at row.1 in
    covers_under a 1 band (column_bits p band register a) x y (record {
      bit = y % 6;
      below = under;
      set = eqb-true _ 1 (bit_is p band register a (y % 6) under ∙ here);
      row = row.0;
      from = from;
      to = to;
    })

lies_range : (p : PictureValue) (band register n a x y : ℕ)
    → lies a band (map (column_bits p band register) (range_with_len a n)) x y
    ≡ ((nat_le a x && nat_lt x (a + n)) && is_here p band register x y)
unfolding lies
lies_range p band register zero a x y =
    let none : (nat_le a x && nat_lt x (a + 0)) ≡ false = grind (arith, nat_tests) in rw none refl
lies_range p band register (suc n) a x y =
    let one : covers a 1 band 1 (column_bits p band register a) x y
    ≡ ((nat_le a x && nat_lt x (a + 1)) && is_here p band register x y) =
    same_test _ _ (column_forth p band register a x y) (column_back p band register a x y) in
    rw (within_split a n x, one, lies_range p band register n (a + 1) x y)
    (sym (or_and (nat_le a x && nat_lt x (a + 1)) (nat_le (a + 1) x && nat_lt x (a + 1 + n))
    (is_here p band register x y)))

-- the columns of a register paint exactly its pixels
pub lies_owns : (p : PictureValue) (band register x y : ℕ)
    → lies 0 band (band_columns p band register) x y ≡ owns p band register x y
unfolding band_columns
lies_owns p band register x y =
    let inside : (nat_le 0 x && nat_lt x (0 + p.width)) ≡ nat_lt x p.width = grind (arith, nat_tests) in
    lies_without 0 band (map (column_bits p band register) (below p.width)) x y
    ∙ lies_range p band register p.width 0 x y
    ∙ rw inside (sym (and_assoc (nat_lt x p.width) _ (register_of p x y == register)))
