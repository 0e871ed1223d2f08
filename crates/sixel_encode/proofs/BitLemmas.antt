-- The bits of a column.
use Rattle.std.proofs.Common.{◌≡◌, ℕ, ◌+◌, ◌*◌, ◌%◌, ◌^◌, ◌<◌, ◌≤◌, Bool, true, false, not, ◌&&◌}
use Rattle.std.proofs.Common.{◌||◌, cond, refl, sym, ap, ◌∙◌, add-one, arith}
use Rattle.std.specs.Prelude.{◌==◌, nat_le, sum_by, if◌then◌else◌}
use Rattle.std.specs.List.{list_any}
use Rattle.std.proofs.lemmas.Bool.{agree_below_at, and_parts, eqb-true, leb-true}
use Rattle.std.proofs.Math.Nat.{two-pow-succ}
use Rattle.std.proofs.lemmas.List.Sums.{sum_by_push}
use Rattle.sixel_model.specs.Pictures.{PictureValue}
use Rattle.sixel_encode.specs.Canon.{below, column_bits, has_pixel}
use Rattle.sixel_encode.specs.Columns.{bits_to}
use Rattle.sixel_encode.proofs.RangeLemmas.{below_then}

-- ---- facts about six Bools

-- six bits as a number
abbrev pub six : Bool → Bool → Bool → Bool → Bool → Bool → ℕ
six a b c d e f = 0 + cond a 1 0 + cond b 2 0 + cond c 4 0 + cond d 8 0 + cond e 16 0 + cond f 32 0

abbrev pub same : Bool → Bool → Bool
same true b = b
same false b = not b

abbrev pub each_bool : (Bool → Bool) → Bool
each_bool f = f true && f false

-- whether a test of six bits always passes
abbrev pub each_six : (Bool → Bool → Bool → Bool → Bool → Bool → Bool) → Bool
each_six t = each_bool
    (λ a. each_bool (λ b. each_bool (λ c. each_bool (λ d. each_bool (λ e. each_bool (λ f. t a b c d e f))))))

each_bool_at : (f : Bool → Bool) → each_bool f ≡ true → (b : Bool) → f b ≡ true
each_bool_at f h true = (and_parts (f true) (f false) h).0
each_bool_at f h false = (and_parts (f true) (f false) h).1

pub each_six_at : (t : Bool → Bool → Bool → Bool → Bool → Bool → Bool) → each_six t ≡ true
    → (a b c d e f : Bool) → t a b c d e f ≡ true
each_six_at t h a b c d e f =
    each_bool_at (λ f. t a b c d e f) (each_bool_at (λ e. each_bool (λ f. t a b c d e f))
    (each_bool_at (λ d. each_bool (λ e. each_bool (λ f. t a b c d e f)))
    (each_bool_at (λ c. each_bool (λ d. each_bool (λ e. each_bool (λ f. t a b c d e f))))
    (each_bool_at (λ b. each_bool (λ c. each_bool (λ d. each_bool (λ e. each_bool (λ f. t a b c d e f)))))
    (each_bool_at (λ a. each_bool
    (λ b. each_bool (λ c. each_bool (λ d. each_bool (λ e. each_bool (λ f. t a b c d e f))))))
    h a) b) c) d) e) f

pub from_same : (a b : Bool) → same a b ≡ true → b ≡ a
from_same true b h = h
from_same false true h = cc h
from_same false false h = refl

-- ---- a column

pub bits_are : (p : PictureValue) (band register x : ℕ) → column_bits p band register x
    ≡ six (has_pixel p band register x 0) (has_pixel p band register x 1) (has_pixel p band register x 2)
    (has_pixel p band register x 3) (has_pixel p band register x 4) (has_pixel p band register x 5)
unfolding column_bits
bits_are p band register x = refl

-- a column's bits are at most 63
pub column_most : (p : PictureValue) (band register x : ℕ) → column_bits p band register x ≤ 63
column_most p band register x =
    rw (bits_are p band register x)
    (leb-true _ 63 (each_six_at (λ a b c d e f. nat_le (six a b c d e f) 63) refl
    (has_pixel p band register x 0) (has_pixel p band register x 1) (has_pixel p band register x 2)
    (has_pixel p band register x 3) (has_pixel p band register x 4) (has_pixel p band register x 5)))

-- a column has a set bit exactly if one of its pixels has the register
pub column_has : (p : PictureValue) (band register x : ℕ)
    → list_any (has_pixel p band register x) (below 6) ≡ not (column_bits p band register x == 0)
column_has p band register x =
    rw (bits_are p band register x)
    (sym (from_same _ _ (each_six_at (λ a b c d e f.
    same (a || (b || (c || (d || (e || (f || false)))))) (not (six a b c d e f == 0))) refl
    (has_pixel p band register x 0) (has_pixel p band register x 1) (has_pixel p band register x 2)
    (has_pixel p band register x 3) (has_pixel p band register x 4) (has_pixel p band register x 5))))

-- the weight of a row's bit, in a byte
pub weight_is : (k : ℕ) → k < 6 → 1 * 2 ^ k % 256 ≡ 2 ^ k
weight_is k h = eqb-true _ _ (agree_below_at (λ i. 1 * 2 ^ i % 256 == 2 ^ i) (λ i. true) 6 k refl h)

bits_then : (has : ℕ → Bool) (row : ℕ) → bits_to has (row + 1) ≡ bits_to has row + (if has row then 2 ^ row else 0)
bits_then has row =
    ap (sum_by (λ k. if has k then 2 ^ k else 0)) (below_then row)
    ∙ sum_by_push (λ k. if has k then 2 ^ k else 0) (below row) row

twice : (row : ℕ) → 2 ^ (row + 1) ≡ 2 ^ row + 2 ^ row
twice row = rw add-one (two-pow-succ row)

-- a row with a pixel of the register adds its bit
pub row_added : (has : ℕ → Bool) (row bits : ℕ) → row < 6 → has row ≡ true → bits ≡ bits_to has row → bits < 2 ^ row
    → (bits + 1 * 2 ^ row % 256 ≡ bits_to has (row + 1)) × (bits + 1 * 2 ^ row % 256 < 2 ^ (row + 1))
row_added has row bits small here is less =
    let weight : 1 * 2 ^ row % 256 ≡ 2 ^ row = weight_is row small in
    let longer : bits_to has (row + 1) ≡ bits_to has row + 2 ^ row =
    bits_then has row ∙ ap (λ (t : Bool). bits_to has row + (if t then 2 ^ row else 0)) here in
    let double : 2 ^ (row + 1) ≡ 2 ^ row + 2 ^ row = twice row in
    (omega arith, omega arith)

-- any other row adds nothing
pub row_passed : (has : ℕ → Bool) (row bits : ℕ) → has row ≡ false → bits ≡ bits_to has row → bits < 2 ^ row
    → (bits ≡ bits_to has (row + 1)) × (bits < 2 ^ (row + 1))
row_passed has row bits gone is less =
    let longer : bits_to has (row + 1) ≡ bits_to has row + 0 =
    bits_then has row ∙ ap (λ (t : Bool). bits_to has row + (if t then 2 ^ row else 0)) gone in
    let double : 2 ^ (row + 1) ≡ 2 ^ row + 2 ^ row = twice row in
    (omega arith, omega arith)
