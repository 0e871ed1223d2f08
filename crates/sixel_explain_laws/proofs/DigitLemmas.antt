-- The digits of a number.
use Rattle.std.proofs.Common.{◌≡◌, ◌∷◌, ◌++◌, ◌==◌, ◌/◌, ◌%◌, ◌<◌, ◌≤◌, ℕ, zero, suc, [], Bool, arith, cond, false}
use Rattle.std.proofs.Common.{lt-ltb, refl, subst, sym, true}
use Rattle.std.specs.Prelude.{decimal}
use Rattle.std.specs.Fmt.{digits, digits_onto, digit_glyph}
use Rattle.sixel_report.specs.Texts.{Text}

abbrev pub AreDigits : Text → Type 0
AreDigits [] = Unit {0}
AreDigits (d ∷ ds) = ((48 ≤ d) × (d ≤ 57)) × AreDigits ds

-- the text has digits only, and one at least
pub record IsNumber (text : Text) : Type 0 where
  pub front : Text
  pub last : ℕ
  pub is : text ≡ front ++ last ∷ []
  pub digits : AreDigits front
  pub digit : (48 ≤ last) × (last ≤ 57)

glyph : (d : ℕ) → d < 10 → (48 ≤ digit_glyph false d) × (digit_glyph false d ≤ 57)
glyph d small = rw (lt-ltb d 10 small) (omega arith, omega arith)

one_digit : (n : ℕ) → (48 ≤ digit_glyph false (n % 10)) × (digit_glyph false (n % 10) ≤ 57)
one_digit n = glyph (n % 10) (omega arith)

more_digits : (a b : Text) → AreDigits a → AreDigits b → AreDigits (a ++ b)
more_digits [] b are more = more
more_digits (d ∷ a) b are more = (are.0, more_digits a b are.1 more)

either : (b : Bool) (x y : Text) → IsNumber x → IsNumber y → IsNumber (cond b x y)
either true x y one other = one
either false x y one other = other

-- digits before others
before_digits : (k n : ℕ) (front : Text) (last : ℕ) → AreDigits front → (48 ≤ last) × (last ≤ 57)
    → IsNumber (digits_onto k 10 false n (front ++ last ∷ []))
before_digits zero n front last are digit =
    record { front = front; last = last; is = refl; digits = are; digit = digit }
before_digits (suc k) n front last are digit =
    let d = digit_glyph false (n % 10) in
    either (n / 10 == 0) (d ∷ (front ++ last ∷ [])) (digits_onto k 10 false (n / 10) (d ∷ (front ++ last ∷ [])))
    (record { front = d ∷ front; last = last; is = refl; digits = (one_digit n, are); digit = digit })
    (before_digits k (n / 10) (d ∷ front) last (one_digit n, are) digit)

some_digits : (k n : ℕ) → IsNumber (digits_onto (suc k) 10 false n [])
some_digits k n =
    let d = digit_glyph false (n % 10) in
    either (n / 10 == 0) (d ∷ []) (digits_onto k 10 false (n / 10) (d ∷ []))
    (record { front = []; last = d; is = refl; digits = tt; digit = one_digit n })
    (before_digits k (n / 10) [] d tt (one_digit n))

pub number : (n : ℕ) → IsNumber (decimal n)
unfolding digits
number n = some_digits 63 n

all_digits : (text : Text) → IsNumber text → AreDigits text
all_digits text n = subst AreDigits (sym n.is) (more_digits n.front (n.last ∷ []) n.digits (n.digit, tt))

pub number_digits : (n : ℕ) → AreDigits (decimal n)
number_digits n = all_digits (decimal n) (number n)
