-- Bytes of a string at which it doesn't end.
use Rattle.std.proofs.Common.{◌≡◌, ◌≢◌, ◌∙◌, ℕ, zero, suc, ◌≤◌, Bool, true, false, Option, Some, None}
use Rattle.std.proofs.Common.{List, [], ◌∷◌, length, take, refl, sym, ap, subst, arith}
use Rattle.std.specs.List.{AllByRecursion}
use Rattle.std.specs.Prelude.{unwrap_or}
use Rattle.std.proofs.lemmas.List.{length-take, length-take-le}
use Rattle.memchr.specs.Find.{IsFirstByte, Nowhere, Passes, is_byte, is_byte3}
use Rattle.sixel_scan.specs.Scanning.{AreInside, IsInside}

-- ---- no byte before the first that passes

first_within : (test : ℕ → Bool) (xs : List ℕ) (first : Option ℕ) → IsFirstByte test xs first
    → unwrap_or first (length xs) ≤ length xs
first_within test xs None is = omega arith
first_within test xs (Some k) is = omega (arith, is.0.high)

first_none : (test : ℕ → Bool) (xs : List ℕ) (first : Option ℕ) → IsFirstByte test xs first
    → Nowhere (Passes test xs) 0 (unwrap_or first (length xs))
first_none test xs None is = is
first_none test xs (Some k) is = is.0.before

none_pass : (test : ℕ → Bool) (P : ℕ → Type 0) → ((b : ℕ) → (test b ≡ true → ⊥) → P b) → (n : ℕ) (xs : List ℕ)
    → Nowhere (Passes test xs) 0 n → AllByRecursion P (take n xs)
none_pass test P f zero xs none = tt
none_pass test P f (suc n) [] none = tt
none_pass test P f (suc n) (x ∷ xs) none = (
  f x (none 0 (omega arith) (omega arith)),
  none_pass test P f n xs (λ k low high at. none (suc k) (omega arith) (omega arith) at),
)

-- the bytes before the first that passes
before_first : (test : ℕ → Bool) (P : ℕ → Type 0) → ((b : ℕ) → (test b ≡ true → ⊥) → P b) → (xs : List ℕ)
    (first : Option ℕ) (n : ℕ) → n ≡ unwrap_or first (length xs) → IsFirstByte test xs first
    → AllByRecursion P (take n xs)
before_first test P f xs first n at is =
    subst (λ (m : ℕ). AllByRecursion P (take m xs)) (sym at)
    (none_pass test P f (unwrap_or first (length xs)) xs (first_none test xs first is))

-- ---- parts of a list

all_take : (P : ℕ → Type 0) (n : ℕ) (xs : List ℕ) → AllByRecursion P xs → AllByRecursion P (take n xs)
all_take P zero xs all = tt
all_take P (suc n) [] all = tt
all_take P (suc n) (x ∷ xs) all = (all.0, all_take P n xs all.1)

take_twice : (m n : ℕ) (xs : List ℕ) → m ≤ n → take m (take n xs) ≡ take m xs
take_twice zero n xs le = refl
take_twice (suc m) zero xs le = absurd (omega (arith, le))
take_twice (suc m) (suc n) [] le = refl
take_twice (suc m) (suc n) (x ∷ xs) le = ap (λ (t : List ℕ). x ∷ t) (take_twice m n xs (omega arith))

-- of a part of the bytes
inside_part : (eight : Bool) (m n : ℕ) (xs : List ℕ) → m ≤ length (take n xs)
    → AreInside eight (take m (take n xs)) → AreInside eight (take m xs)
inside_part eight m n xs short are =
    subst (AreInside eight) (take_twice m n xs (omega (arith, length-take n xs, short))) are

-- ---- the bytes of a string

unlike : (test : ℕ → Bool) (b x : ℕ) → (test b ≡ true → ⊥) → test x ≡ true → b ≢ x
unlike test b x fails is e = fails (ap test e ∙ is)

inside_without : (b : ℕ) → (is_byte3 27 24 26 b ≡ true → ⊥) → IsInside false b
inside_without b fails = record {
  no_escape = unlike (is_byte3 27 24 26) b 27 fails refl;
  no_cancel = unlike (is_byte3 27 24 26) b 24 fails refl;
  no_substitute = unlike (is_byte3 27 24 26) b 26 fails refl;
  no_terminator = λ on. let wrong : false ≡ true = on in absurd (cc);
}

inside_with : (xs : List ℕ) → AreInside false xs → AllByRecursion (λ b. b ≢ 156) xs → AreInside true xs
inside_with [] are none = tt
inside_with (x ∷ xs) are none = (
  record {
    no_escape = are.0.no_escape;
    no_cancel = are.0.no_cancel;
    no_substitute = are.0.no_substitute;
    no_terminator = λ on. none.0;
  },
  inside_with xs are.1 none.1,
)

pub inside_off : (piece : List ℕ) (first : Option ℕ) (n : ℕ) → n ≡ unwrap_or first (length piece)
    → IsFirstByte (is_byte3 27 24 26) piece first → AreInside false (take n piece)
inside_off piece first n at is = before_first (is_byte3 27 24 26) (IsInside false) inside_without piece first n at is

pub inside_on : (piece : List ℕ) (first second : Option ℕ) (n m : ℕ) → n ≡ unwrap_or first (length piece)
    → IsFirstByte (is_byte3 27 24 26) piece first → m ≡ unwrap_or second n
    → IsFirstByte (is_byte 156) (take n piece) second → AreInside true (take m piece)
inside_on piece first second n m at is next ends =
    let within : n ≤ length piece = omega (arith, at, first_within (is_byte3 27 24 26) piece first is) in
    let long = length-take-le n piece within in
    let last : m ≡ unwrap_or second (length (take n piece)) = next ∙ ap (unwrap_or second) (sym long) in
    let short : m ≤ length (take n piece) =
    omega (arith, last, first_within (is_byte 156) (take n piece) second ends) in
    inside_part true m n piece short
    (inside_with (take m (take n piece))
    (all_take (IsInside false) m (take n piece) (inside_off piece first n at is))
    (before_first (is_byte 156) (λ b. b ≢ 156) (λ b fails. unlike (is_byte 156) b 156 fails refl) (take n piece) second
    m last ends))
