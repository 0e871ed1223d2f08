-- The parts of a header, once read, are those of a picture file.
use Rattle.std.proofs.Common.{◌≡◌, ◌≢◌, ◌==◌, ◌+◌, ◌-◌, ◌*◌, ◌<◌, ℕ, Bool, true, false, ◌&&◌, not, nat_le, nat_lt}
use Rattle.std.proofs.Common.{Result, Ok, Err, List, [], ◌∷◌, ◌++◌, length, refl, sym, ap, subst, ◌∙◌, append_assoc}
use Rattle.std.proofs.Common.{arith, inl, inr, eq-eqb, length-append}
use Rattle.std.specs.Prelude.{IfOk, if◌then◌else◌}
use Rattle.std.specs.Char.{digit_value}
use Rattle.std.specs.Int.{IsInRange}
use Rattle.std.specs.List.{AllByRecursion, concat}
use Rattle.std.specs.Str.Parse.{AllDigits, digits_value_after}
use Rattle.std.proofs.lemmas.Bool.Decides.{nat_tests}
use Rattle.sixel_grammar.specs.Bytes.{is_digit}
use Rattle.sixel_grammar.proofs.NumberLemmas.{digit_range, digit_value-is}
use Rattle.sixel_ppm_laws.specs.PpmFiles.{IsFiller, IsFillerPiece, IsNumberText}
use Rattle.sixel_ppm.specs.PpmReading.{after_digits, after_filler, at_fault, begins_filler, filled_number, is_space}
use Rattle.sixel_ppm.specs.PpmReading.{judged, most_header, number, wanted}
use Rattle.sixel_ppm.specs.declared.ppm.PpmFault.{PpmFault}
use Rattle.sixel_ppm.specs.declared.ppm.PpmReason.{PpmReason}
use Rattle.sixel_ppm.specs.declared.ppm.PpmReason.TheVariants.{Header}
use Rattle.sixel_ppm_laws.proofs.PpmFileLemmas.{digit_adds}
use Rattle.sixel_ppm.proofs.PpmHeaderLemmas.{if_then}
use Rattle.sixel_ppm.proofs.PpmSampleLemmas.{below_limit}

-- ---- single bytes

pub if_so : {A : Type 0} (x : Result A PpmFault) (P Q : A → Type 0) → IfOk x P → ((a : A) → P a → Q a) → IfOk x Q
if_so (Ok a) P Q p f = f a p
if_so (Err fault) P Q p f = tt

limit_is : (at : ℕ) → nat_lt at most_header ≡ true → at < 65536
limit_is at e = grind (arith, nat_tests)

past_limit : (at : ℕ) → nat_lt at most_header ≡ false → at < 65536 → ⊥
past_limit at e lt = let within : nat_lt at most_header ≡ true = below_limit at 65536 lt in grind (arith, nat_tests)

pub same_byte : (b c : ℕ) → (b == c) ≡ true → b ≡ c
same_byte b c e = grind (arith, nat_tests)

other_byte : (b c : ℕ) → (b == c) ≡ false → b ≢ c
other_byte b c e same = let is : (b == c) ≡ true = eq-eqb b c same in grind (arith, nat_tests)

-- the byte that was read
pub record Taken (test : ℕ → Bool) (at : ℕ) (rest : List ℕ) (r : ℕ × List ℕ) : Type 0 where
  pub byte : ℕ
  pub rest_is : rest ≡ byte ∷ r.1
  pub passed : test byte ≡ true
  pub place : r.0 ≡ at + 1
  pub within : at < 65536

pub wanted_found : (test : ℕ → Bool) (at : ℕ) (rest : List ℕ) → IfOk (wanted test at rest) (Taken test at rest)
wanted_found test at [] = tt
wanted_found test at (b ∷ rest) =
    elim (nat_lt at most_header) as (λ t. nat_lt at most_header ≡ t
    → IfOk (if t && test b then Ok (at + 1, rest) else at_fault Header at) (Taken test at (b ∷ rest))) [
      | true ↦ (λ e. elim (test b) as (λ u. test b ≡ u
          → IfOk (if u then Ok (at + 1, rest) else at_fault Header at) (Taken test at (b ∷ rest))) [
            | true ↦ (λ p. record { byte = b; rest_is = refl; passed = p; place = refl; within = limit_is at e })
            | false ↦ (λ p. tt)
          ] refl)
      | false ↦ (λ e. tt)
    ] refl

-- ---- filler

-- the reading is before a byte that a header may still have
abbrev Stops : ℕ × List ℕ → Type 0
Stops r = (r.0 < 65536) × (0 < length r.1)

-- pieces of filler, then the rest
record Pieces (at : ℕ) (bytes : List ℕ) (r : ℕ × List ℕ) : Type 0 where
  pieces : List (List ℕ)
  each : AllByRecursion IsFillerPiece pieces
  bytes_are : bytes ≡ concat pieces ++ r.1
  place : r.0 ≡ at + length (concat pieces)

abbrev SomePieces : ℕ → List ℕ → ℕ × List ℕ → Type 0
SomePieces at bytes r = (q : Pieces at bytes r) × (0 < length q.pieces)

-- the remainder of a comment, pieces of filler, then the rest
record InComment (at : ℕ) (bytes : List ℕ) (r : ℕ × List ℕ) : Type 0 where
  text : List ℕ
  is_text : AllByRecursion (λ b. b ≢ 10) text
  after : List ℕ
  bytes_are : bytes ≡ text ++ 10 ∷ after
  pieces_after : Pieces (at + length text + 1) after r

abbrev Found : Bool → ℕ → List ℕ → ℕ × List ℕ → Type 0
Found false at bytes r = Pieces at bytes r
Found true at bytes r = InComment at bytes r

no_pieces : (at : ℕ) (bytes : List ℕ) → Pieces at bytes (at, bytes)
no_pieces at bytes = record { pieces = []; each = tt; bytes_are = refl; place = omega arith }

one_more_piece : (at middle : ℕ) (piece after bytes : List ℕ) (r : ℕ × List ℕ) → IsFillerPiece piece
    → bytes ≡ piece ++ after → middle ≡ at + length piece → Pieces middle after r → SomePieces at bytes r
one_more_piece at middle piece after bytes r is e m p =
    let long = length-append piece (concat p.pieces) in (
      record {
        pieces = piece ∷ p.pieces;
        each = (is, p.each);
        bytes_are = e ∙ ap (λ (t : List ℕ). piece ++ t) p.bytes_are
            ∙ sym (append_assoc piece (concat p.pieces) r.1);
        place = omega (arith, m, p.place, long);
      },
      omega arith,
    )

one_more_space : (at b : ℕ) (bytes : List ℕ) (r : ℕ × List ℕ) → is_space b ≡ true → Pieces (at + 1) bytes r
    → SomePieces at (b ∷ bytes) r
one_more_space at b bytes r s p =
    one_more_piece at (at + 1) (b ∷ []) bytes (b ∷ bytes) r (inl (b, refl, s)) refl refl p

one_more_comment : (at b : ℕ) (bytes : List ℕ) (r : ℕ × List ℕ) → (b == 35) ≡ true → InComment (at + 1) bytes r
    → SomePieces at (b ∷ bytes) r
one_more_comment at b bytes r h c =
    one_more_piece at (at + 1 + length c.text + 1) (35 ∷ c.text ++ 10 ∷ []) c.after (b ∷ bytes) r
    (inr (c.text, refl, c.is_text))
    (ap (λ (k : ℕ). k ∷ bytes) (same_byte b 35 h)
    ∙ ap (λ (t : List ℕ). 35 ∷ t) (c.bytes_are ∙ sym (append_assoc c.text (10 ∷ []) c.after)))
    (omega (arith, length-append c.text (10 ∷ [])))
    c.pieces_after

-- a byte outside comments, and one inside
outside : (t : Bool) (at b : ℕ) (bytes : List ℕ) (u v : Bool) → is_space b ≡ u → (b == 35) ≡ v
    → (Stops (after_filler false (at + 1) bytes) → Pieces (at + 1) bytes (after_filler false (at + 1) bytes))
    → (Stops (after_filler true (at + 1) bytes) → InComment (at + 1) bytes (after_filler true (at + 1) bytes))
    → Stops (if t && u then after_filler false (at + 1) bytes
    else if t && v then after_filler true (at + 1) bytes else (at, b ∷ bytes))
    → Pieces at (b ∷ bytes) (if t && u then after_filler false (at + 1) bytes
    else if t && v then after_filler true (at + 1) bytes else (at, b ∷ bytes))
outside false at b bytes u v s h f g stops = no_pieces at (b ∷ bytes)
outside true at b bytes true v s h f g stops =
    (one_more_space at b bytes (after_filler false (at + 1) bytes) s (f stops)).0
outside true at b bytes false true s h f g stops =
    (one_more_comment at b bytes (after_filler true (at + 1) bytes) h (g stops)).0
outside true at b bytes false false s h f g stops = no_pieces at (b ∷ bytes)

inside : (t : Bool) (at b : ℕ) (bytes : List ℕ) (u : Bool) → nat_lt at most_header ≡ t → (b == 10) ≡ u
    → (Stops (after_filler (not u) (at + 1) bytes)
    → Found (not u) (at + 1) bytes (after_filler (not u) (at + 1) bytes))
    → Stops (if t then after_filler (not u) (at + 1) bytes else (at, b ∷ bytes))
    → InComment at (b ∷ bytes) (if t then after_filler (not u) (at + 1) bytes else (at, b ∷ bytes))
inside false at b bytes u i e f stops = absurd (past_limit at i stops.0)
inside true at b bytes true i e f stops = record {
  text = [];
  is_text = tt;
  after = bytes;
  bytes_are = ap (λ (k : ℕ). k ∷ bytes) (same_byte b 10 e);
  pieces_after = subst (λ (k : ℕ). Pieces k bytes (after_filler false (at + 1) bytes)) (omega arith) (f stops);
}
inside true at b bytes false i e f stops =
    let c = f stops in
    record {
      text = b ∷ c.text;
      is_text = (other_byte b 10 e, c.is_text);
      after = c.after;
      bytes_are = ap (λ (t : List ℕ). b ∷ t) c.bytes_are;
      pieces_after = subst (λ (k : ℕ). Pieces k c.after (after_filler true (at + 1) bytes)) (omega arith)
          c.pieces_after;
    }

filler_found : (comment : Bool) (at : ℕ) (bytes : List ℕ) → Stops (after_filler comment at bytes)
    → Found comment at bytes (after_filler comment at bytes)
filler_found false at [] stops = no_pieces at []
filler_found true at [] stops = let some : 0 < 0 = stops.1 in absurd (omega arith)
filler_found false at (b ∷ bytes) stops =
    outside (nat_lt at most_header) at b bytes (is_space b) (b == 35) refl refl
    (λ s. filler_found false (at + 1) bytes s) (λ s. filler_found true (at + 1) bytes s) stops
filler_found true at (b ∷ bytes) stops =
    inside (nat_lt at most_header) at b bytes (b == 10) refl refl
    (λ s. filler_found (not (b == 10)) (at + 1) bytes s) stops

-- if the first byte begins filler, there is a piece
some_by : (t : Bool) (at b : ℕ) (bytes : List ℕ) (u v : Bool) → t ≡ true → is_space b ≡ u → (b == 35) ≡ v
    → begins_filler b ≡ true
    → Stops (if t && u then after_filler false (at + 1) bytes
    else if t && v then after_filler true (at + 1) bytes else (at, b ∷ bytes))
    → SomePieces at (b ∷ bytes) (if t && u then after_filler false (at + 1) bytes
    else if t && v then after_filler true (at + 1) bytes else (at, b ∷ bytes))
some_by true at b bytes true v i s h f stops =
    one_more_space at b bytes (after_filler false (at + 1) bytes) s (filler_found false (at + 1) bytes stops)
some_by true at b bytes false true i s h f stops =
    one_more_comment at b bytes (after_filler true (at + 1) bytes) h (filler_found true (at + 1) bytes stops)
some_by true at b bytes false false i s h f stops = absurd (grind (arith, nat_tests))
some_by false at b bytes u v i s h f stops = absurd (grind (arith, nat_tests))

some_found : (at b : ℕ) (bytes : List ℕ) → nat_lt at most_header ≡ true → begins_filler b ≡ true
    → Stops (after_filler false at (b ∷ bytes)) → SomePieces at (b ∷ bytes) (after_filler false at (b ∷ bytes))
some_found at b bytes i f stops =
    some_by (nat_lt at most_header) at b bytes (is_space b) (b == 35) i refl refl f stops

-- ---- numbers

-- digits, then the rest
record Digits (before at : ℕ) (bytes : List ℕ) (r : ℕ × ℕ × List ℕ) : Type 0 where
  text : List ℕ
  digits : AllDigits 10 text
  bytes_are : bytes ≡ text ++ r.2
  value : r.0 ≡ digits_value_after 10 before text
  place : r.1 ≡ at + length text

abbrev SomeDigits : ℕ → ℕ → List ℕ → ℕ × ℕ × List ℕ → Type 0
SomeDigits before at bytes r = (d : Digits before at bytes r) × (0 < length d.text)

digit_is_small : (b : ℕ) → is_digit b ≡ true → digit_value b < 10
digit_is_small b d =
    let r = digit_range b d in
    subst (λ (k : ℕ). k < 10) (sym (digit_value-is b r.0 r.1)) (omega (arith, r.0, r.1))

one_more_digit : (before at b : ℕ) (bytes : List ℕ) (r : ℕ × ℕ × List ℕ) → is_digit b ≡ true
    → Digits (10 * before + (b - 48)) (at + 1) bytes r → SomeDigits before at (b ∷ bytes) r
one_more_digit before at b bytes r digit d =
    let small = digit_is_small b digit in (
      record {
        text = b ∷ d.text;
        digits = (small, d.digits);
        bytes_are = ap (λ (t : List ℕ). b ∷ t) d.bytes_are;
        value = d.value ∙ ap (λ (k : ℕ). digits_value_after 10 k d.text) (digit_adds b before small);
        place = omega (arith, d.place);
      },
      omega arith,
    )

no_digits : (before at : ℕ) (bytes : List ℕ) → Digits before at bytes (before, at, bytes)
no_digits before at bytes = record { text = []; digits = tt; bytes_are = refl; value = refl; place = omega arith }

digits_by : (t u : Bool) (before at b : ℕ) (bytes : List ℕ) → is_digit b ≡ u
    → Digits (10 * before + (b - 48)) (at + 1) bytes (after_digits (10 * before + (b - 48)) (at + 1) bytes)
    → Digits before at (b ∷ bytes) (if t && u then after_digits (10 * before + (b - 48)) (at + 1) bytes
    else (before, at, b ∷ bytes))
digits_by false u before at b bytes digit d = no_digits before at (b ∷ bytes)
digits_by true true before at b bytes digit d =
    (one_more_digit before at b bytes (after_digits (10 * before + (b - 48)) (at + 1) bytes) digit d).0
digits_by true false before at b bytes digit d = no_digits before at (b ∷ bytes)

digits_found : (before at : ℕ) (bytes : List ℕ) → Digits before at bytes (after_digits before at bytes)
digits_found before at [] = no_digits before at []
digits_found before at (b ∷ bytes) =
    digits_by (nat_lt at most_header) (is_digit b) before at b bytes refl
    (digits_found (10 * before + (b - 48)) (at + 1) bytes)

some_digits : (before at b : ℕ) (bytes : List ℕ) → at < 65536 → is_digit b ≡ true
    → SomeDigits before at (b ∷ bytes) (after_digits before at (b ∷ bytes))
some_digits before at b bytes lt digit =
    let within : nat_lt at most_header ≡ true = below_limit at 65536 lt in
    rw (within, digit) (one_more_digit before at b bytes (after_digits (10 * before + (b - 48)) (at + 1) bytes) digit
    (digits_found (10 * before + (b - 48)) (at + 1) bytes))

in_range : (most n : ℕ) → (nat_le 1 n && nat_le n most) ≡ true → IsInRange 1 most n
in_range most n e = (grind (arith, nat_tests), grind (arith, nat_tests))

judged_found : (ends : ℕ → Bool) (why : PpmReason) (most first : ℕ) (n : ℕ × ℕ × List ℕ)
    (P : ℕ × ℕ × List ℕ → Type 0)
    → (IsInRange 1 most n.0 → P n) → IfOk (judged ends why most first n) P
judged_found ends why most first n P f =
    if_then (wanted ends n.1 n.2) _ (Taken ends n.1 n.2) P (wanted_found ends n.1 n.2)
    (λ end h. elim (nat_le 1 n.0 && nat_le n.0 most) as (λ t. (nat_le 1 n.0 && nat_le n.0 most) ≡ t
    → IfOk (if t then Ok n else at_fault why first) P)
    [ true ↦ (λ e. f (in_range most n.0 e)) | false ↦ (λ e. tt) ] refl)

-- a number in range, then the rest
record NumberFound (most at : ℕ) (rest : List ℕ) (n : ℕ × ℕ × List ℕ) : Type 0 where
  text : List ℕ
  is : IsNumberText n.0 text
  range : IsInRange 1 most n.0
  bytes_are : rest ≡ text ++ n.2
  place : n.1 ≡ at + length text
  within : at < 65536
  some : 0 < length rest

some_number : (most at : ℕ) (rest : List ℕ) (r : ℕ × List ℕ) (m : ℕ × ℕ × List ℕ) → Taken is_digit at rest r
    → SomeDigits 0 at rest m → IsInRange 1 most m.0 → NumberFound most at rest m
some_number most at rest r m taken digits range = record {
  text = digits.0.text;
  is = record { digits = (digits.1, digits.0.digits); value = sym digits.0.value };
  range = range;
  bytes_are = digits.0.bytes_are;
  place = digits.0.place;
  within = taken.within;
  some = omega (arith, ap (λ (t : List ℕ). length t) taken.rest_is);
}

number_found : (ends : ℕ → Bool) (why : PpmReason) (most at : ℕ) (rest : List ℕ)
    → IfOk (number ends why most at rest) (NumberFound most at rest)
number_found ends why most at rest =
    if_then (wanted is_digit at rest) _ (Taken is_digit at rest) (NumberFound most at rest)
    (wanted_found is_digit at rest)
    (λ digit taken. judged_found ends why most at (after_digits 0 at rest) (NumberFound most at rest)
    (some_number most at rest digit (after_digits 0 at rest) taken
    (subst (λ (t : List ℕ). SomeDigits 0 at t (after_digits 0 at t)) (sym taken.rest_is)
    (some_digits 0 at taken.byte digit.1 taken.within taken.passed))))

-- filler, a number in range, then the rest
pub record FilledFound (most at : ℕ) (rest : List ℕ) (n : ℕ × ℕ × List ℕ) : Type 0 where
  pub filler : List ℕ
  pub text : List ℕ
  pub is_filler : IsFiller filler
  pub is_text : IsNumberText n.0 text
  pub range : IsInRange 1 most n.0
  pub bytes_are : rest ≡ filler ++ (text ++ n.2)
  pub place : n.1 ≡ at + length filler + length text

filled_with : (most at : ℕ) (rest : List ℕ) (r : ℕ × List ℕ) (n : ℕ × ℕ × List ℕ) → SomePieces at rest r
    → NumberFound most r.0 r.1 n → FilledFound most at rest n
filled_with most at rest r n filler number = record {
  filler = concat filler.0.pieces;
  text = number.text;
  is_filler = record { pieces = filler.0.pieces; some = filler.1; each = filler.0.each; bytes_are = refl };
  is_text = number.is;
  range = number.range;
  bytes_are = filler.0.bytes_are ∙ ap (λ (t : List ℕ). concat filler.0.pieces ++ t) number.bytes_are;
  place = omega (arith, number.place, filler.0.place);
}

pub filled_found : (ends : ℕ → Bool) (why : PpmReason) (most at : ℕ) (rest : List ℕ)
    → IfOk (filled_number ends why most at rest) (FilledFound most at rest)
filled_found ends why most at rest =
    if_then (wanted begins_filler at rest) _ (Taken begins_filler at rest) (FilledFound most at rest)
    (wanted_found begins_filler at rest)
    (λ begun taken.
    let within : nat_lt at most_header ≡ true = below_limit at 65536 taken.within in
    let pieces : Stops (after_filler false at rest) → SomePieces at rest (after_filler false at rest) =
    subst (λ (t : List ℕ). Stops (after_filler false at t) → SomePieces at t (after_filler false at t))
    (sym taken.rest_is)
    (some_found at taken.byte begun.1 within taken.passed) in
    if_so (number ends why most (after_filler false at rest).0 (after_filler false at rest).1)
    (NumberFound most (after_filler false at rest).0 (after_filler false at rest).1) (FilledFound most at rest)
    (number_found ends why most (after_filler false at rest).0 (after_filler false at rest).1)
    (λ n number. filled_with most at rest (after_filler false at rest) n (pieces (number.within, number.some)) number))
