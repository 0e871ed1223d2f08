use Rattle.std.proofs.Common.{◌≡◌, ◌∙◌, ◌<◌, ◌/◌, ◌%◌, ◌++◌, ◌&&◌, ◌⊎◌, ℕ, [], ◌∷◌, Bool, List, true, false, ap, arith}
use Rattle.std.proofs.Common.{IsUtf8, chars, encode_utf8_all, eqb, flat_map, inl, inr, refl, rules, subst, sym}
use Rattle.std.proofs.Math.Utf8.{low_scalar, scalar, scalars}
use Rattle.std.specs.Char.{is_control}
use Rattle.std.specs.Prelude.{All}
use Rattle.std.proofs.lemmas.Bool.Decides.{nat_tests}
use Rattle.std.proofs.lemmas.List.Elements.{All-append, All-cons, All-head, All-nil, All-tail}
use Rattle.std.proofs.lemmas.Str.{chars-encodes, encodes-chars, scalars-chars}
use Rattle.sixel_printing.specs.Printing.{hex_digit, printed, printed_char, printed_in_lines, printed_lines}
use Rattle.sixel_printing.proofs.laws.texts_are_printed_without_controls.Goals as goal

abbrev IsNoControl : ℕ → Type 0
IsNoControl c = is_control c ≡ false

abbrev IsLineChar : ℕ → Type 0
IsLineChar c = (c ≡ 10) ⊎ (is_control c ≡ false)

-- ---- the characters of a control character's number

small : (c : ℕ) → is_control c ≡ true → c < 256
small c is = grind (arith, nat_tests)

digit_no_control : (n : ℕ) → n < 16 → IsNoControl (hex_digit n)
digit_no_control n short = search rules

digit_low : (n : ℕ) → n < 16 → hex_digit n < 55296
digit_low n short = search rules

two_digits : (P : ℕ → Type 0) (a b : ℕ) → P 92 → P 120 → P a → P b → All P (92 ∷ 120 ∷ a ∷ b ∷ [])
two_digits P a b slash x p q =
    All-cons P 92 (120 ∷ a ∷ b ∷ []) slash (All-cons P 120 (a ∷ b ∷ []) x
    (All-cons P a (b ∷ []) p (All-cons P b [] q (All-nil P))))

-- ---- no character that is printed is a control character

char_clean : (c : ℕ) → All IsNoControl (printed_char c)
char_clean c =
    elim (is_control c) as (λ (is : Bool). is_control c ≡ is → All IsNoControl (printed_char c)) [
      | true ↦ λ is. let short : c < 256 = small c is in
          rw is (two_digits IsNoControl (hex_digit (c / 16)) (hex_digit (c % 16)) refl refl
          (digit_no_control (c / 16) (search rules)) (digit_no_control (c % 16) (search rules)))
      | false ↦ λ is. rw is (All-cons IsNoControl c [] is (All-nil IsNoControl))
    ] refl

all_clean : (cs : List ℕ) → All IsNoControl (flat_map printed_char cs)
all_clean [] = All-nil IsNoControl
all_clean (c ∷ cs) = All-append IsNoControl (printed_char c) (flat_map printed_char cs) (char_clean c) (all_clean cs)

wider : (cs : List ℕ) → All IsNoControl cs → All IsLineChar cs
wider [] all = All-nil IsLineChar
wider (c ∷ cs) all =
    All-cons IsLineChar c cs (inr (All-head IsNoControl c cs all)) (wider cs (All-tail IsNoControl c cs all))

line_char_clean : (c : ℕ) → All IsLineChar (printed_in_lines c)
line_char_clean c =
    elim (eqb c 10) as (λ (is : Bool). eqb c 10 ≡ is → All IsLineChar (printed_in_lines c)) [
      | true ↦ λ is. rw is (All-cons IsLineChar c [] (inl (grind (arith, nat_tests))) (All-nil IsLineChar))
      | false ↦ λ is. rw is (wider (printed_char c) (char_clean c))
    ] refl

lines_clean : (cs : List ℕ) → All IsLineChar (flat_map printed_in_lines cs)
lines_clean [] = All-nil IsLineChar
lines_clean (c ∷ cs) =
    All-append IsLineChar (printed_in_lines c) (flat_map printed_in_lines cs) (line_char_clean c) (lines_clean cs)

-- ---- and each is a scalar value

both : (a b : Bool) → (a && b) ≡ true → (a ≡ true) × (b ≡ true)
both true b e = (refl, e)
both false b e = cc

joined : (xs ys : List ℕ) → scalars xs ≡ true → scalars ys ≡ true → scalars (xs ++ ys) ≡ true
joined [] ys p q = q
joined (x ∷ xs) ys p q =
    let parts = both (scalar x) (scalars xs) p in rw parts.0 (joined xs ys parts.1 q)

four : (a b : ℕ) → scalar a ≡ true → scalar b ≡ true → scalars (92 ∷ 120 ∷ a ∷ b ∷ []) ≡ true
four a b p q = rw (p, q) refl

char_scalars : (c : ℕ) → scalar c ≡ true → scalars (printed_char c) ≡ true
char_scalars c one =
    elim (is_control c) as (λ (is : Bool). is_control c ≡ is → scalars (printed_char c) ≡ true) [
      | true ↦ λ is. let short : c < 256 = small c is in
          rw is (four (hex_digit (c / 16)) (hex_digit (c % 16))
          (low_scalar _ (digit_low (c / 16) (search rules))) (low_scalar _ (digit_low (c % 16) (search rules))))
      | false ↦ λ is. rw (is, one) refl
    ] refl

all_scalars : (cs : List ℕ) → scalars cs ≡ true → scalars (flat_map printed_char cs) ≡ true
all_scalars [] are = refl
all_scalars (c ∷ cs) are =
    let parts = both (scalar c) (scalars cs) are in
    joined (printed_char c) (flat_map printed_char cs) (char_scalars c parts.0) (all_scalars cs parts.1)

line_char_scalars : (c : ℕ) → scalar c ≡ true → scalars (printed_in_lines c) ≡ true
line_char_scalars c one =
    elim (eqb c 10) as (λ (is : Bool). eqb c 10 ≡ is → scalars (printed_in_lines c) ≡ true) [
      | true ↦ λ is. rw (is, one) refl
      | false ↦ λ is. rw is (char_scalars c one)
    ] refl

line_scalars : (cs : List ℕ) → scalars cs ≡ true → scalars (flat_map printed_in_lines cs) ≡ true
line_scalars [] are = refl
line_scalars (c ∷ cs) are =
    let parts = both (scalar c) (scalars cs) are in
    joined (printed_in_lines c) (flat_map printed_in_lines cs) (line_char_scalars c parts.0) (line_scalars cs parts.1)

-- ---- the laws

clean : (text : List ℕ) → IsUtf8 text → All IsNoControl (chars (printed text))
clean text utf8 =
    subst (λ (cs : List ℕ). All IsNoControl cs)
    (sym (chars-encodes (flat_map printed_char (chars text)) (all_scalars (chars text) (scalars-chars text utf8))))
    (all_clean (chars text))

lines : (text : List ℕ) → IsUtf8 text → All IsLineChar (chars (printed_lines text))
lines text utf8 =
    subst (λ (cs : List ℕ). All IsLineChar cs)
    (sym (chars-encodes (flat_map printed_in_lines (chars text))
    (line_scalars (chars text) (scalars-chars text utf8))))
    (lines_clean (chars text))

same : (cs : List ℕ) → All IsNoControl cs → flat_map printed_char cs ≡ cs
same [] each = refl
same (c ∷ cs) each =
    let rest : flat_map printed_char cs ≡ cs = same cs (All-tail IsNoControl c cs each) in
    let head : is_control c ≡ false = All-head IsNoControl c cs each in
    rw head (ap (λ (t : List ℕ). c ∷ t) rest)

plain : (text : List ℕ) → IsUtf8 text → All IsNoControl (chars text) → printed text ≡ text
plain text utf8 each = ap encode_utf8_all (same (chars text) each) ∙ encodes-chars text utf8

pub returns : goal.returns
returns c = record { clean = clean; plain = plain; lines = lines }
