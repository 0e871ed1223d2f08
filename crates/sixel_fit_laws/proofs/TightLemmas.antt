-- In a written text each select names a register, and no space is behind the terminator.
use Rattle.std.proofs.Common.{◌≡◌, ◌==◌, ◌∙◌, ◌&&◌, ◌+◌, ◌<◌, ◌≤◌, ◌++◌, ℕ, zero, suc, true, false, List, [], ◌∷◌}
use Rattle.std.proofs.Common.{ap, append_assoc, arith, length, not, refl, subst, sym}
use Rattle.std.specs.Prelude.{decimal, nat_le}
use Rattle.std.specs.List.{AllByRecursion, list_all}
use Rattle.std.specs.Str.Parse.{AllDigits}
use Rattle.std.specs.Int.{IsInRange}
use Rattle.std.proofs.lemmas.Bool.{and_from, and_left, and_right, le-leb, ne_eqb, not_from_true, or_left}
use Rattle.std.proofs.lemmas.Fmt.{decimal_is_IsNumeral}
use Rattle.std.proofs.lemmas.List.{length-append}
use Rattle.std.proofs.lemmas.Str.Parse.{digit_at}
use Rattle.sixel_grammar.specs.Bytes.{is_digit, is_filler}
use Rattle.sixel_grammar.specs.FixedText.{CanWrite, fixed_text}
use Rattle.sixel_grammar.specs.Spelling.{AreNumbers, IsEvent, fixed_fields, fixed_spelling}
use Rattle.sixel_grammar.specs.declared.command.Command.TheVariants.{Sixel, Repeat, Raster, Select, Define}
use Rattle.sixel_grammar.specs.declared.command.Command.TheVariants.{CarriageReturn, NextLine}
use Rattle.sixel_grammar.specs.declared.command.Event.{Event}
use Rattle.sixel_grammar.specs.declared.command.Event.TheVariants.{Start, Step, Finish}
use Rattle.sixel_grammar.proofs.FixedTextLemmas.{fixed_text-append}
use Rattle.sixel_grammar.proofs.SpelledLemmas.{decimal_text}
use Rattle.sixel_omissions.specs.Omissions.{is_bare_at, is_numeric}
use Rattle.sixel_omissions.proofs.BareLemmas.{bare_behind}
use Rattle.sixel_emulator_check.specs.Trailer.{is_space_after}

-- ---- signs before numbers

-- a byte of a number is behind each `#`
abbrev pub IsTight : List ℕ → Type 0
IsTight [] = Unit {0}
IsTight (b ∷ []) = (b == 35) ≡ false
IsTight (b ∷ c ∷ bytes) = (((b == 35) && not (is_numeric c)) ≡ false) × IsTight (c ∷ bytes)

pub tight_not_bare : (bytes : List ℕ) → IsTight bytes → (i : ℕ) → is_bare_at bytes i ≡ false
tight_not_bare [] tight i = refl
tight_not_bare (b ∷ []) tight zero = and_left (b == 35) _ tight
tight_not_bare (b ∷ []) tight (suc i) = refl
tight_not_bare (b ∷ c ∷ bytes) tight zero = tight.0
tight_not_bare (b ∷ c ∷ bytes) tight (suc i) =
    let next : suc i ≡ i + 1 = omega arith in
    ap (is_bare_at (b ∷ c ∷ bytes)) next ∙ bare_behind b (c ∷ bytes) i ∙ tight_not_bare (c ∷ bytes) tight.1 i

pub tight_append : (xs ys : List ℕ) → IsTight xs → IsTight ys → IsTight (xs ++ ys)
tight_append [] ys one other = other
tight_append (x ∷ []) [] one other = one
tight_append (x ∷ []) (y ∷ ys) one other = (and_left (x == 35) (not (is_numeric y)) one, other)
tight_append (x ∷ z ∷ xs) ys one other = (one.0, tight_append (z ∷ xs) ys one.1 other)

-- ---- numbers

abbrev AreNumeric : List ℕ → Type 0
AreNumeric bytes = AllByRecursion (λ b. is_numeric b ≡ true) bytes

-- a digit is one
digit_numeric : (b : ℕ) → IsInRange 48 57 b → is_numeric b ≡ true
digit_numeric b range =
    or_left (is_digit b) (b == 59)
    (and_from (nat_le 48 b) (nat_le b 57) (le-leb 48 b range.0) (le-leb b 57 range.1))

digits_numeric : (bytes : List ℕ) → AllDigits 10 bytes → AreNumeric bytes
digits_numeric [] all = tt
digits_numeric (b ∷ bytes) all =
    (digit_numeric b (digit_at (b ∷ bytes) 0 all (omega arith)), digits_numeric bytes all.1)

numeric_append : (xs ys : List ℕ) → AreNumeric xs → AreNumeric ys → AreNumeric (xs ++ ys)
numeric_append [] ys one other = other
numeric_append (x ∷ xs) ys one other = (one.0, numeric_append xs ys one.1 other)

-- the digits of a number
decimal_numeric : (n : ℕ) → n ≤ 65535 → AreNumeric (decimal n)
decimal_numeric n small = digits_numeric (decimal n) (decimal_text n small).digits

fields_numeric : (ns : List ℕ) → AreNumbers ns → AreNumeric (fixed_fields ns)
fields_numeric [] small = tt
fields_numeric (n ∷ []) small = decimal_numeric n small.0
fields_numeric (n ∷ m ∷ ns) small =
    numeric_append (decimal n) (59 ∷ fixed_fields (m ∷ ns)) (decimal_numeric n small.0)
    (refl, fields_numeric (m ∷ ns) small.1)

-- ---- texts of events

-- no byte of a number is a `#`
not_sign : (b : ℕ) → is_numeric b ≡ true → (b == 35) ≡ false
not_sign b numeric =
    ne_eqb b 35 (λ is. (let no : is_numeric 35 ≡ true = subst (λ (n : ℕ). is_numeric n ≡ true) is numeric in cc no))

numeric_tight : (bytes : List ℕ) → AreNumeric bytes → IsTight bytes
numeric_tight [] all = tt
numeric_tight (b ∷ []) all = not_sign b all.0
numeric_tight (b ∷ c ∷ bytes) all =
    (and_left (b == 35) (not (is_numeric c)) (not_sign b all.0), numeric_tight (c ∷ bytes) all.1)

-- a `#` before numbers
sign_tight : (bytes : List ℕ) → AreNumeric bytes → 0 < length bytes → IsTight (35 ∷ bytes)
sign_tight [] all some = absurd (omega (arith, some))
sign_tight (b ∷ bytes) all some =
    (and_right (35 == 35) (not (is_numeric b)) (not_from_true (is_numeric b) all.0), numeric_tight (b ∷ bytes) all)

-- another byte before some
other_tight : (b : ℕ) (bytes : List ℕ) → (b == 35) ≡ false → IsTight bytes → IsTight (b ∷ bytes)
other_tight b [] other tight = other
other_tight b (c ∷ bytes) other tight = (and_left (b == 35) (not (is_numeric c)) other, tight)

some_digits : (n : ℕ) → n ≤ 65535 → 0 < length (decimal n)
some_digits n small = (decimal_is_IsNumeral n (omega (arith, small))).0.0

some_fields : (n : ℕ) (ns : List ℕ) → n ≤ 65535 → 0 < length (fixed_fields (n ∷ ns))
some_fields n [] small = some_digits n small
some_fields n (m ∷ ns) small =
    omega (arith, length-append (decimal n) (59 ∷ fixed_fields (m ∷ ns)), some_digits n small)

data_not_sign : (bits : ℕ) → ((63 + bits) == 35) ≡ false
data_not_sign bits = ne_eqb (63 + bits) 35 (λ is. omega (arith, is))

-- the text of an event
pub event_tight : (e : Event) → IsEvent e → IsTight (fixed_spelling e)
event_tight (Start false parameters) is =
    other_tight 27 (80 ∷ fixed_fields parameters.items ++ 113 ∷ []) refl
    (other_tight 80 (fixed_fields parameters.items ++ 113 ∷ []) refl
    (tight_append (fixed_fields parameters.items) (113 ∷ [])
    (numeric_tight (fixed_fields parameters.items) (fields_numeric parameters.items is.1)) refl))
event_tight (Start true parameters) is =
    other_tight 144 (fixed_fields parameters.items ++ 113 ∷ []) refl
    (tight_append (fixed_fields parameters.items) (113 ∷ [])
    (numeric_tight (fixed_fields parameters.items) (fields_numeric parameters.items is.1)) refl)
event_tight (Step (Sixel bits)) is = data_not_sign bits
event_tight (Step (Repeat count bits)) is =
    other_tight 33 (decimal count ++ (63 + bits) ∷ []) refl
    (tight_append (decimal count) ((63 + bits) ∷ []) (numeric_tight (decimal count) (decimal_numeric count is.0))
    (data_not_sign bits))
event_tight (Step (Raster pan pad width height)) is =
    other_tight 34 (fixed_fields (pan ∷ pad ∷ width ∷ height ∷ [])) refl
    (numeric_tight (fixed_fields (pan ∷ pad ∷ width ∷ height ∷ []))
    (fields_numeric (pan ∷ pad ∷ width ∷ height ∷ []) is))
event_tight (Step (Select register)) is =
    sign_tight (decimal register) (decimal_numeric register is) (some_digits register is)
event_tight (Step (Define register system x y z)) is =
    sign_tight (fixed_fields (register ∷ system ∷ x ∷ y ∷ z ∷ []))
    (fields_numeric (register ∷ system ∷ x ∷ y ∷ z ∷ []) is)
    (some_fields register (system ∷ x ∷ y ∷ z ∷ []) is.0)
event_tight (Step CarriageReturn) is = refl
event_tight (Step NextLine) is = refl
event_tight (Finish false) is = (refl, refl)
event_tight (Finish true) is = refl

pub text_tight : (events : List Event) → AllByRecursion CanWrite events → IsTight (fixed_text events)
text_tight [] all = tt
text_tight (e ∷ events) all =
    tight_append (fixed_spelling e) (fixed_text events) (event_tight e (all.0).is_event) (text_tight events all.1)

-- ---- the end of a text

not_all_filler : (xs : List ℕ) → list_all is_filler (xs ++ 92 ∷ []) ≡ false
not_all_filler [] = refl
not_all_filler (x ∷ xs) = and_right (is_filler x) (list_all is_filler (xs ++ 92 ∷ [])) (not_all_filler xs)

-- no space is behind a last byte that is no filler
pub no_space : (xs : List ℕ) (i : ℕ) → is_space_after (xs ++ 92 ∷ []) i ≡ false
no_space [] zero = refl
no_space [] (suc i) = refl
no_space (x ∷ xs) zero = and_right (x == 32) _ (not_all_filler (x ∷ xs))
no_space (x ∷ xs) (suc i) = no_space xs i

-- a text with a 7-bit finish ends with that byte
pub ends_so : (events : List Event)
    → (front : List ℕ) × (fixed_text (events ++ Finish false ∷ []) ≡ front ++ 92 ∷ [])
ends_so events = (
  fixed_text events ++ 27 ∷ [],
  fixed_text-append events (Finish false ∷ []) ∙ sym (append_assoc (fixed_text events) (27 ∷ []) (92 ∷ [])),
)
