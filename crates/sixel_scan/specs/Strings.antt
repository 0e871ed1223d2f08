-- The strings of a stream: where one begins, where it ends, and which there are.
-- `eight` says whether the 8-bit controls count: the introducer 90 and the terminator 9C (hexadecimal).
use Rattle.std.specs.Prelude.{◌≡◌, ◌≢◌, ℕ, ◌+◌, ◌<◌, ◌||◌, ◌==◌, Bool, true, false, IsTrue, List, [], ◌∷◌, ◌++◌, length}
use Rattle.std.specs.Prelude.{take, drop}
use Rattle.std.specs.List.{AllByRecursion}
use Rattle.sixel_grammar.specs.Bytes.{escape, introducer, is_digit, separator, terminator}

-- a digit or `;`
abbrev pub is_parameter : ℕ → Bool
is_parameter b = is_digit b || (b == separator)

-- `q`
abbrev pub final : ℕ
final = 113

-- CAN, the byte 18 (hexadecimal)
abbrev pub cancel : ℕ
cancel = 24

-- SUB, the byte 1A (hexadecimal)
abbrev pub substitute : ℕ
substitute = 26

-- each of the bytes is a digit or `;`
abbrev pub AreParameters : List ℕ → Type 0
AreParameters bytes = AllByRecursion (λ b. IsTrue (is_parameter b)) bytes

-- an introducer, then digits and `;`, perhaps none, then `q`
pub record IsOpening (eight : Bool) (opening : List ℕ) : Type 0 where
  pub by_eight : Bool
  pub allowed : IsTrue by_eight → IsTrue eight
  pub parameters : List ℕ
  pub parameters_are : AreParameters parameters
  pub opening_is : opening ≡ introducer by_eight ++ parameters ++ final ∷ []

-- the bytes begin with an opening
abbrev pub Opens : Bool → List ℕ → Type 0
Opens eight bytes = (opening rest : List ℕ) × IsOpening eight opening × (bytes ≡ opening ++ rest)

-- there is an opening at offset n of the bytes
abbrev pub OpensAt : Bool → List ℕ → ℕ → Type 0
OpensAt eight bytes n = Opens eight (drop n bytes)

-- there is no opening in the bytes
abbrev pub HasNoOpening : Bool → List ℕ → Type 0
HasNoOpening eight bytes = (n : ℕ) → OpensAt eight bytes n → ⊥

abbrev pub EndsWith : List ℕ → List ℕ → Type 0
EndsWith bytes last = (first : List ℕ) × (bytes ≡ first ++ last)

-- a string can end between these bytes, which follow its `q`, and the rest of the stream
pub data MayEnd (eight : Bool) (body rest : List ℕ) : Type 0 where
  -- after ESC \
  AfterTerminator : EndsWith body (terminator false) → MayEnd eight body rest
  -- after 9C, if 8-bit controls count
  AfterEightBit : IsTrue eight → EndsWith body (terminator true) → MayEnd eight body rest
  -- after CAN
  AfterCancel : EndsWith body (cancel ∷ []) → MayEnd eight body rest
  -- after SUB
  AfterSubstitute : EndsWith body (substitute ∷ []) → MayEnd eight body rest
  -- before an ESC that neither `\` nor the end of the stream follows
  BeforeEscape : (b : ℕ) (more : List ℕ) → b ≢ 92 → rest ≡ escape ∷ b ∷ more → MayEnd eight body rest
  -- at the end of the stream
  AtEnd : rest ≡ [] → MayEnd eight body rest

-- a string can end here, and nowhere before
pub record EndsFirst (eight : Bool) (body rest : List ℕ) : Type 0 where
  pub ends : MayEnd eight body rest
  pub first : (n : ℕ) → n < length body → MayEnd eight (take n body) (drop n body ++ rest) → ⊥

-- the bytes are an opening, and what follows it up to the first place where the string can end before the rest
pub record IsString (eight : Bool) (bytes rest : List ℕ) : Type 0 where
  pub opening : List ℕ
  pub body : List ℕ
  pub opens : IsOpening eight opening
  pub ends : EndsFirst eight body rest
  pub bytes_are : bytes ≡ opening ++ body

-- a string, and the offset of its first byte in the stream
pub record StringAt : Type 0 where
  pub place : ℕ
  pub bytes : List ℕ

-- the string is the one that begins at the least opening of the bytes, of which the first has this offset; the rest
-- follows the string
pub record IsNext (eight : Bool) (offset : ℕ) (s : StringAt) (bytes rest : List ℕ) : Type 0 where
  pub text : List ℕ
  pub bytes_are : bytes ≡ text ++ s.bytes ++ rest
  pub place : s.place ≡ offset + length text
  pub string : IsString eight s.bytes rest
  pub least : (n : ℕ) → n < length text → OpensAt eight bytes n → ⊥

-- the strings of the bytes, of which the first has this offset: the one at the least opening, then the one at the
-- least opening at or after its end, and so on
abbrev pub AreStringsFrom : Bool → ℕ → List StringAt → List ℕ → Type 0
AreStringsFrom eight offset [] bytes = HasNoOpening eight bytes
AreStringsFrom eight offset (s ∷ more) bytes =
    (rest : List ℕ) × IsNext eight offset s bytes rest × AreStringsFrom eight (s.place + length s.bytes) more rest

-- the strings of a stream
abbrev pub AreStrings : Bool → List StringAt → List ℕ → Type 0
AreStrings eight strings bytes = AreStringsFrom eight 0 strings bytes
