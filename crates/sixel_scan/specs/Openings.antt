-- Which bytes of a text may become an opening. It is part of where a scan stands (Standing).
use Rattle.std.specs.Prelude.{◌≡◌, ◌≢◌, ℕ, ◌<◌, ◌==◌, Bool, true, false, IsTrue, List, [], ◌∷◌, ◌++◌, length, Option}
use Rattle.std.specs.Prelude.{None, Some, if◌then◌else◌}
use Rattle.sixel_grammar.specs.Bytes.{escape, introducer}
use Rattle.sixel_scan.specs.declared.opening.Opening.{Opening}
use Rattle.sixel_scan.specs.declared.opening.Opening.TheVariants.{Nothing, Escape, Letter, Control, Introduced}
use Rattle.sixel_scan.specs.Strings.{AreParameters, OpensAt, final, is_parameter}

-- the bytes are an introducer, and then digits and `;`, perhaps none
pub record IsBegun (eight : Bool) (bytes : List ℕ) : Type 0 where
  pub by_eight : Bool
  pub allowed : IsTrue by_eight → IsTrue eight
  pub parameters : List ℕ
  pub parameters_are : AreParameters parameters
  pub bytes_are : bytes ≡ introducer by_eight ++ parameters

-- the bytes that may become an opening
abbrev pub IsHeld : Bool → Opening → List ℕ → Type 0
IsHeld eight Nothing held = held ≡ []
IsHeld eight Escape held = held ≡ escape ∷ []
IsHeld eight Letter held = held ≡ introducer false
IsHeld eight Control held = IsTrue eight × (held ≡ introducer true)
IsHeld eight Introduced held = IsBegun eight held

-- what is held is longer than one byte
abbrev pub is_grown : Opening → Bool
is_grown Letter = true
is_grown Introduced = true
is_grown _ = false

-- an introducer is held
abbrev pub is_introduced : Opening → Bool
is_introduced Nothing = false
is_introduced Escape = false
is_introduced _ = true

-- an opening is complete, or an introducer is followed by digits and `;`
abbrev pub is_longer : Option Opening → Bool
is_longer None = true
is_longer (Some Introduced) = true
is_longer (Some _) = false

-- no opening begins in `passed`, which `kept` follows, whatever comes after them
abbrev pub BeginsNoneIn : Bool → List ℕ → List ℕ → Type 0
BeginsNoneIn eight passed kept =
    (n : ℕ) (more : List ℕ) → n < length passed → OpensAt eight ((passed ++ kept) ++ more) n → ⊥

-- with one more byte, the bytes held are some in which no opening begins, and those that may still become one
pub record Advances (eight : Bool) (next : Opening) (held : List ℕ) (byte : ℕ) : Type 0 where
  pub passed : List ℕ
  pub kept : List ℕ
  pub bytes_are : held ++ byte ∷ [] ≡ passed ++ kept
  pub none : BeginsNoneIn eight passed kept
  pub is_held : IsHeld eight next kept
  -- if they are longer than one byte, they are those held before and this byte
  pub grows : is_grown next ≡ true → (passed ≡ []) × (0 < length held)

-- the bytes held end with ESC or ESC P
abbrev pub wraps : Opening → Bool
wraps Escape = true
wraps Letter = true
wraps _ = false

-- with this byte, what may become an opening ends in ESC or in ESC P exactly if it says so
abbrev pub Follows : Opening → ℕ → Option Opening → Type 0
Follows opening b (Some Escape) = b ≡ escape
Follows opening b (Some Letter) = (opening ≡ Escape) × (b ≡ 80)
Follows opening b _ = (b ≢ escape) × (opening ≡ Escape → b ≢ 80)

-- what may become an opening after an introducer, digits and `;`, and this byte; none if it is one
abbrev pub after_parameters : ℕ → Option Opening
after_parameters b =
    if is_parameter b then Some Introduced else (if b == final then None else Some Nothing)
