-- Where the commands of a string leave out numbers. Its bytes tell, and its events don't.
use Rattle.std.specs.Prelude.{◌≡◌, ◌==◌, ◌&&◌, ◌||◌, ◌+◌, ◌<◌, ℕ, Bool, true, false, not, List, Option, None, Some}
use Rattle.std.specs.Prelude.{filter, length, slice_get}
use Rattle.std.specs.List.{range_with_len}
use Rattle.std.specs.Option.{option_map_or}
use Rattle.sixel_grammar.specs.Bytes.{is_digit}

-- a byte of a command's numbers: a digit, or the `;` between two
abbrev pub is_numeric : ℕ → Bool
is_numeric b = is_digit b || (b == 59)

-- whether there is a byte at this offset, and it passes
abbrev pub is_at : (ℕ → Bool) → List ℕ → ℕ → Bool
is_at test bytes i = option_map_or test (slice_get bytes i) false

-- a `#` at this offset, and a byte behind it that isn't one of a number: a select that names no register
abbrev pub is_bare_at : List ℕ → ℕ → Bool
is_bare_at bytes i = is_at (λ b. b == 35) bytes i && is_at (λ b. not (is_numeric b)) bytes (i + 1)

-- the offset of the first select that names no register, if there is one
abbrev pub IsFirstBare : List ℕ → Option ℕ → Type 0
IsFirstBare bytes None = (i : ℕ) → is_bare_at bytes i ≡ false
IsFirstBare bytes (Some place) =
    (is_bare_at bytes place ≡ true) × ((i : ℕ) → i < place → is_bare_at bytes i ≡ false)

-- how many selects name no register
abbrev pub bare_count : List ℕ → ℕ
bare_count bytes = length (filter (is_bare_at bytes) (range_with_len 0 (length bytes)))
