-- Spaces behind the terminator of a string. Its bytes tell, and its events don't. A document ends with filler, and the
-- last byte of its terminator is none.
use Rattle.std.specs.Prelude.{◌≡◌, ◌==◌, ◌&&◌, ◌<◌, ◌≤◌, ℕ, Bool, true, false, List, Option, None, Some}
use Rattle.std.specs.Prelude.{drop, filter, length}
use Rattle.std.specs.List.{list_all, range_with_len}
use Rattle.sixel_grammar.specs.Bytes.{is_filler}
use Rattle.sixel_omissions.specs.Omissions.{is_at}
use Rattle.sixel_emulator_check.specs.declared.trailer.TrailingSpaces.{TrailingSpaces}

-- a space at this offset, and nothing but filler from there on
abbrev pub is_space_after : List ℕ → ℕ → Bool
is_space_after bytes i = is_at (λ b. b == 32) bytes i && list_all is_filler (drop i bytes)

-- the offset of the first one, if there is one
abbrev pub IsFirstSpace : List ℕ → Option ℕ → Type 0
IsFirstSpace bytes None = (i : ℕ) → is_space_after bytes i ≡ false
IsFirstSpace bytes (Some place) =
    (is_space_after bytes place ≡ true) × ((i : ℕ) → i < place → is_space_after bytes i ≡ false)

-- how many there are
abbrev pub space_count : List ℕ → ℕ
space_count bytes = length (filter (is_space_after bytes) (range_with_len 0 (length bytes)))

-- ---- what is kept of the bytes read so far

-- there is nothing but filler from this index on, and not so from an earlier one
pub record IsFillerFrom (bytes : List ℕ) (from : ℕ) : Type 0 where
  pub within : from ≤ length bytes
  pub filler : list_all is_filler (drop from bytes) ≡ true
  pub least : (i : ℕ) → i < from → list_all is_filler (drop i bytes) ≡ false

-- these bytes were read
pub record HasSeenSpaces (s : TrailingSpaces) (bytes : List ℕ) : Type 0 where
  pub read_is : s.read ≡ length bytes
  pub first : IsFirstSpace bytes s.first
  pub count_is : s.count ≡ space_count bytes
