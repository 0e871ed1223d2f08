-- A source whose first bytes are read already.
use Rattle.std.specs.Prelude.{◌≡◌, ◌≤◌, ℕ, List, Option, length, take}
use Rattle.std.specs.Io.KnownBytes.{IsAtEnd, prepend_known}

-- all bytes of the source, if they are known: the first `read` of the piece, and then those that are left
unfoldable pub with_first : List ℕ → ℕ → Option (List ℕ) → Option (List ℕ)
with_first piece read left = prepend_known (take read piece) left

-- the first `read` bytes of the piece may be the first ones of a source; it gives none only at its end
abbrev pub IsFirst : List ℕ → ℕ → Option (List ℕ) → Type 0
IsFirst piece read left = (read ≤ length piece) × (read ≡ 0 → IsAtEnd left)
