-- What is kept of the bytes read so far.
use Rattle.std.specs.Prelude.{◌≡◌, ◌==◌, ◌-◌, ℕ, List, Option, Some, None, length, if◌then◌else◌}
use Rattle.sixel_omissions.specs.declared.bare.BareSelects.{BareSelects}
use Rattle.sixel_omissions.specs.Omissions.{IsFirstBare, bare_count, is_at, is_numeric}

-- the offset of the last byte, if it is a `#`
abbrev pub sign_in : List ℕ → Option ℕ
sign_in bytes = if is_at (λ b. b == 35) bytes (length bytes - 1) then Some (length bytes - 1) else None

-- the offset of the open `#` behind which the byte leaves no number
abbrev pub left_bare : Option ℕ → ℕ → Option ℕ
left_bare before b = if is_numeric b then None else before

-- the offset of the byte, if it is a `#`
abbrev pub opened : ℕ → ℕ → Option ℕ
opened place b = if b == 35 then Some place else None

-- one if there is an offset
abbrev pub one_if : Option ℕ → ℕ
one_if None = 0
one_if (Some place) = 1

-- these bytes were read
pub record HasSeenBare (s : BareSelects) (bytes : List ℕ) : Type 0 where
  pub read_is : s.read ≡ length bytes
  pub sign_is : s.sign ≡ sign_in bytes
  pub first : IsFirstBare bytes s.first
  pub count_is : s.count ≡ bare_count bytes
