-- The states of the slice devices, as values.
use Rattle.std.specs.Prelude.{ℕ, ◌-◌, ◌^◌, List, Option, Some, None, Bool, false, ◌&&◌, ◌==◌, nat_lt}

pub record SliceSourceState : Type 0 where
  -- the bytes still to come
  pub rest : List ℕ
  -- the most bytes that one call gives
  pub piece : ℕ
  -- the number of the call that fails, from 0
  pub fail_at : Option ℕ
  -- the number of the next call
  pub calls : ℕ
  -- how many calls failed
  pub failures : ℕ

pub record SliceSinkState : Type 0 where
  -- the bytes taken so far
  pub written : List ℕ
  -- how many bytes the slice holds in all
  pub room : ℕ
  -- the most bytes that one call takes
  pub piece : ℕ
  -- the number of the call that fails, from 0; takes and flushes are counted together
  pub fail_at : Option ℕ
  -- the number of the next call
  pub calls : ℕ
  -- how many calls failed
  pub failures : ℕ
  -- whether a flush succeeded and nothing was taken since
  pub flushed : Bool

-- whether the call with this number is chosen to fail. The numbers of calls stop at the greatest `u64`, and no call
-- with that number fails
abbrev pub fails_at : Option ℕ → ℕ → Bool
fails_at None call = false
fails_at (Some number) call = nat_lt call (2 ^ 64 - 1) && (call == number)
