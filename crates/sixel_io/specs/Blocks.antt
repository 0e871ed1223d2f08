-- What a sink took, and what a block in front of it still holds.
use Rattle.std.specs.Prelude.{◌≡◌, ◌<◌, ℕ, List, [], ◌++◌, length, take, drop, Result, Option, false}
use Rattle.std.specs.Prelude.{MatchResult, OnOk, is_ok, if◌then◌else◌}
use Rattle.std.specs.Io.KnownBytes.{Appends, Keeps, append_known}
use Rattle.sixel_io.specs.Devices.{CountsFailure, NeverFlushes, Puts, SinkState}

-- the bytes that the sink took, then those that wait in the block
abbrev pub in_all : Option (List ℕ) → List ℕ → Option (List ℕ)
in_all taken waiting = append_known taken waiting

-- on success all of the bytes were appended, on an `Err` none
abbrev pub PutsAllOrNone : {A E : Type 0} → Result A E → Option (List ℕ) → Option (List ℕ) → List ℕ → Type 0
PutsAllOrNone result old new bytes = MatchResult result (λ _. Appends old new bytes) (λ _. Keeps old new)

-- the sink took more bytes, perhaps none, and lost none
abbrev pub TakesMore : Option (List ℕ) → Option (List ℕ) → Type 0
TakesMore old new = (more : List ℕ) × Appends old new more

-- the sink took the first n bytes that waited; the rest of them wait, and then `more`
abbrev pub TakesPrefix : Option (List ℕ) → Option (List ℕ) → List ℕ → List ℕ → List ℕ → Type 0
TakesPrefix taken_old taken_new waited waits more =
    (n : ℕ) × Appends taken_old taken_new (take n waited) × (waits ≡ drop n waited ++ more)

-- a call puts the bytes into a block in front of a sink, all of them or on an `Err` none. `waited` and `waits` are the
-- block's bytes before and after. The sink took a prefix of `waited`, and wasn't flushed
pub record PutsWhole {A E : Type 0} (result : Result A E) (old new : SinkState) (waited waits bytes : List ℕ)
    : Type 0 where
  pub all : PutsAllOrNone result (in_all old.taken waited) (in_all new.taken waits) bytes
  pub prefix : TakesPrefix old.taken new.taken waited waits (if is_ok result then bytes else [])
  pub failures : CountsFailure result old.failures new.failures
  pub unflushed : NeverFlushes old.is_flushed new.is_flushed

-- a call puts the bytes into a block in front of a sink piece by piece; on an `Err` it put a prefix of them
pub record WritesThrough {A E : Type 0} (result : Result A E) (old new : SinkState) (waited waits bytes : List ℕ)
    : Type 0 where
  pub put : Puts result (in_all old.taken waited) (in_all new.taken waits) bytes
  pub more : TakesMore old.taken new.taken
  pub failures : CountsFailure result old.failures new.failures
  pub unflushed : NeverFlushes old.is_flushed new.is_flushed

-- a call drains a block into a sink; on an `Err` the sink took a prefix of what waited. It doesn't flush the sink
pub record Drains {A E : Type 0} (result : Result A E) (old new : SinkState) (waited waits : List ℕ) : Type 0 where
  pub bytes : Keeps (in_all old.taken waited) (in_all new.taken waits)
  pub prefix : TakesPrefix old.taken new.taken waited waits []
  pub empty : OnOk result (waits ≡ [])
  pub failures : CountsFailure result old.failures new.failures
  pub unflushed : NeverFlushes old.is_flushed new.is_flushed
  -- if something waited and all of it was sent, the sink isn't flushed
  pub held : OnOk result (0 < length waited → new.is_flushed ≡ false)
