-- The state of a device as contracts see it, and how a call changes it.
use Rattle.std.specs.Prelude.{◌≡◌, ℕ, ◌+◌, ◌-◌, ◌^◌, ◌<◌, min, List, length, take, Result, Option, Bool, false}
use Rattle.std.specs.Prelude.{IsTrue, is_ok}
use Rattle.std.specs.Prelude.{MatchResult, OnOk, if◌then◌else◌}
use Rattle.std.specs.Io.KnownBytes.{Appends, Consumes, IsAtEnd}

-- the state of a source
pub record SourceState : Type 0 where
  -- the bytes still to come, if they are known
  pub remaining : Option (List ℕ)
  -- how many calls failed
  pub failures : ℕ

-- the state of a sink
pub record SinkState : Type 0 where
  -- the bytes taken so far, if they are known
  pub taken : Option (List ℕ)
  -- how many calls failed
  pub failures : ℕ
  -- whether a flush succeeded and nothing was taken since
  pub is_flushed : Bool

-- a device's state before and after a call, or several
pub record Change (S : Type 0) : Type 0 where
  pub old : S
  pub new : S

abbrev pub change : {S : Type 0} → S → S → Change S
change old new = record { old = old; new = new }

-- the next count of failures; it saturates at the greatest `u64`
abbrev pub one_more : ℕ → ℕ
one_more n = min (n + 1) (2 ^ 64 - 1)

-- a call counts a failure exactly if it returns `Err`
abbrev pub CountsFailure : {A E : Type 0} → Result A E → ℕ → ℕ → Type 0
CountsFailure result old new = new ≡ (if is_ok result then old else one_more old)

-- a prefix of the source's bytes was read, perhaps none, and the rest is still to come; after an `Ok` nothing is left
pub record ReadsToEnd {A E : Type 0} (result : Result A E) (old new : Option (List ℕ)) : Type 0 where
  pub read : (bytes : List ℕ) × Consumes old new bytes
  pub ended : OnOk result (IsAtEnd new)

-- on success all of the bytes were appended, on an `Err` a prefix of them
abbrev pub Puts : {A E : Type 0} → Result A E → Option (List ℕ) → Option (List ℕ) → List ℕ → Type 0
Puts result old new bytes =
    MatchResult result (λ _. Appends old new bytes) (λ _. (n : ℕ) × Appends old new (take n bytes))

-- a sink that isn't flushed stays unflushed
abbrev pub NeverFlushes : Bool → Bool → Type 0
NeverFlushes old new = IsTrue new → IsTrue old

-- a call writes the bytes to a sink, and doesn't flush it
pub record Writes {A E : Type 0} (result : Result A E) (old new : SinkState) (bytes : List ℕ) : Type 0 where
  pub taken : Puts result old.taken new.taken bytes
  pub failures : CountsFailure result old.failures new.failures
  pub unflushed : NeverFlushes old.is_flushed new.is_flushed
  -- if there were any bytes and all were written, the sink isn't flushed
  pub held : OnOk result (0 < length bytes → new.is_flushed ≡ false)
