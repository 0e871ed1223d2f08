-- What an input gives whose first bytes were looked at.
use Rattle.std.specs.Prelude.{ℕ, List, [], Option, Some}
use Rattle.std.specs.Io.KnownBytes.{prepend_known}
use Rattle.sixel_io.specs.Devices.{SourceState, one_more}
use Rattle.sixel_program.specs.declared.peeked.After.{After}
use Rattle.sixel_program.specs.declared.peeked.After.TheVariants.{End, Failure}

-- the bytes after the prefix, if they are known, where the source has these left
abbrev pub after_prefix : After → Option (List ℕ) → Option (List ℕ)
after_prefix End left = Some []
after_prefix _ left = left

-- how many calls on the source have failed, if `failures` calls on the input have: one more if a failure waits
abbrev pub failures_of_source : After → ℕ → ℕ
failures_of_source Failure failures = one_more failures
failures_of_source _ failures = failures

-- the state of an input that has yet to give some bytes of its prefix and what is after it; `failures` calls on it
-- failed
abbrev pub peeked_state : List ℕ → After → SourceState → ℕ → SourceState
peeked_state waiting after source failures = record {
  remaining = prepend_known waiting (after_prefix after source.remaining);
  failures = failures;
}
