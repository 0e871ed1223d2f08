-- A document that is read from a source.
use Rattle.std.specs.Prelude.{◌≡◌, ℕ, Err, IfSome, List, Result}
use Rattle.sixel_io.specs.Devices.{ReadsToEnd, SourceState}
use Rattle.sixel_grammar.specs.Reading.{NoFaultBefore, failures_after}
use Rattle.sixel_grammar.specs.declared.fault.InputFault.{InputFault}
use Rattle.sixel_grammar.specs.declared.fault.InputFault.TheVariants.{OutOfMemory, Read}

-- the result of a call that reads a source to its end or its first fault `answers` the source's bytes, and the call may
-- run out of memory only for bytes at which it `grows`
pub record ReadsDocument {A : Type 0} (answers : Result A InputFault → List ℕ → Type 0) (grows : List ℕ → Type 0)
    (result : Result A InputFault) (old new : SourceState) : Type 0 where
  pub answer : IfSome old.remaining (answers result)
  pub failures : new.failures ≡ failures_after result old.failures
  -- after Read, no fault is in the bytes that the source gave
  pub unread : result ≡ Err Read → IfSome old.remaining (NoFaultBefore new.remaining)
  pub left : ReadsToEnd result old.remaining new.remaining
  pub memory : IfSome old.remaining (λ bytes. result ≡ Err OutOfMemory → grows bytes)
