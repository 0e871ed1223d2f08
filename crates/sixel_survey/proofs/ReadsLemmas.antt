-- A document that is read from a source.
use Rattle.std.proofs.Common.{◌≡◌, ◌∙◌, ℕ, List, Option, None, Some, Result, Ok, Err, refl}
use Rattle.std.specs.Prelude.{IfSome}
use Rattle.std.specs.Io.KnownBytes.{Consumes}
use Rattle.sixel_io.specs.Devices.{ReadsToEnd, SourceState}
use Rattle.sixel_grammar.specs.Reading.{Explains, NoFaultBefore, failures_after}
use Rattle.sixel_grammar.specs.Source.{HaltsSource, failures_of, fault_of_source}
use Rattle.sixel_grammar.specs.declared.command.Placed.{Placed}
use Rattle.sixel_grammar.specs.declared.fault.InputFault.{InputFault}
use Rattle.sixel_grammar.specs.declared.fault.InputFault.TheVariants.{Grammar, OutOfMemory, Read}
use Rattle.sixel_grammar.specs.declared.source.SourceHalt.{SourceHalt}
use Rattle.sixel_grammar.specs.declared.source.SourceHalt.TheVariants.{Read as ReadHalt, Stopped}
use Rattle.sixel_grammar.proofs.FollowSourceLemmas.{halt_explains, halt_failures, halt_memory, halt_unread}
use Rattle.sixel_survey.specs.Reads.{ReadsDocument}

of_any : {P : List ℕ → Type 0} (known : Option (List ℕ)) → ((bytes : List ℕ) → P bytes) → IfSome known P
of_any None h = tt
of_any (Some bytes) h = h bytes

if_known : {P Q : List ℕ → Type 0} (known : Option (List ℕ)) → ((bytes : List ℕ) → P bytes → Q bytes) → IfSome known P
    → IfSome known Q
if_known None h p = tt
if_known (Some bytes) h p = h bytes p

-- one that is followed to its end
pub reads_followed : {A S : Type 0} {answers : Result A InputFault → List ℕ → Type 0} {grows : List ℕ → Type 0} (a : A)
    (old new : SourceState) → IfSome old.remaining (answers (Ok a)) → new.failures ≡ old.failures
    → ReadsToEnd (let r : Result (Unit {0}) S = Ok tt in r) old.remaining new.remaining
    → ReadsDocument answers grows (Ok a) old new
reads_followed a old new answer failures left = record {
  answer = answer;
  failures = failures;
  unread = λ is. cc;
  left = record { read = left.read; ended = left.ended };
  memory = of_any old.remaining (λ bytes is. cc);
}

-- one at which what follows is halted
pub reads_halted : {A F S : Type 0} {answers : Result A InputFault → List ℕ → Type 0} {grows : List ℕ → Type 0}
    (has_taken : F → F → List Placed → Type 0) (may_stop : F → F → S → List Placed → Type 0) (first last : F)
    (halt : SourceHalt S) (old new : SourceState)
    → ((bytes : List ℕ) → Explains (fault_of_source halt) bytes → answers (Err (fault_of_source halt)) bytes)
    → ((stop : S) (bytes : List ℕ) → HaltsSource has_taken may_stop first last (Stopped stop) bytes → grows bytes)
    → IfSome old.remaining (HaltsSource has_taken may_stop first last halt)
    → new.failures ≡ failures_of (Err halt) old.failures
    → ((let r : Result (Unit {0}) (SourceHalt S) = Err halt in r) ≡ Err ReadHalt
    → IfSome old.remaining (NoFaultBefore new.remaining))
    → (bytes : List ℕ) × Consumes old.remaining new.remaining bytes
    → ReadsDocument answers grows (Err (fault_of_source halt)) old new
reads_halted {A} {F} {S} {answers} {grows} has_taken may_stop first last halt old new fault stops halts failures unread
    read = record {
      answer = if_known old.remaining fault (halt_explains has_taken may_stop first last old.remaining halt halts);
      failures = failures ∙ halt_failures A halt old.failures;
      unread = halt_unread A _ halt unread;
      left = record { read = read; ended = tt };
      memory = halt_memory A has_taken may_stop first last old.remaining halt grows stops halts;
    }

-- what is made of the answer
pub reads_on : {A B : Type 0} {P : Result A InputFault → List ℕ → Type 0} {Q : Result B InputFault → List ℕ → Type 0}
    {grows : List ℕ → Type 0} (a : A) (b : B) (old new : SourceState)
    → ((bytes : List ℕ) → P (Ok a) bytes → Q (Ok b) bytes) → ReadsDocument P grows (Ok a) old new
    → ReadsDocument Q grows (Ok b) old new
reads_on a b old new answers r = record {
  answer = if_known old.remaining answers r.answer;
  failures = r.failures;
  unread = λ is. cc;
  left = record { read = r.left.read; ended = r.left.ended };
  memory = of_any old.remaining (λ bytes is. cc);
}

same_failures : (A B : Type 0) (fault : InputFault) (n : ℕ)
    → failures_after {A = A} (Err fault) n ≡ failures_after {A = B} (Err fault) n
same_failures A B (Grammar fault) n = refl
same_failures A B OutOfMemory n = refl
same_failures A B Read n = refl

same_fault : (A B : Type 0) (fault other : InputFault)
    → (let r : Result B InputFault = Err fault in r) ≡ Err other
    → (let r : Result A InputFault = Err fault in r) ≡ Err other
same_fault A B fault other is = cc

-- a fault stays what it is
pub reads_refused : {A B : Type 0} {P : Result A InputFault → List ℕ → Type 0}
    {Q : Result B InputFault → List ℕ → Type 0} {grows : List ℕ → Type 0} (fault : InputFault) (old new : SourceState)
    → ((bytes : List ℕ) → P (Err fault) bytes → Q (Err fault) bytes) → ReadsDocument P grows (Err fault) old new
    → ReadsDocument Q grows (Err fault) old new
reads_refused {A} {B} fault old new answers r = record {
  answer = if_known old.remaining answers r.answer;
  failures = r.failures ∙ same_failures A B fault old.failures;
  unread = λ is. r.unread (same_fault A B fault Read is);
  left = record { read = r.left.read; ended = tt };
  memory = if_known old.remaining (λ bytes h is. h (same_fault A B fault OutOfMemory is)) r.memory;
}
