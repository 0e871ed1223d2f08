-- A source that is read to its end, and what takes the events of its document.
use Rattle.std.specs.Prelude.{◌≡◌, [], ℕ, IfSome, List, Option, Result, Ok, Err}
use Rattle.sixel_io.specs.Devices.{one_more}
use Rattle.sixel_grammar.specs.declared.command.Placed.{Placed}
use Rattle.sixel_grammar.specs.declared.fault.InputFault.{InputFault}
use Rattle.sixel_grammar.specs.declared.fault.InputFault.TheVariants.{Grammar, OutOfMemory, Read as ReadFault}
use Rattle.sixel_grammar.specs.declared.halt.Halt as halt
use Rattle.sixel_grammar.specs.declared.source.SourceHalt.{SourceHalt}
use Rattle.sixel_grammar.specs.declared.source.SourceHalt.TheVariants.{Read, Refused, Stopped}
use Rattle.sixel_grammar.specs.Document.{Document}
use Rattle.sixel_grammar.specs.Faults.{IsFaultOf}
use Rattle.sixel_grammar.specs.Following.{HoldsIn}

-- what ends the following of bytes ends that of their source
abbrev pub source_halt_of : {S : Type 0} → halt.Halt S → SourceHalt S
source_halt_of (halt.TheVariants.Refused fault) = Refused fault
source_halt_of (halt.TheVariants.Stopped stop) = Stopped stop

-- where a follower stops only for want of memory
abbrev pub fault_of_source : {S : Type 0} → SourceHalt S → InputFault
fault_of_source Read = ReadFault
fault_of_source (Refused fault) = Grammar fault
fault_of_source (Stopped stop) = OutOfMemory

-- the bytes of the source, which are these if they are known, are a document whose events were taken
pub record IsFollowed {F : Type 0} (has_taken : F → List Placed → Type 0) (follower : F) (known : Option (List ℕ))
    : Type 0 where
  pub events : List Placed
  pub bytes : List ℕ
  pub document : Document events bytes
  pub taken : has_taken follower events
  pub known_are : IfSome known (λ given. given ≡ bytes)

-- what had taken no event has now (new) taken those of the source's document
abbrev pub FollowsSource : {F : Type 0} → (F → F → List Placed → Type 0) → F → F → Option (List ℕ) → Type 0
FollowsSource {F} has_taken old new known =
    (first : F) → has_taken first old [] → IsFollowed (has_taken first) new known

-- why a source of these bytes wasn't followed to its end. Read: it says nothing about the bytes. Refused: this is their
-- fault. Stopped: what had taken no event stopped so at one of those that are complete in some of the bytes
abbrev pub HaltsSource : {F S : Type 0} → (F → F → List Placed → Type 0) → (F → F → S → List Placed → Type 0) → F → F
    → SourceHalt S → List ℕ → Type 0
HaltsSource {F} has_taken may_stop old new Read bytes = Unit {0}
HaltsSource {F} has_taken may_stop old new (Refused fault) bytes = IsFaultOf bytes fault
HaltsSource {F} has_taken may_stop old new (Stopped stop) bytes =
    (first : F) → has_taken first old [] → HoldsIn (may_stop first new stop) bytes

-- the source's count of failures after the call: one more after `Read`, otherwise the same
abbrev pub failures_of : {S : Type 0} → Result (Unit {0}) (SourceHalt S) → ℕ → ℕ
failures_of (Err Read) n = one_more n
failures_of (Err (Refused fault)) n = n
failures_of (Err (Stopped stop)) n = n
failures_of (Ok u) n = n
