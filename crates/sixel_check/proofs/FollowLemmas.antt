-- A check that was halted.
use Rattle.std.proofs.Common.{◌≡◌, ℕ, List, [], Option}
use Rattle.std.specs.Prelude.{Err, IfSome, Ok, Result}
use Rattle.sixel_grammar.specs.Following.{input_fault_of}
use Rattle.sixel_grammar.specs.Reading.{Explains}
use Rattle.sixel_grammar.specs.declared.fault.InputFault.{InputFault}
use Rattle.sixel_grammar.specs.declared.fault.InputFault.TheVariants.{OutOfMemory, Read}
use Rattle.sixel_grammar.specs.declared.halt.Halt.{Halt}
use Rattle.sixel_grammar.specs.declared.halt.Halt.TheVariants.{Refused, Stopped}
use Rattle.sixel_judge.specs.Growth.{MayGrowIn}
use Rattle.sixel_grammar.specs.Source.{HaltsSource, IsFollowed, source_halt_of}
use Rattle.sixel_grammar.proofs.FollowSourceLemmas.{told_known}
use Rattle.sixel_judge.specs.Standing.{CheckerValue, StandsAfter}
use Rattle.sixel_judge.proofs.FollowLemmas.{HasTaken, MayStop, source_grows, whole_then}
use Rattle.sixel_check.specs.Checking.{HasSeen, IsWhole}

pub halted_explains : {S : Type 0} (old new : CheckerValue) (bytes : List ℕ) (halt : Halt S)
    → HaltsSource HasTaken MayStop old new (source_halt_of halt) bytes → Explains (input_fault_of halt) bytes
halted_explains old new bytes (Refused fault) halts = halts
halted_explains old new bytes (Stopped stop) halts = tt

-- no source is read
pub halted_reads : {S : Type 0} (halt : Halt S) → input_fault_of halt ≡ Read → ⊥
halted_reads (Refused fault) e = cc
halted_reads (Stopped stop) e = cc

pub halted_grows : {S A : Type 0} (n : ℕ) (old new : CheckerValue) (bytes : List ℕ) (halt : Halt S)
    → HaltsSource HasTaken MayStop old new (source_halt_of halt) bytes → StandsAfter n old []
    → (let result : Result A InputFault = Err (input_fault_of halt) in result) ≡ Err OutOfMemory → MayGrowIn n bytes
halted_grows n old new bytes (Refused fault) halts s e = cc
halted_grows n old new bytes (Stopped stop) halts s e = source_grows n old new stop bytes halts s

-- ---- the document of a source

pub seen_all : (n : ℕ) (checker : CheckerValue) (known : Option (List ℕ)) → IsFollowed (StandsAfter n) checker known
    → IfSome known (HasSeen n (Ok checker))
seen_all n checker known f =
    told_known known f.bytes (HasSeen n (Ok checker)) f.known_are (f.events, f.document, f.taken)

pub whole_all : (n : ℕ) (checker : CheckerValue) (known : Option (List ℕ)) → IsFollowed (StandsAfter n) checker known
    → IsWhole checker
whole_all n checker known f = (n, f.events, f.taken, whole_then f.events f.bytes f.document)
