-- A source that is followed to its end.
use Rattle.std.proofs.Common.{◌≡◌, ℕ, List, [], Option, None, Some, Result, Err, ap, refl}
use Rattle.std.proofs.Common.{append-nil, subst, sym}
use Rattle.std.specs.Prelude.{IfSome}
use Rattle.sixel_grammar.specs.declared.command.Placed.{Placed}
use Rattle.sixel_grammar.specs.declared.fault.InputFault.{InputFault}
use Rattle.sixel_grammar.specs.declared.fault.InputFault.TheVariants.{OutOfMemory, Read as ReadFault}
use Rattle.sixel_grammar.specs.declared.halt.Halt as halt
use Rattle.sixel_grammar.specs.declared.reader.Reader.{Reader}
use Rattle.sixel_grammar.specs.declared.source.SourceHalt.{SourceHalt}
use Rattle.sixel_grammar.specs.declared.source.SourceHalt.TheVariants.{Read, Refused, Stopped}
use Rattle.sixel_grammar.specs.Faults.{IsFaultOf}
use Rattle.sixel_grammar.specs.Following.{HaltsWithin}
use Rattle.sixel_grammar.specs.Reading.{Explains, failures_after}
use Rattle.sixel_grammar.specs.Source.{HaltsSource, failures_of, fault_of_source, source_halt_of}
use Rattle.sixel_grammar.specs.Standing.{StandsAfter}
use Rattle.sixel_grammar.proofs.FollowingLemmas.{always_refused}

-- ---- bytes at which it was halted

-- what ends the following of bytes that are all there is right for them
pub halts_document : {F S : Type 0} (has_taken : F → F → List Placed → Type 0)
    (may_stop : F → F → S → List Placed → Type 0) (old new first : F) (reader r : Reader) (bytes : List ℕ)
    (halt : halt.Halt S) → has_taken first old [] → StandsAfter reader [] []
    → HaltsWithin has_taken may_stop reader old r new bytes halt
    → HaltsSource has_taken may_stop old new (source_halt_of halt) bytes
halts_document has_taken may_stop old new first reader r bytes (halt.TheVariants.Refused fault) h stands halts =
    subst (λ (t : List ℕ). IsFaultOf t fault) (append-nil bytes)
    (always_refused (has_taken first) r new bytes fault
    (halts first [] (record { events = []; read = stands; taken = h })) [])
halts_document has_taken may_stop old new first reader r bytes (halt.TheVariants.Stopped stop) h stands halts = λ f t.
    halts f [] (record { events = []; read = stands; taken = t })

-- ---- for callers

-- what holds of the document's bytes holds of the source's, if these are known
pub told_known : (known : Option (List ℕ)) (bytes : List ℕ) (P : List ℕ → Type 0)
    → IfSome known (λ given. given ≡ bytes) → P bytes → IfSome known P
told_known None bytes P are p = tt
told_known (Some given) bytes P are p = subst P (sym are) p

-- the fault that a halt is explains the bytes
pub halt_explains : {F S : Type 0} (has_taken : F → F → List Placed → Type 0)
    (may_stop : F → F → S → List Placed → Type 0) (old new : F) (known : Option (List ℕ)) (halt : SourceHalt S)
    → IfSome known (HaltsSource has_taken may_stop old new halt) → IfSome known (Explains (fault_of_source halt))
halt_explains has_taken may_stop old new None halt h = tt
halt_explains has_taken may_stop old new (Some bytes) Read h = tt
halt_explains has_taken may_stop old new (Some bytes) (Refused fault) h = h
halt_explains has_taken may_stop old new (Some bytes) (Stopped stop) h = tt

-- the same count of failures
pub halt_failures : {S : Type 0} (A : Type 0) (halt : SourceHalt S) (n : ℕ)
    → failures_of (Err halt) n ≡ failures_after {A = A} (Err (fault_of_source halt)) n
halt_failures A Read n = refl
halt_failures A (Refused fault) n = refl
halt_failures A (Stopped stop) n = refl

-- only a failed read is a failed read
pub halt_is_read : {S : Type 0} (A : Type 0) (halt : SourceHalt S)
    → (let r : Result A InputFault = Err (fault_of_source halt) in r) ≡ Err ReadFault → halt ≡ Read
halt_is_read A Read is = refl
halt_is_read A (Refused fault) is = cc
halt_is_read A (Stopped stop) is = cc

-- what holds after a failed read
pub halt_unread : {S : Type 0} (A P : Type 0) (halt : SourceHalt S)
    → ((let r : Result (Unit {0}) (SourceHalt S) = Err halt in r) ≡ Err Read → P)
    → (let r : Result A InputFault = Err (fault_of_source halt) in r) ≡ Err ReadFault → P
halt_unread A P halt h is = h (ap Err (halt_is_read A halt is))

-- only a stop is a want of memory, so this holds of the bytes if it does wherever the follower may stop
pub halt_memory : {F S : Type 0} (A : Type 0) (has_taken : F → F → List Placed → Type 0)
    (may_stop : F → F → S → List Placed → Type 0) (old new : F) (known : Option (List ℕ)) (halt : SourceHalt S)
    (P : List ℕ → Type 0)
    → ((stop : S) (bytes : List ℕ) → HaltsSource has_taken may_stop old new (Stopped stop) bytes → P bytes)
    → IfSome known (HaltsSource has_taken may_stop old new halt)
    → IfSome known (λ bytes.
    (let r : Result A InputFault = Err (fault_of_source halt) in r) ≡ Err OutOfMemory → P bytes)
halt_memory A has_taken may_stop old new None halt P stops h = tt
halt_memory A has_taken may_stop old new (Some bytes) Read P stops h = λ is. cc
halt_memory A has_taken may_stop old new (Some bytes) (Refused fault) P stops h = λ is. cc
halt_memory A has_taken may_stop old new (Some bytes) (Stopped stop) P stops h = λ is. stops stop bytes h
