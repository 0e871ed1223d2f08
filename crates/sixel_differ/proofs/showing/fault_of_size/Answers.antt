use Rattle.std.proofs.Common.{Err, subst}
use Rattle.sixel_mend.specs.declared.mending.MendFault.{MendFault}
use Rattle.sixel_mend.specs.Mended.{Mends}
use Rattle.sixel_differ.proofs.FaultLemmas.{empty_by_size, large_by_size, not_for_any_registers}
use Rattle.sixel_differ.proofs.showing.fault_of_size.Goals as goal

pub unreachable-requires : goal.unreachable-requires
unreachable-requires c =
    not_for_any_registers c.requires.0 (λ registers m.
    subst (λ (it : MendFault). Mends registers m c.requires.0 (Err it)) c.in-TooManyColours.is
    (c.requires.1 registers m))

pub returns-in-Grammar : goal.returns-in-Grammar
returns-in-Grammar c = λ bytes all m.
    subst (λ (it : MendFault). Mends 0 m bytes (Err it)) c.in-Grammar.is (all 0 m)

pub returns-in-Empty : goal.returns-in-Empty
returns-in-Empty c = λ bytes all m.
    empty_by_size m bytes (subst (λ (it : MendFault). Mends 0 m bytes (Err it)) c.in-Empty.is (all 0 m))

pub returns-in-TooLarge : goal.returns-in-TooLarge
returns-in-TooLarge c = λ bytes all m.
    large_by_size m bytes (subst (λ (it : MendFault). Mends 0 m bytes (Err it)) c.in-TooLarge.is (all 0 m))

pub returns-in-OutOfMemory : goal.returns-in-OutOfMemory
returns-in-OutOfMemory c = λ bytes all m.
    subst (λ (it : MendFault). Mends 0 m bytes (Err it)) c.in-OutOfMemory.is (all 0 m)
