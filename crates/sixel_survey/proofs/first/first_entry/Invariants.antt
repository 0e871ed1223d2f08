use Rattle.std.proofs.Common.{take}
use Rattle.sixel_survey.proofs.OrderLemmas.{IsFirstOf}
use Rattle.sixel_survey.proofs.first.first_entry.Given as goal

abbrev pub invariant-loop-entry : goal.invariant-loop-entry
invariant-loop-entry l = IsFirstOf (take l.entry-index l.entries) l.first
