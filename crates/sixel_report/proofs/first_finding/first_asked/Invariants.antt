use Rattle.std.proofs.Common.{take}
use Rattle.sixel_report.proofs.FirstAskedLemmas.{IsFirstAskedOf}
use Rattle.sixel_report.proofs.first_finding.first_asked.Given as goal

abbrev pub invariant-loop-entry : goal.invariant-loop-entry
invariant-loop-entry l = IsFirstAskedOf (take l.entry-index l.entries) l.first
