use Rattle.std.proofs.Common.{length, ◌-◌, ◌≤◌}
use Rattle.sixel_grammar.specs.Runs.{ReadsNumber}
use Rattle.sixel_grammar.proofs.run.digits_in.Given as goal

abbrev pub invariant-loop-end : goal.invariant-loop-end
invariant-loop-end l = (l.from ≤ l.end) × (l.end ≤ length l.piece) × ReadsNumber l.piece l.from l.end l.value

abbrev pub decreases-loop-end : goal.decreases-loop-end
decreases-loop-end l = length l.piece - l.end
