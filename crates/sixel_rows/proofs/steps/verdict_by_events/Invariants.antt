use Rattle.std.proofs.Common.{ℕ, List}
use Rattle.sixel_grammar.specs.declared.command.Placed.{Placed}
use Rattle.sixel_judge.specs.Standing.{StandsAfter}
use Rattle.sixel_rows.proofs.steps.verdict_by_events.Given as goal

abbrev pub invariant-loop-placed : goal.invariant-loop-placed
invariant-loop-placed l = (registers : ℕ) × (seen : List Placed) × StandsAfter registers l.checker seen
