use Rattle.std.proofs.Common.{ℕ, List}
use Rattle.sixel_grammar.specs.declared.command.Placed.{Placed}
use Rattle.sixel_grammar.specs.Document.{events_of}
use Rattle.sixel_model.specs.declared.rule.Rule.TheVariants.{Outside}
use Rattle.sixel_judge.specs.Covering.{IsCoverOf}
use Rattle.sixel_judge.specs.Notes.{IsNotesAfter}
use Rattle.sixel_survey.specs.Stretches.{with_sixels}
use Rattle.sixel_survey.specs.Tallies.{IsTallyOf}
use Rattle.sixel_survey.proofs.stretch.counted_outside.Given as goal

abbrev pub invariant-loop-index : goal.invariant-loop-index
invariant-loop-index g l =
    (registers : ℕ) (seen : List Placed) → IsNotesAfter l.notes (events_of seen)
    → IsCoverOf (g.P.Cover.grid l.plane) (events_of seen) → IsTallyOf registers seen Outside l.fn.tally
    → IsTallyOf registers (with_sixels seen l.place l.stretch l.index) Outside l.all
