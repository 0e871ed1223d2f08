use Rattle.std.proofs.Common.{ℕ, List}
use Rattle.sixel_grammar.specs.declared.command.Placed.{Placed}
use Rattle.sixel_grammar.specs.Document.{events_of}
use Rattle.sixel_judge.specs.Covering.{IsCoverOf}
use Rattle.sixel_judge.specs.Notes.{IsNotesAfter}
use Rattle.sixel_survey.specs.Stretches.{with_sixels}
use Rattle.sixel_survey.proofs.stretch.cover_each.Given as goal

abbrev pub invariant-loop-index : goal.invariant-loop-index
invariant-loop-index g l =
    (seen : List Placed) (place : ℕ) → IsNotesAfter l.notes (events_of seen)
    → IsCoverOf (g.P.Cover.grid l.fn.plane) (events_of seen)
    → IsCoverOf (g.P.Cover.grid l.plane) (events_of (with_sixels seen place l.stretch l.index))
