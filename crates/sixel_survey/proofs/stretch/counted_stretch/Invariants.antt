use Rattle.std.proofs.Common.{◌≡◌, ◌≤◌, ℕ, List, None, true}
use Rattle.sixel_grammar.specs.declared.command.Placed.{Placed}
use Rattle.sixel_survey.specs.Stretches.{CountsIf, with_sixels}
use Rattle.sixel_survey.specs.Tallies.{IsTallyOf, tally_with}
use Rattle.sixel_survey.proofs.stretch.counted_stretch.Given as goal

abbrev pub invariant-loop-index : goal.invariant-loop-index
invariant-loop-index l = record {
  few : l.more ≤ l.index;
  none : l.first ≡ None → l.more ≡ 0;
  tally : (registers : ℕ) (seen : List Placed) → CountsIf registers l.rule seen l.place l.stretch true l.blank_too
      → IsTallyOf registers seen l.rule l.tally
      → IsTallyOf registers (with_sixels seen l.place l.stretch l.index) l.rule
      (tally_with l.rule l.first l.more l.tally);
}
