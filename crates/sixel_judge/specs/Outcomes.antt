-- Verdicts without the picture.
use Rattle.std.specs.Prelude.{◌≡◌, ℕ, List}
use Rattle.sixel_grammar.specs.declared.command.Placed.{Placed}
use Rattle.sixel_grammar.specs.Document.{events_of}
use Rattle.sixel_judge.specs.declared.verdict.Outcome.{Outcome}
use Rattle.sixel_judge.specs.declared.verdict.Verdict.{Verdict}
use Rattle.sixel_judge.specs.Alarms.{MattersUnlessConservative}
use Rattle.sixel_judge.specs.Portable.{IsShownEverywhere}
use Rattle.sixel_judge.specs.Verdicts.{IsVerdict, outcome_of}

-- the outcome is that of the verdict on these events, whose picture is portable, and whose finding matters, unless its
-- rule is conservative
pub record IsOutcome (registers : ℕ) (placed : List Placed) (outcome : Outcome) : Type 0 where
  pub verdict : Verdict
  pub verdict_is : IsVerdict registers placed verdict
  pub everywhere : IsShownEverywhere registers (events_of placed) verdict
  pub matters : MattersUnlessConservative registers placed verdict
  pub outcome_is : outcome ≡ outcome_of verdict
