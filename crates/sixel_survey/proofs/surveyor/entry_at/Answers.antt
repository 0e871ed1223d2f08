use Rattle.std.proofs.Common.{ap}
use Rattle.std.specs.Option.{option_map}
use Rattle.sixel_survey.specs.Tallies.{entry_from}
use Rattle.sixel_survey.proofs.surveyor.entry_at.Goals as goal

pub returns-in-Some : goal.returns-in-Some
returns-in-Some c =
    rw (c.entry_from.ensures, c.rule_at-rule.ensures)
    (ap (option_map (entry_from c.args.blank _)) (rw c.rule_at-rule.ensures at c.in-Some.ensures))

pub returns-in-None : goal.returns-in-None
returns-in-None c = ap (option_map (entry_from c.args.blank _)) (rw c.rule_at-rule.ensures at c.in-None.ensures)
