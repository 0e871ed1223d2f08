use Rattle.std.proofs.Common.{◌∙◌}
use Rattle.sixel_terminal.proofs.SelectLemmas.{select_selects, define_selects, none_selects}
use Rattle.sixel_terminal.proofs.terminal.steps.selected_by.Goals as goal

pub returns-in-Select : goal.returns-in-Select
returns-in-Select c = rw c.in-Select.is (select_selects c.args.selects c.in-Select.register)

pub returns-in-Define : goal.returns-in-Define
returns-in-Define c =
    rw c.in-Define.is
    (c.then_some.ensures
    ∙ define_selects c.args.selects c.in-Define.register c.in-Define.system c.in-Define.x c.in-Define.y c.in-Define.z)

pub returns-in_default : goal.returns-in_default
returns-in_default c = none_selects c.args.selects c.args.command c.in_default.not-Select c.in_default.not-Define
