use Rattle.sixel_emulator_rules.proofs.QuietLemmas.{quiet_line, quiet_return, quiet_select}
use Rattle.sixel_emulator_rules.proofs.tallying.Tallying.push_command.Goals as goal

pub pass_by-requires : goal.pass_by-requires
pass_by-requires c =
    let a = c.args.self.now in quiet_return a.terminals a.notes c.if-not-self.true

pub pass_by-requires-in-NextLine : goal.pass_by-requires-in-NextLine
pass_by-requires-in-NextLine c =
    let a = c.args.self.now in quiet_line a.terminals a.notes c.if-not-self-2.true

pub pass_by-requires-in-Select : goal.pass_by-requires-in-Select
pass_by-requires-in-Select c =
    let a = c.args.self.now in quiet_select a.terminals a.notes c.in-Select.register
