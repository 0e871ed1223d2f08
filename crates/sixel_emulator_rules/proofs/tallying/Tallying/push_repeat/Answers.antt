use Rattle.std.proofs.Common.{◌∙◌, sym}
use Rattle.sixel_emulator_rules.proofs.QuietLemmas.{quiet_repeat}
use Rattle.sixel_emulator_rules.proofs.tallying.Tallying.push_repeat.Goals as goal

pub pass_by-requires : goal.pass_by-requires
pass_by-requires c =
    let a = c.args.self.now in
    quiet_repeat a.terminals a.notes c.args.count c.args.bits
    (rw (← c.from.ensures) (sym c.is_calm.ensures ∙ c.if-is_calm.true))
