use Rattle.sixel_emulator_rules.proofs.TakingLemmas.{look_push}
use Rattle.sixel_emulator_rules.proofs.asking.Asking.push.Goals as goal

pub returns-in-None-clause-taken : goal.returns-in-None-clause-taken
returns-in-None-clause-taken c = λ seen h.
    look_push c.args.self.now c.look.new.self seen c.args.place c.args.event.now c.in-None.is c.look.ensures.terminals
    c.look.ensures.finding c.look.ensures.notes h
