use Rattle.sixel_emulator_rules.proofs.AskingLemmas.{answer}
use Rattle.sixel_emulator_rules.proofs.asking.Asking.finding.Goals as goal

pub returns : goal.returns
returns c = λ placed h. answer c.args.self.now.terminals c.args.self.now.notes c.args.self.now.finding placed h.0
