use Rattle.std.proofs.Common.{◌∙◌, sym}
use Rattle.sixel_mlterm.specs.MlTermSeen.{said_in}
use Rattle.sixel_mlterm.proofs.MlTermLemmas.{blank_repeat, repeat_drawn, said_repeat}
use Rattle.sixel_mlterm.proofs.mlterm.MlTermReading.is_plain_repeat.Goals as goal

pub returns-else-bits-eq0 : goal.returns-else-bits-eq0
returns-else-bits-eq0 c = λ is before next s.
    let free = c.is_free.ensures c.if-is_free.true in
    repeat_drawn c.args.count c.args.bits s free.0 free.1
    (said_repeat c.args.count c.args.bits (said_in c.args.self.now) (sym c.is_said.ensures ∙ is))

pub returns-then-bits-eq0 : goal.returns-then-bits-eq0
returns-then-bits-eq0 c = λ is before next s.
    let free = c.is_free.ensures c.if-is_free.true in
    repeat_drawn c.args.count c.args.bits s free.0 free.1
    (blank_repeat c.args.count c.args.bits (said_in c.args.self.now) c.if-bits-eq0.true)
