use Rattle.std.proofs.Common.{ap, arith, length, sym}
use Rattle.sixel_list.proofs.SixelLineLemmas.{tail-one, tail-two}
use Rattle.sixel_list.proofs.sixel_line.tail_length.Goals as goal

pub returns-then-bits-lt10-clause-length : goal.returns-then-bits-lt10-clause-length
returns-then-bits-lt10-clause-length c = sym (ap length (tail-one c.args.bits c.if-bits-lt10.true))

pub returns-else-bits-lt10-clause-length : goal.returns-else-bits-lt10-clause-length
returns-else-bits-lt10-clause-length c =
    sym (ap length (tail-two c.args.bits c.if-bits-lt10.false (omega (arith, c.requires))))
