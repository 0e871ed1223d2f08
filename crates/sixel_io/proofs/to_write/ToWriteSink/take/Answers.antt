use Rattle.std.proofs.Common.{arith}
use Rattle.sixel_io.proofs.to_write.ToWriteSink.take.Goals as goal

pub returns-in-Ok-clause-bound : goal.returns-in-Ok-clause-bound
returns-in-Ok-clause-bound g c = (omega arith, c.in-Ok.ensures.bound)
