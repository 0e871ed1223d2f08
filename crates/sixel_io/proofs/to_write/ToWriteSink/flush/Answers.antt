use Rattle.std.proofs.Common.{refl}
use Rattle.sixel_io.proofs.to_write.ToWriteSink.flush.Goals as goal

pub returns-in-Ok-clause-flushed : goal.returns-in-Ok-clause-flushed
returns-in-Ok-clause-flushed g c = refl
