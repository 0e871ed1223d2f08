use Rattle.std.proofs.Common.{refl}
use Rattle.sixel_io.proofs.to_write.ToWriteSink.failures.Goals as goal

pub returns : goal.returns
returns g c = refl
