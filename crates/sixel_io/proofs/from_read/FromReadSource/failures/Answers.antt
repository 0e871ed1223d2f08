use Rattle.std.proofs.Common.{refl}
use Rattle.sixel_io.proofs.from_read.FromReadSource.failures.Goals as goal

pub returns : goal.returns
returns g c = refl
