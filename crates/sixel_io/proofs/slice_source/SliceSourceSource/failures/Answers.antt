use Rattle.std.proofs.Common.{ap}
use Rattle.sixel_io.specs.SliceDevices.{SliceSourceState}
use Rattle.sixel_io.proofs.slice_source.SliceSourceSource.failures.Goals as goal

pub returns : goal.returns
returns c = ap (λ (s : SliceSourceState). s.failures) c.self.view_is
