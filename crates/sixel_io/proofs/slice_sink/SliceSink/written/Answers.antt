use Rattle.std.proofs.Common.{ap}
use Rattle.sixel_io.specs.SliceDevices.{SliceSinkState}
use Rattle.sixel_io.proofs.slice_sink.SliceSink.written.Goals as goal

pub returns : goal.returns
returns c = ap (λ (s : SliceSinkState). s.written) c.self.view_is
