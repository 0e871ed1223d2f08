use Rattle.std.proofs.Common.{take}
use Rattle.sixel_io.proofs.SinkLemmas.{PutThrough}
use Rattle.sixel_ppm.specs.PpmTables.{samples_from}
use Rattle.sixel_terminal.specs.Pixels.{bytes_of}
use Rattle.sixel_sheet.proofs.sheet.put_pixels.Given as goal

abbrev pub invariant-loop-pixel : goal.invariant-loop-pixel
invariant-loop-pixel g l =
    PutThrough (g.K.Sink.state l.fn.out) (g.K.Sink.state l.out) l.fn.samples l.samples
    (samples_from bytes_of (take l.pixel-index l.pixels))
