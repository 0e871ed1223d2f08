use Rattle.std.specs.List.{flat_map}
use Rattle.sixel_io.proofs.SinkLemmas.{PutThrough}
use Rattle.sixel_ppm.specs.Ppm.{samples_of}
use Rattle.sixel_sheet.specs.Sheets.{grey_pixels}
use Rattle.sixel_sheet.proofs.sheet.put_greys.Given as goal

abbrev pub invariant-loop : goal.invariant-loop
invariant-loop g l =
    PutThrough (g.K.Sink.state l.fn.out) (g.K.Sink.state l.out) l.fn.samples l.samples
    (flat_map samples_of (grey_pixels l.counter))
