use Rattle.std.specs.List.{flat_map, range_with_len}
use Rattle.sixel_io.proofs.SinkLemmas.{PutThrough}
use Rattle.sixel_ppm.specs.Ppm.{samples_of}
use Rattle.sixel_sheet.specs.Sheets.{sheet_row}
use Rattle.sixel_sheet.proofs.sheet.put_rows.Given as goal

abbrev pub invariant-loop-row : goal.invariant-loop-row
invariant-loop-row g l =
    PutThrough (g.K.Sink.state l.fn.out) (g.K.Sink.state l.out) l.fn.samples l.samples
    (flat_map samples_of (flat_map (sheet_row l.views) (range_with_len 0 l.row)))
