use Rattle.std.proofs.Common.{take}
use Rattle.sixel_grammar.specs.Stretches.{sixels_from}
use Rattle.sixel_io.proofs.SinkLemmas.{PutThrough}
use Rattle.sixel_report.specs.Texts.{list_text}
use Rattle.sixel_list.proofs.list_lines.put_each.Given as goal

abbrev pub invariant-loop-index : goal.invariant-loop-index
invariant-loop-index g l =
    PutThrough (g.K.Sink.state l.fn.out) (g.K.Sink.state l.out) l.fn.lines l.lines
    (list_text (sixels_from l.place (take l.index l.bytes)))
