use Rattle.std.proofs.Common.{◌-◌, length, take}
use Rattle.sixel_grammar.specs.Stretches.{sixels_from}
use Rattle.sixel_io.proofs.SinkLemmas.{PutThrough}
use Rattle.sixel_report.specs.Texts.{list_text}
use Rattle.sixel_list.proofs.list_lines.put_sixels.Given as goal

abbrev pub invariant-loop-done : goal.invariant-loop-done
invariant-loop-done g l =
    PutThrough (g.K.Sink.state l.fn.out) (g.K.Sink.state l.out) l.fn.lines l.lines
    (list_text (sixels_from l.place (take l.done l.bytes)))

abbrev pub decreases-loop-done : goal.decreases-loop-done
decreases-loop-done g l = length l.bytes - l.done
