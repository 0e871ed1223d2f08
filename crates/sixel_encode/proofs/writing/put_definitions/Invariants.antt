use Rattle.sixel_io.proofs.SinkLemmas.{PutThrough}
use Rattle.sixel_encode.proofs.StepLemmas.{entries_above}
use Rattle.sixel_encode.proofs.writing.put_definitions.Given as goal

abbrev pub invariant-loop-register : goal.invariant-loop-register
invariant-loop-register g l =
    PutThrough (g.K.Sink.state l.fn.out) (g.K.Sink.state l.out) l.fn.text l.text (entries_above l.palette l.register)
