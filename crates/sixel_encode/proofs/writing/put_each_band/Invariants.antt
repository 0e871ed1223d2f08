use Rattle.sixel_io.proofs.SinkLemmas.{PutThrough}
use Rattle.sixel_encode.proofs.StepLemmas.{bands_above}
use Rattle.sixel_encode.proofs.writing.put_each_band.Given as goal

abbrev pub invariant-loop-band : goal.invariant-loop-band
invariant-loop-band g l =
    PutThrough (g.K.Sink.state l.fn.out) (g.K.Sink.state l.out) l.fn.text l.text (bands_above l.fn.picture l.band)
