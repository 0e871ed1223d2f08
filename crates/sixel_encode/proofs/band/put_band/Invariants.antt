use Rattle.std.proofs.Common.{◌≡◌}
use Rattle.sixel_io.proofs.SinkLemmas.{PutThrough}
use Rattle.sixel_encode.proofs.StepLemmas.{is_first_of, registers_above}
use Rattle.sixel_encode.proofs.band.put_band.Given as goal

abbrev pub invariant-loop-register : goal.invariant-loop-register
invariant-loop-register g l = record {
  put : PutThrough (g.K.Sink.state l.fn.out) (g.K.Sink.state l.out) l.fn.text l.text
      (registers_above l.fn.picture l.fn.band l.register);
  first : l.is_first ≡ is_first_of l.fn.picture l.fn.band l.register;
}
