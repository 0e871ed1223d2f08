use Rattle.std.proofs.Common.{◌≤◌, ◌-◌, length, take}
use Rattle.sixel_io.proofs.SinkLemmas.{PutThrough}
use Rattle.sixel_encode.proofs.parts.put_by_parts.Given as goal

abbrev pub invariant-loop-from : goal.invariant-loop-from
invariant-loop-from g l = record {
  put : PutThrough (g.K.Sink.state l.fn.out) (g.K.Sink.state l.out) l.fn.text l.text (take l.from l.columns);
  within : l.from ≤ length l.columns;
}

abbrev pub decreases-loop-from : goal.decreases-loop-from
decreases-loop-from g l = length l.columns - l.from
