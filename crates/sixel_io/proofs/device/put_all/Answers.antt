use Rattle.std.proofs.Common.{◌+◌, ◌-◌, length, take, drop, refl, arith}
use Rattle.std.proofs.lemmas.List.{length-drop, length-take, take_rest}
use Rattle.std.proofs.Math.Seq.{take-add}
use Rattle.sixel_io.proofs.DeviceLemmas.{Appends-then}
use Rattle.sixel_io.proofs.SinkLemmas.{Appends-none}
use Rattle.sixel_io.proofs.device.put_all.Goals as goal

pub loop-at-init : goal.loop-at-init
loop-at-init g c = record {
  in_range = omega arith;
  appended = Appends-none _;
  unflushed = λ t. t;
  held = λ t. absurd (omega arith);
  failures = refl;
}

pub loop-at-preserved : goal.loop-at-preserved
loop-at-preserved g c =
    let at = c.loop-at.at in let n = c.in_ok-at.field-0 in let xs = c.args.bytes.now in
    let bound = c.in_ok-at.ensures.bound in
    let in_range = c.loop-at.invariant.in_range in
    let l1 = length-take (length c.args.bytes.now - c.loop-at.at) (drop c.loop-at.at c.args.bytes.now) in
    let l2 = length-drop c.loop-at.at c.args.bytes.now in
    record {
      in_range = omega arith;
      appended = Appends-then (g.K.Sink.state c.args.out.now).taken (g.K.Sink.state c.loop-at.out).taken
          (g.K.Sink.state c.take.new.self).taken (take c.loop-at.at c.args.bytes.now)
          (take c.in_ok-at.field-0 (drop c.loop-at.at c.args.bytes.now))
          (take (c.loop-at.at + c.in_ok-at.field-0) c.args.bytes.now) c.loop-at.invariant.appended
          (rw take_rest at c.in_ok-at.ensures.bytes) (take-add c.loop-at.at c.in_ok-at.field-0 c.args.bytes.now);
      unflushed = λ t. cc (c.in_ok-at.ensures.flushed, t);
      held = λ t. c.in_ok-at.ensures.flushed;
      failures = cc (c.in_ok-at.ensures.failures, c.loop-at.invariant.failures);
    }
