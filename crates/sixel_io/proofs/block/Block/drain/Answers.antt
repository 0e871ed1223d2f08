use Rattle.std.proofs.Common.{◌≡◌, ◌∙◌, ◌≤◌, length, take, drop, refl, sym, ap, arith}
use Rattle.std.proofs.lemmas.List.{drop-drop, length-drop, length-take-le}
use Rattle.sixel_io.proofs.DeviceLemmas.{takes-further, nothing-taken}
use Rattle.sixel_io.proofs.block.Block.drain.Goals as goal

pub loop-self-init : goal.loop-self-init
loop-self-init g c =
    let none = nothing-taken (g.K.Sink.state c.args.out.now).taken c.args.self.now in
    record {
      in_range = (c.self.invariant.0, c.self.invariant.1);
      prefix = (none.0, none.1, c.self.view_is ∙ none.2);
      unflushed = λ t. t;
      held = λ less. absurd (omega (arith, ap length c.self.view_is));
      failures = refl;
    }

pub loop-self-preserved : goal.loop-self-preserved
loop-self-preserved g c =
    let start = c.loop-self.self-inside.start in
    let end = c.loop-self.self-inside.end in
    let text = take end c.loop-self.self-inside.text in
    let part : c.part.result.now ≡ drop start text = c.part.ensures in
    let len : length c.part.result.now ≡ length (drop start text) = ap length part in
    let whole : length text ≡ end =
    length-take-le end c.loop-self.self-inside.text c.loop-self.invariant.in_range.1 in
    let bound : c.in_ok-count.count ≤ length c.part.result.now = c.in_ok-count.ensures.bound.1 in
    record {
      in_range = (omega (arith, length-drop start text), c.loop-self.invariant.in_range.1);
      prefix = takes-further _ (g.K.Sink.state c.loop-self.out).taken _ c.args.self.now
          (drop start text) _ c.in_ok-count.count c.loop-self.invariant.prefix (rw part at c.in_ok-count.ensures.bytes)
          (sym (drop-drop c.in_ok-count.count start text));
      unflushed = λ t. cc (c.in_ok-count.ensures.flushed, t);
      held = λ less. c.in_ok-count.ensures.flushed;
      failures = cc (c.in_ok-count.ensures.failures, c.loop-self.invariant.failures);
    }
