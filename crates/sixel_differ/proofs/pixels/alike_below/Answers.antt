use Rattle.sixel_differ.proofs.PixelLemmas.{four_more}
use Rattle.sixel_differ.proofs.pixels.alike_below.Goals as goal

pub loop-at-preserved : goal.loop-at-preserved
loop-at-preserved c = (
  c.loop-at-test.true,
  four_more c.args.a.now c.args.b.now c.loop-at.at c.loop-at.invariant.1
      (c.are_four_same.ensures.0 c.if-are_four_same.true),
)
