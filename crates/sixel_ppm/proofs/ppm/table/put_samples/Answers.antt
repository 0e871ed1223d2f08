use Rattle.std.proofs.Common.{take, arith}
use Rattle.sixel_ppm.proofs.PpmTableLemmas.{pixel_put}
use Rattle.sixel_ppm.proofs.ppm.table.put_samples.Goals as goal

pub loop-pixel-preserved : goal.loop-pixel-preserved
loop-pixel-preserved g c = record {
  place = omega arith;
  put = pixel_put (g.C.ToRgbx.rgbx c.args.colours.now) c.args.pixels.now (take c.args.start c.args.text.now)
      c.loop-pixel.text c.loop-pixel.pixel-index c.loop-pixel.at c.pixel-item.result c.to_rgbx.result
      c.loop-pixel-test.true (omega arith) c.pixel-item.is c.to_rgbx.ensures (omega (arith, c.to_rgbx.type_inv))
      c.loop-pixel.invariant.put;
}
