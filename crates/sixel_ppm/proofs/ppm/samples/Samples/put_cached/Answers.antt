use Rattle.std.proofs.Common.{refl, arith}
use Rattle.sixel_ppm.proofs.ppm.samples.Samples.put_cached.Goals as goal

pub returns-clause-put : goal.returns-clause-put
returns-clause-put c =
    let s = c.args.self.now in
    record {
      width = refl;
      height = refl;
      maxval = refl;
      left = omega (arith, c.put_all-count.ensures.most, c.requires.left);
      place = refl;
      partial = refl;
      last = refl;
      colours = refl;
      registers = c.put_all-count.ensures.put s.maxval s.colours.palette s.knows;
    }
