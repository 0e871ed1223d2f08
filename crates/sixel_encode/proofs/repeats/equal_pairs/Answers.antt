use Rattle.std.proofs.Common.{refl}
use Rattle.sixel_encode.proofs.RepeatLemmas.{pairs_are, pairs_few}
use Rattle.sixel_encode.proofs.repeats.equal_pairs.Goals as goal

pub returns : goal.returns
returns c = record {
  few = pairs_few c.args.at _ c.args.sixels.now c.requires refl;
  pairs = pairs_are c.args.at _ c.args.sixels.now c.requires refl;
}
