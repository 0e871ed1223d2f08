use Rattle.std.proofs.Common.{refl}
use Rattle.sixel_encode.proofs.GapBitLemmas.{blanks_are, blanks_few}
use Rattle.sixel_encode.proofs.gaps.blank_columns.Goals as goal

pub returns : goal.returns
returns c = record {
  few = blanks_few c.args.at _ c.args.sixels.now c.requires refl;
  blank = blanks_are c.args.at _ c.args.sixels.now c.requires refl;
}
