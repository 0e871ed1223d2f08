use Rattle.sixel_encode.proofs.AddedLemmas.{added_at, length-added}
use Rattle.sixel_encode.proofs.rows.with_row.Goals as goal

pub returns : goal.returns
returns c = record {
  long = length-added c.args.at c.args.register c.args.bit c.args.rows.now c.args.sixels c.requires.long
      c.requires.within;
  added = λ j lt. added_at c.args.at c.args.register c.args.bit j c.args.rows.now c.args.sixels c.requires.long
      c.requires.within lt;
}
