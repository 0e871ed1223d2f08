use Rattle.sixel_mend.proofs.NotingLemmas.{numbered_accepted}
use Rattle.sixel_mend.proofs.numbering.PictureParts.into_picture.Goals as goal

pub of_parts-requires : goal.of_parts-requires
of_parts-requires c =
    let n = c.requires.numbered in numbered_accepted c.args.width c.args.height n.2 n.3 c.requires.sides
