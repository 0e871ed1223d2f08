use Rattle.sixel_plane.proofs.StretchLemmas.{sixels_of}
use Rattle.sixel_plane.proofs.stretch.sixels_at.Goals as goal

pub returns : goal.returns
returns c = sixels_of c.args.at c.args.count c.args.bytes.now c.requires.room c.requires.sixels
