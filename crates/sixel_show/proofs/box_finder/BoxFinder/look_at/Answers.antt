use Rattle.sixel_show.proofs.StageLemmas.{box-of-one}
use Rattle.sixel_show.proofs.box_finder.BoxFinder.look_at.Goals as goal

pub returns : goal.returns
returns c = cc (c.or-self.ensures, c.box_in_raster.ensures, box-of-one c.args.event.now)
