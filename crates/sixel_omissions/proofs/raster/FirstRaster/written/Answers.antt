use Rattle.sixel_omissions.proofs.RasterLemmas.{not_complete}
use Rattle.sixel_omissions.proofs.raster.FirstRaster.written.Goals as goal

pub returns-in-Nothing : goal.returns-in-Nothing
returns-in-Nothing c = λ bytes h. not_complete bytes c.args.self.now.seen c.in-Nothing.is h.seen_is
