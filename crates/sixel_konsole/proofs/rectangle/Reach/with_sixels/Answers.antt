use Rattle.std.proofs.Common.{◌∙◌, ap, arith, max}
use Rattle.sixel_konsole.proofs.KonsoleMeasureLemmas.{reach_over}
use Rattle.sixel_konsole.proofs.rectangle.Reach.with_sixels.Goals as goal

pub returns : goal.returns
returns c = λ drawing bytes long s.
    reach_over _ drawing bytes (omega (arith, long, c.requires)) s
    (c.after_sixels-place.ensures 1 drawing bytes long s.place_is) c.max.ensures
    (c.max-2.ensures ∙ ap (max c.args.self.rows) c.band_end.ensures)
