use Rattle.std.proofs.Common.{◌<◌, ◌∙◌, [], ap, rules}
use Rattle.sixel_plane.specs.BandPlanes.{has_coverage_bit}
use Rattle.sixel_model.specs.Grids.{first_blank}
use Rattle.sixel_plane.proofs.PaintedLemmas.{first_blank_unpainted}
use Rattle.sixel_plane.proofs.cover_plane.CoverPlaneCover.first_blank.Goals as goal

pub returns : goal.returns
returns c =
    let inside = c.self.inside in
    let some : 0 < inside.width = search rules in
    first_blank_unpainted inside.width inside.height []
    (has_coverage_bit inside.width inside.coverage.items) c.first_unpainted.result some
    (rw c.deref.ensures.value at c.first_unpainted.ensures)
    ∙ ap first_blank c.self.view_is
