use Rattle.std.proofs.Common.{◌≡◌, not, length, ap, ◌∙◌, arith}
use Rattle.std.specs.Prelude.{is_none}
use Rattle.sixel_model.specs.Grids.{Grid, cell}
use Rattle.sixel_plane.proofs.BandLemmas.{band_fits}
use Rattle.sixel_plane.proofs.CoverLemmas.{blank_bit}
use Rattle.sixel_plane.proofs.band_plane.BandPlaneCover.is_blank.Goals as goal

pub is_covered-requires : goal.is_covered-requires
is_covered-requires c =
    let inside = c.self.inside in
    let wide : inside.width ≡ c.args.self.now.width = ap (λ (s : Grid). s.width) c.self.view_is in
    let high : inside.height ≡ c.args.self.now.height = ap (λ (s : Grid). s.height) c.self.view_is in
    let stored : length c.deref.result.now ≡ length inside.coverage.items = ap length c.deref.ensures.value in
    let room = band_fits inside.width inside.height c.args.x c.args.y (omega (arith, c.requires.inside_x, wide))
    (omega (arith, c.requires.inside_y, high)) in
    omega (arith, room, stored, c.self.invariant.each_band)

pub returns : goal.returns
returns c =
    let inside = c.self.inside in
    let wide : inside.width ≡ c.args.self.now.width = ap (λ (s : Grid). s.width) c.self.view_is in
    let high : inside.height ≡ c.args.self.now.height = ap (λ (s : Grid). s.height) c.self.view_is in
    ap not (rw c.deref.ensures.value at c.is_covered.ensures)
    ∙ blank_bit inside.width inside.height c.args.x c.args.y inside.registers.items inside.coverage.items
    (omega (arith, c.requires.inside_x, wide)) (omega (arith, c.requires.inside_y, high))
    ∙ ap (λ (s : Grid). is_none (cell s c.args.x c.args.y)) c.self.view_is
