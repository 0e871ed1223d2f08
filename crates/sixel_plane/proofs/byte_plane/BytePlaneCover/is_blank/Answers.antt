use Rattle.std.proofs.Common.{◌≡◌, ◌+◌, ◌*◌, ◌<◌, false, not, length, sym, ap}
use Rattle.std.proofs.Common.{◌∙◌, arith}
use Rattle.std.specs.Prelude.{is_none}
use Rattle.std.proofs.lemmas.List.{get_or_read}
use Rattle.sixel_model.specs.Grids.{Grid, cell}
use Rattle.sixel_plane.specs.BytePlanes.{is_marked}
use Rattle.sixel_plane.proofs.CoverLemmas.{blank_if}
use Rattle.sixel_plane.proofs.PaintedLemmas.{cell_of_painted, place_fits}
use Rattle.sixel_plane.proofs.byte_plane.BytePlaneCover.is_blank.Goals as goal

pub returns : goal.returns
returns c =
    let inside = c.self.inside in
    let wide : inside.width ≡ c.args.self.now.width = ap (λ (s : Grid). s.width) c.self.view_is in
    let high : inside.height ≡ c.args.self.now.height = ap (λ (s : Grid). s.height) c.self.view_is in
    let in_x : c.args.x < inside.width = omega (arith, c.requires.inside_x, wide) in
    let in_y : c.args.y < inside.height = omega (arith, c.requires.inside_y, high) in
    let place = place_fits inside.width inside.height c.args.x c.args.y in_x in_y in
    let marks : c.args.y * inside.width + c.args.x < length inside.marks.items = rw c.self.invariant.each_mark place in
    ap not (get_or_read inside.marks.items _ _ marks c.index.ensures false)
    ∙ blank_if (is_marked inside.width inside.marks.items c.args.x c.args.y) _
    ∙ ap is_none (sym (cell_of_painted inside.width inside.height inside.registers.items
    (is_marked inside.width inside.marks.items) c.args.x c.args.y in_x in_y))
    ∙ ap (λ (s : Grid). is_none (cell s c.args.x c.args.y)) c.self.view_is
