use Rattle.std.specs.Bool.{then_some}
use Rattle.std.proofs.Common.{◌≡◌, ◌+◌, ◌*◌, ◌<◌, ℕ, Bool, true, false, cond, Some, None, length, refl, sym, ap, ap₂}
use Rattle.std.proofs.Common.{◌∙◌, arith}
use Rattle.std.proofs.lemmas.List.{get_or_read}
use Rattle.sixel_plane.specs.BytePlanes.{is_marked}
use Rattle.sixel_model.specs.Grids.{Grid, cell}
use Rattle.sixel_plane.proofs.PaintedLemmas.{cell_of_painted, place_fits}
use Rattle.sixel_plane.proofs.byte_plane.BytePlanePlane.register_at.Goals as goal

marked_then : (t : Bool) (r : ℕ) → then_some t r ≡ cond t (Some r) None
marked_then true r = refl
marked_then false r = refl

pub returns : goal.returns
returns c =
    let inside = c.self.inside in
    let wide : inside.width ≡ c.args.self.now.width = ap (λ (s : Grid). s.width) c.self.view_is in
    let high : inside.height ≡ c.args.self.now.height = ap (λ (s : Grid). s.height) c.self.view_is in
    let in_x : c.args.x < inside.width = omega (arith, c.requires.inside_x, wide) in
    let in_y : c.args.y < inside.height = omega (arith, c.requires.inside_y, high) in
    let place = place_fits inside.width inside.height c.args.x c.args.y in_x in_y in
    let marks : c.args.y * inside.width + c.args.x < length inside.marks.items = rw c.self.invariant.each_mark place in
    let registers : c.args.y * inside.width + c.args.x < length inside.registers.items =
    rw c.self.invariant.each_register place in
    c.then_some.ensures ∙ marked_then c.index.result.now c.index-2.result.now
    ∙ ap₂ (λ t n. cond t (Some n) None) (get_or_read inside.marks.items _ _ marks c.index.ensures false)
    (get_or_read inside.registers.items _ _ registers c.index-2.ensures 0)
    ∙ sym (cell_of_painted inside.width inside.height inside.registers.items
    (is_marked inside.width inside.marks.items) c.args.x c.args.y in_x in_y)
    ∙ ap (λ (s : Grid). cell s c.args.x c.args.y) c.self.view_is
