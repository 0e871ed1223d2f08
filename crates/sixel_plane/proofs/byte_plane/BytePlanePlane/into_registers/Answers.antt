use Rattle.std.proofs.Common.{◌∙◌, ap}
use Rattle.sixel_model.specs.Grids.{Grid, IsFull}
use Rattle.sixel_plane.specs.BytePlanes.{is_marked}
use Rattle.sixel_plane.proofs.PaintedLemmas.{full_registers}
use Rattle.sixel_plane.proofs.byte_plane.BytePlanePlane.into_registers.Goals as goal

pub returns : goal.returns
returns c =
    let inside = c.self.inside in
    let full : IsFull _ = rw (← c.self.view_is) at c.requires in
    full_registers inside.width inside.height inside.registers.items (is_marked inside.width inside.marks.items)
    c.self.invariant.each_register full
    ∙ ap (λ (s : Grid). s.cells) c.self.view_is
