use Rattle.std.proofs.Common.{◌≡◌, ◌+◌, ◌*◌, ◌<◌, ◌≤◌, ℕ, length, refl, ap, ap₂, ◌∙◌, arith, rules, subst, List}
use Rattle.std.specs.Int.Bits.{bit_or}
use Rattle.std.proofs.lemmas.List.{take_at}
use Rattle.sixel_plane.specs.BandPlanes.{grid_of_bands}
use Rattle.sixel_model.specs.Grids.{Grid}
use Rattle.sixel_plane.specs.Stretches.{AreMapped, ArePainted, sixel_of, stretched_grid}
use Rattle.sixel_plane.proofs.PlaneStretchLemmas.{none_past, stretched_bands}
use Rattle.sixel_plane.proofs.band_plane.BandPlaneCover.try_paint_stretch.Goals as goal

pub returns-clause-painted : goal.returns-clause-painted
returns-clause-painted c = λ _.
    let inside = c.self.inside in
    let wide : inside.width ≡ c.args.self.now.width = ap (λ (s : Grid). s.width) c.self.view_is in
    let some : 0 < inside.width = search rules in
    let fits : c.args.column + c.args.count ≤ inside.width = omega (arith, c.requires.columns, wide) in
    let f : ℕ → ℕ = sixel_of c.args.bytes.now c.args.count in
    let done = c.paint_groups.ensures.painted in
    let n : ℕ = done.0 in
    let start : ℕ = 6 * c.args.band * inside.width + c.args.column in
    let covered : ℕ = c.args.band * inside.width + c.args.column in
    let painted : ArePainted 6 inside.width start n f c.args.register inside.registers.items
    c.paint_groups.new.registers =
    subst (λ (l : List ℕ). ArePainted 6 inside.width start n f c.args.register l c.paint_groups.new.registers)
    c.deref_mut.ensures.value done.2 in
    let mapped : AreMapped covered n (λ j b. bit_or b (f j)) inside.coverage.items c.paint_groups.new.coverage =
    subst (λ (l : List ℕ). AreMapped covered n (λ j b. bit_or b (f j)) l c.paint_groups.new.coverage)
    c.deref_mut-2.ensures.value done.3 in
    let registers : length c.paint_groups.new.registers ≡ inside.registers.len = omega (arith, painted.long) in
    let coverage : length c.paint_groups.new.coverage ≡ inside.coverage.len = omega (arith, mapped.long) in
    ap₂ (grid_of_bands inside.width inside.height) (take_at c.paint_groups.new.registers _ _ registers)
    (take_at c.paint_groups.new.coverage _ _ coverage)
    ∙ stretched_bands inside.width inside.height c.args.column c.args.band c.args.count n start covered f
    c.args.register
    inside.registers.items inside.coverage.items c.paint_groups.new.registers c.paint_groups.new.coverage some fits
    c.self.invariant.each_pixel c.self.invariant.each_band done.1
    (none_past c.args.bytes.now c.args.count) refl refl painted mapped
    ∙ ap (λ (s : Grid). stretched_grid s c.args.column c.args.band c.args.count f c.args.register) c.self.view_is
