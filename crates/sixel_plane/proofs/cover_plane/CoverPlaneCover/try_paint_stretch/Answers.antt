use Rattle.std.proofs.Common.{◌≡◌, ◌+◌, ◌*◌, ◌<◌, ◌≤◌, ℕ, List, length, ap, ◌∙◌, arith, rules, subst}
use Rattle.std.specs.Int.Bits.{bit_or}
use Rattle.std.proofs.lemmas.List.{take_at}
use Rattle.sixel_plane.specs.CoverPlanes.{grid_of_cover}
use Rattle.sixel_model.specs.Grids.{Grid}
use Rattle.sixel_plane.specs.Stretches.{AreMapped, sixel_of, stretched_grid}
use Rattle.sixel_plane.proofs.CoverLemmas.{stretched_cover}
use Rattle.sixel_plane.proofs.PlaneStretchLemmas.{none_past}
use Rattle.sixel_plane.proofs.cover_plane.CoverPlaneCover.try_paint_stretch.Goals as goal

pub returns-clause-painted : goal.returns-clause-painted
returns-clause-painted c = λ _.
    let inside = c.self.inside in
    let wide : inside.width ≡ c.args.self.now.width = ap (λ (s : Grid). s.width) c.self.view_is in
    let some : 0 < inside.width = search rules in
    let fits : c.args.column + c.args.count ≤ inside.width = omega (arith, c.requires.columns, wide) in
    let f : ℕ → ℕ = sixel_of c.args.bytes.now c.args.count in
    let done = c.cover_groups.ensures.covered in
    let covered : ℕ = c.args.band * inside.width + c.args.column in
    let mapped : AreMapped covered done.0 (λ j b. bit_or b (f j)) inside.coverage.items c.cover_groups.new.coverage =
    subst (λ (l : List ℕ). AreMapped covered done.0 (λ j b. bit_or b (f j)) l c.cover_groups.new.coverage)
    c.deref_mut.ensures.value done.2 in
    let coverage : length c.cover_groups.new.coverage ≡ inside.coverage.len = omega (arith, mapped.long) in
    ap (grid_of_cover inside.width inside.height) (take_at c.cover_groups.new.coverage _ _ coverage)
    ∙ stretched_cover inside.width inside.height c.args.column c.args.band c.args.count done.0 f
    inside.coverage.items c.cover_groups.new.coverage some fits c.self.invariant.each_band done.1
    (none_past c.args.bytes.now c.args.count) mapped
    ∙ ap (λ (s : Grid). stretched_grid s c.args.column c.args.band c.args.count f 0) c.self.view_is
