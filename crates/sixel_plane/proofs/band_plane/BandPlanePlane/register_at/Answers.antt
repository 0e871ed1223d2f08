use Rattle.std.proofs.Common.{◌≡◌, ◌==◌, ◌+◌, ◌*◌, ◌/◌, ◌%◌, ◌<◌, ℕ, Bool, true, false, cond, Some, None, length, refl}
use Rattle.std.proofs.Common.{sym, ap, ◌∙◌, arith}
use Rattle.std.specs.Int.{bit_at}
use Rattle.std.proofs.lemmas.List.{get_or_read}
use Rattle.sixel_model.specs.Grids.{Grid, cell}
use Rattle.sixel_plane.specs.BandPlanes.{has_coverage_bit}
use Rattle.sixel_plane.proofs.BandLemmas.{band_fits}
use Rattle.sixel_plane.proofs.PaintedLemmas.{place_fits, cell_of_painted}
use Rattle.sixel_plane.proofs.band_plane.BandPlanePlane.register_at.Goals as goal

painted : (t : Bool) (r n : ℕ) → t ≡ true → r ≡ n → Some r ≡ cond t (Some n) None
painted true r n e same = ap (λ m. Some m) same
painted false r n e same = cc

blank : (t : Bool) (n : ℕ) → t ≡ false → None ≡ cond t (Some n) None
blank true n e = cc
blank false n e = refl

pub index-requires : goal.index-requires
index-requires c =
    let inside = c.self.inside in
    let wide : inside.width ≡ c.args.self.now.width = ap (λ (s : Grid). s.width) c.self.view_is in
    let high : inside.height ≡ c.args.self.now.height = ap (λ (s : Grid). s.height) c.self.view_is in
    let room = band_fits inside.width inside.height c.args.x c.args.y (omega (arith, c.requires.inside_x, wide))
    (omega (arith, c.requires.inside_y, high)) in
    omega (arith, room, c.self.invariant.each_band)

pub returns-then-is_set : goal.returns-then-is_set
returns-then-is_set c =
    let inside = c.self.inside in
    let wide : inside.width ≡ c.args.self.now.width = ap (λ (s : Grid). s.width) c.self.view_is in
    let high : inside.height ≡ c.args.self.now.height = ap (λ (s : Grid). s.height) c.self.view_is in
    let in_x : c.args.x < inside.width = omega (arith, c.requires.inside_x, wide) in
    let in_y : c.args.y < inside.height = omega (arith, c.requires.inside_y, high) in
    let byte : c.args.y / 6 * inside.width + c.args.x < length inside.coverage.items =
    rw c.self.invariant.each_band (band_fits inside.width inside.height c.args.x c.args.y in_x in_y) in
    let pixel : c.args.y * inside.width + c.args.x < length inside.registers.items =
    rw c.self.invariant.each_pixel (place_fits inside.width inside.height c.args.x c.args.y in_x in_y) in
    let set : has_coverage_bit inside.width inside.coverage.items c.args.x c.args.y ≡ true =
    ap (λ b. bit_at b (c.args.y % 6) == 1) (sym (get_or_read inside.coverage.items _ _ byte c.index.ensures 0))
    ∙ sym c.if-is_set.ensures in
    painted _ _ _ set (get_or_read inside.registers.items _ _ pixel c.index-then-is_set.ensures 0)
    ∙ sym (cell_of_painted inside.width inside.height inside.registers.items
    (has_coverage_bit inside.width inside.coverage.items) c.args.x c.args.y in_x in_y)
    ∙ ap (λ (s : Grid). cell s c.args.x c.args.y) c.self.view_is

pub returns-else-is_set : goal.returns-else-is_set
returns-else-is_set c =
    let inside = c.self.inside in
    let wide : inside.width ≡ c.args.self.now.width = ap (λ (s : Grid). s.width) c.self.view_is in
    let high : inside.height ≡ c.args.self.now.height = ap (λ (s : Grid). s.height) c.self.view_is in
    let in_x : c.args.x < inside.width = omega (arith, c.requires.inside_x, wide) in
    let in_y : c.args.y < inside.height = omega (arith, c.requires.inside_y, high) in
    let byte : c.args.y / 6 * inside.width + c.args.x < length inside.coverage.items =
    rw c.self.invariant.each_band (band_fits inside.width inside.height c.args.x c.args.y in_x in_y) in
    let clear : has_coverage_bit inside.width inside.coverage.items c.args.x c.args.y ≡ false =
    ap (λ b. bit_at b (c.args.y % 6) == 1) (sym (get_or_read inside.coverage.items _ _ byte c.index.ensures 0))
    ∙ sym c.if-is_set.ensures in
    blank _ _ clear
    ∙ sym (cell_of_painted inside.width inside.height inside.registers.items
    (has_coverage_bit inside.width inside.coverage.items) c.args.x c.args.y in_x in_y)
    ∙ ap (λ (s : Grid). cell s c.args.x c.args.y) c.self.view_is
