use Rattle.std.proofs.Common.{◌≡◌, ◌+◌, ◌<◌, ◌≤◌, length, inl, inr, ap, ◌∙◌, arith, rules}
use Rattle.std.proofs.lemmas.Bool.{cases_eq}
use Rattle.std.proofs.lemmas.List.{take_at}
use Rattle.sixel_plane.specs.CoverPlanes.{grid_of_cover}
use Rattle.sixel_model.specs.Grids.{Grid, painted_grid}
use Rattle.sixel_plane.proofs.BandLemmas.{run_fits}
use Rattle.sixel_plane.proofs.CoverLemmas.{painted_cover}
use Rattle.sixel_plane.proofs.cover_plane.CoverPlaneCover.paint_run.Goals as goal

pub cover_run-requires : goal.cover_run-requires
cover_run-requires c = elim (cases_eq c.args.bits 0) [
  | inl none ↦ inl none
  | inr some ↦
      let inside = c.self.inside in
      let wide : inside.width ≡ c.args.self.now.width = ap (λ (s : Grid). s.width) c.self.view_is in
      let high : inside.height ≡ c.args.self.now.height = ap (λ (s : Grid). s.height) c.self.view_is in
      let room = run_fits inside.width inside.height c.args.column c.args.count c.args.band c.args.bits c.requires.bits
      (omega (arith, c.requires.columns, wide)) (rw high c.requires.rows) some in
      let stored : length c.deref_mut.result.now ≡ length inside.coverage.items = ap length c.deref_mut.ensures.value in
      inr (omega (arith, room, stored, c.self.invariant.each_band))
]

pub returns : goal.returns
returns c =
    let inside = c.self.inside in
    let wide : inside.width ≡ c.args.self.now.width = ap (λ (s : Grid). s.width) c.self.view_is in
    let some : 0 < inside.width = search rules in
    let fits : c.args.column + c.args.count ≤ inside.width = omega (arith, c.requires.columns, wide) in
    let coverage : length c.cover_run.new.coverage ≡ inside.coverage.len = omega arith in
    ap (grid_of_cover inside.width inside.height) (take_at c.cover_run.new.coverage _ _ coverage)
    ∙ painted_cover inside.width inside.height c.args.column c.args.count c.args.band c.args.bits
    inside.coverage.items c.cover_run.new.coverage some fits c.self.invariant.each_band
    (rw c.deref_mut.ensures.value at c.cover_run.ensures)
    ∙ ap (λ (s : Grid). painted_grid s c.args.column c.args.band c.args.count c.args.bits 0) c.self.view_is
