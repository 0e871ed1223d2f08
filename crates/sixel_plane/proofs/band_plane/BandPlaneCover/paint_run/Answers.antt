use Rattle.std.proofs.Common.{◌≡◌, ◌+◌, ◌*◌, ◌<◌, ◌≤◌, length, inl, inr, refl, ap, ap₂, ◌∙◌, arith, rules}
use Rattle.std.proofs.lemmas.Bool.{cases_eq}
use Rattle.std.proofs.lemmas.Nat.{row_fits_turned}
use Rattle.std.proofs.lemmas.List.{take_at}
use Rattle.sixel_plane.specs.BandPlanes.{grid_of_bands}
use Rattle.sixel_model.specs.Grids.{Grid, painted_grid}
use Rattle.sixel_plane.proofs.BandLemmas.{run_fits, painted_bands}
use Rattle.sixel_plane.proofs.band_plane.BandPlaneCover.paint_run.Goals as goal

pub cover-requires : goal.cover-requires
cover-requires c = elim (cases_eq c.args.bits 0) [
  | inl none ↦ inl none
  | inr some ↦
      let inside = c.self.inside in
      let wide : inside.width ≡ c.args.self.now.width = ap (λ (s : Grid). s.width)
      (c.self.view_is ∙ c.if-try_paint_short_run.ensures.kept refl) in
      let high : inside.height ≡ c.args.self.now.height = ap (λ (s : Grid). s.height)
      (c.self.view_is ∙ c.if-try_paint_short_run.ensures.kept refl) in
      let room = run_fits inside.width inside.height c.args.column c.args.count c.args.band c.args.bits c.requires.bits
      (omega (arith, c.requires.columns, wide)) (rw high c.requires.rows) some in
      let stored : length c.deref_mut.result.now ≡ length inside.coverage.items = ap length c.deref_mut.ensures.value in
      inr (omega (arith, room, stored, c.self.invariant.each_band))
]

pub fill_run-requires-clause-rows : goal.fill_run-requires-clause-rows
fill_run-requires-clause-rows c = λ k small set.
    let inside = c.self.inside in
    let high : inside.height ≡ c.args.self.now.height = ap (λ (s : Grid). s.height)
    (c.self.view_is ∙ c.if-try_paint_short_run.ensures.kept refl) in
    let row = c.requires.rows k small set in
    let here : 6 * c.args.band + k < inside.height = omega (arith, high, row) in
    let room = row_fits_turned (6 * c.args.band + k) inside.width inside.width inside.height here (omega arith) in
    let stored : length c.deref_mut-2.result.now ≡ length inside.registers.items =
    ap length c.deref_mut-2.ensures.value in
    omega (arith, room, stored, c.self.invariant.each_pixel)

pub returns : goal.returns
returns c =
    let inside = c.self.inside in
    let wide : inside.width ≡ c.args.self.now.width = ap (λ (s : Grid). s.width)
    (c.self.view_is ∙ c.if-try_paint_short_run.ensures.kept refl) in
    let some : 0 < inside.width = search rules in
    let fits : c.args.column + c.args.count ≤ inside.width = omega (arith, c.requires.columns, wide) in
    let registers : length c.fill_run.new.registers ≡ inside.registers.len = omega arith in
    let coverage : length c.cover.new.coverage ≡ inside.coverage.len = omega arith in
    ap₂ (grid_of_bands inside.width inside.height) (take_at c.fill_run.new.registers _ _ registers)
    (take_at c.cover.new.coverage _ _ coverage)
    ∙ painted_bands inside.width inside.height c.args.column c.args.count c.args.band c.args.bits c.args.register
    inside.registers.items inside.coverage.items c.fill_run.new.registers c.cover.new.coverage some fits
    c.self.invariant.each_pixel c.self.invariant.each_band (rw c.deref_mut.ensures.value at c.cover.ensures)
    (rw c.deref_mut-2.ensures.value at c.fill_run.ensures)
    ∙ ap (λ (s : Grid). painted_grid s c.args.column c.args.band c.args.count c.args.bits c.args.register)
    (c.self.view_is ∙ c.if-try_paint_short_run.ensures.kept refl)
