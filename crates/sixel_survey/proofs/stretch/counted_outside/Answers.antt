use Rattle.std.proofs.Common.{◌<◌, ◌+◌, ◌∙◌, arith, length, subst, sym}
use Rattle.sixel_model.specs.declared.rule.Rule.TheVariants.{Outside}
use Rattle.sixel_survey.specs.Stretches.{with_sixels}
use Rattle.sixel_survey.specs.Tallies.{IsTallyOf}
use Rattle.sixel_survey.proofs.StretchLemmas.{hit_nowhere, hit_there, outside_each, over_all, tally_more, tally_start}
use Rattle.sixel_survey.proofs.stretch.counted_outside.Goals as goal
use Rattle.sixel_survey.proofs.stretch.counted_outside.Goals.{then-is_some, else-is_some}

pub loop-index-init : goal.loop-index-init
loop-index-init g c = λ registers seen h cover is.
    tally_start registers Outside seen c.args.place c.args.stretch.now c.args.tally is

pub loop-index-preserved : goal.loop-index-preserved
loop-index-preserved g c = λ registers seen h cover is.
    let stretch = c.args.stretch.now in
    let k = c.loop-index.index in
    let lt : k < length stretch = omega (arith, c.loop-index-test.true) in
    let before = c.loop-index.invariant registers seen h cover is in
    let o = c.outside_pixel-pixel.result in
    let here =
    outside_each registers seen c.args.place stretch o h cover k lt
    (λ left line column_is band_is. rw (c.width-width.ensures, c.height-height.ensures) at
    (c.outside_pixel-pixel.ensures left line (c.saturating_add-column.ensures ∙ column_is) band_is)) in
    let next = tally_more registers Outside seen c.args.place stretch k _ c.loop-index.all lt here before in
    elim c.if-is_some.branch [
      | then-is_some w ↦
          rw w.all-is
          (subst (IsTallyOf registers (with_sixels seen c.args.place stretch (k + 1)) Outside) (sym w.counted.ensures)
          (rw (hit_there o (sym c.is_some.ensures ∙ w.if-is_some.true)) at next))
      | else-is_some w ↦ rw w.all-is (rw (hit_nowhere o (sym c.is_some.ensures ∙ w.if-is_some.false)) at next)
    ]

pub returns : goal.returns
returns g c = λ registers seen h cover is.
    over_all (λ l. IsTallyOf registers l Outside c.loop-index.all) seen c.args.place c.args.stretch.now
    c.loop-index.index (omega arith) (c.loop-index.invariant registers seen h cover is)
