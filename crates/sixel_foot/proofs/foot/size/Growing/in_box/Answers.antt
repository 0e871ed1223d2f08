use Rattle.std.proofs.Common.{arith, sym, ◌∙◌}
use Rattle.sixel_foot.proofs.FootLemmas.{grown_box, grown_outside}
use Rattle.sixel_foot.proofs.foot.size.Growing.in_box.Goals as goal

pub returns-then-not-counts : goal.returns-then-not-counts
returns-then-not-counts c = λ before pan pad s place.
    grown_outside c.args.place before pan pad c.args.width c.args.height s place
    (sym (c.counts.ensures before s) ∙ c.if-not-counts.true)

pub returns : goal.returns
returns c = λ before pan pad s place.
    rw (c.saturating_sub.ensures, c.saturating_mul.ensures, c.from.ensures, c.from-height.ensures)
    (grown_box c.args.place before pan pad c.args.width c.args.height (omega (arith, c.ranges.width.fits))
    (omega (arith, c.ranges.height.fits)) place (sym (c.counts.ensures before s) ∙ c.if-not-counts.false))
