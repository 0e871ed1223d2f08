use Rattle.sixel_foot.proofs.FootLemmas.{grown_below, grown_inside}
use Rattle.sixel_foot.proofs.foot.size.Growing.lowered.Goals as goal

pub returns-then-self-gt-BAND_ROWS : goal.returns-then-self-gt-BAND_ROWS
returns-then-self-gt-BAND_ROWS c = λ before s place.
    grown_inside c.args.place before c.if-self-gt-BAND_ROWS.true s place

pub returns : goal.returns
returns c = λ before s place.
    rw (c.saturating_add.ensures, c.saturating_mul.ensures)
    (grown_below c.args.place before c.if-self-gt-BAND_ROWS.false s place)
