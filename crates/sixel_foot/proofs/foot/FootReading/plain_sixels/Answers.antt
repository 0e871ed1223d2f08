use Rattle.std.proofs.Common.{arith}
use Rattle.sixel_foot.proofs.FootLemmas.{foot_plain}
use Rattle.sixel_foot.proofs.foot.FootReading.plain_sixels.Goals as goal

pub returns-else-self-lt-BAND_ROWS : goal.returns-else-self-lt-BAND_ROWS
returns-else-self-lt-BAND_ROWS c = λ before s.
    foot_plain before _ (omega (arith, s.size.rows_is, c.if-self-lt-BAND_ROWS.false))
