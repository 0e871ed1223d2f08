use Rattle.std.proofs.Common.{arith}
use Rattle.sixel_survey.proofs.stretch.try_cover.Goals as goal

pub overflow_cast-notes : goal.overflow_cast-notes
overflow_cast-notes g c = omega (arith, c.fits.ensures.column c.if-fits.true)

pub overflow_cast-notes-then-fits : goal.overflow_cast-notes-then-fits
overflow_cast-notes-then-fits g c = omega (arith, c.fits.ensures.band c.if-fits.true)
