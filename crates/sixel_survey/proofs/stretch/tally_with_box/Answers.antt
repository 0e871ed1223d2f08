use Rattle.sixel_model.specs.declared.rule.Rule.TheVariants.{Outside}
use Rattle.sixel_survey.proofs.StretchLemmas.{inside_none, tally_passed}
use Rattle.sixel_survey.proofs.stretch.tally_with_box.Goals as goal

pub returns-then-fits : goal.returns-then-fits
returns-then-fits g c = λ registers seen h cover is.
    tally_passed registers Outside seen c.args.place c.args.stretch.now c.args.tally
    (inside_none registers seen c.args.place c.args.stretch.now h cover (c.fits.ensures.within c.if-fits.true)) is
