use Rattle.std.proofs.Common.{◌≡◌, false, subst, sym}
use Rattle.sixel_grammar.specs.Document.{events_of}
use Rattle.sixel_model.specs.declared.rule.Rule.TheVariants.{Outside}
use Rattle.sixel_judge.specs.Counting.{has_box}
use Rattle.sixel_survey.specs.Tallies.{IsTallyOf, tally_in}
use Rattle.sixel_survey.proofs.StretchLemmas.{no_box_none, tally_passed}
use Rattle.sixel_survey.proofs.TallyingLemmas.{tallied_kept, tallied_set}
use Rattle.sixel_survey.proofs.stretch.tally_outside.Goals as goal

pub returns-in-Some : goal.returns-in-Some
returns-in-Some g c = λ registers seen done n cover new t.
    let here = rw c.in-Some.is at cover in
    let old = subst (IsTallyOf registers seen Outside) (sym c.tally_of-tally.ensures) (t.before Outside new) in
    rw c.put.ensures
    (tallied_set Outside c.tally_with_box-all.result (c.tally_with_box-all.ensures registers seen n here old) t)

pub returns-in-None : goal.returns-in-None
returns-in-None g c = λ registers seen done n cover new t.
    let stretch = c.args.stretch.now in
    let none : has_box (events_of seen) ≡ false = rw c.in-None.is at cover in
    tallied_kept Outside
    (tally_passed registers Outside seen c.args.place stretch (tally_in c.args.tallies.now Outside)
    (no_box_none registers seen c.args.place stretch none) (t.before Outside new)) t
