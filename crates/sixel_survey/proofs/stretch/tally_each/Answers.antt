use Rattle.std.proofs.Common.{subst, sym}
use Rattle.sixel_survey.specs.Tallies.{IsTallyOf, tally_in}
use Rattle.sixel_survey.proofs.StretchLemmas.{tally_passed}
use Rattle.sixel_survey.proofs.TallyingLemmas.{tallied_kept, tallied_set}
use Rattle.sixel_survey.proofs.stretch.tally_each.Goals as goal

pub returns-then-counts : goal.returns-then-counts
returns-then-counts c = λ registers seen done each new t.
    let rule = c.args.rule in
    let old = subst (IsTallyOf registers seen rule) (sym c.tally_of-tally.ensures) (t.before rule new) in
    rw c.put.ensures
    (tallied_set rule
    c.counted_stretch-all.result (c.counted_stretch-all.ensures registers seen (rw c.if-counts.true at each) old) t)

pub returns-else-counts : goal.returns-else-counts
returns-else-counts c = λ registers seen done each new t.
    let rule = c.args.rule in
    tallied_kept rule
    (tally_passed registers rule seen c.args.place c.args.stretch.now (tally_in c.args.tallies.now rule)
    (rw c.if-counts.false at each) (t.before rule new)) t
