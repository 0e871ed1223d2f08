use Rattle.sixel_messages.specs.Hints.{hint_line}
use Rattle.sixel_messages.proofs.PutsLemmas.{none_put}
use Rattle.sixel_messages.proofs.CauseLemmas.{puts_more}
use Rattle.sixel_report.proofs.PutLemmas.{is_put}
use Rattle.sixel_messages.proofs.hints.put_each.Goals as goal

pub loop-cause-init : goal.loop-cause-init
loop-cause-init g c = none_put _

pub loop-cause-preserved : goal.loop-cause-preserved
loop-cause-preserved g c =
    puts_more (hint_line c.args.profile) c.args.causes.now c.loop-cause.cause-index _ _ _ _ c.loop-cause-test.true
    c.loop-cause.invariant
    (is_put c.put_all.result _ _ _ (rw (c.as_slice.ensures.value, c.hint_line.ensures) at c.put_all.ensures))
