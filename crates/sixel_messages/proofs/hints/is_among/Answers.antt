use Rattle.std.proofs.Common.{◌∙◌, sym}
use Rattle.sixel_messages.proofs.CauseLemmas.{found_at, none_more}
use Rattle.sixel_messages.proofs.hints.is_among.Goals as goal

pub loop-other-preserved : goal.loop-other-preserved
loop-other-preserved c =
    none_more c.args.cause c.args.causes.now c.loop-other.other-index _ c.loop-other-test.true c.loop-other.invariant
    (rw (c.cause_name.ensures.text, c.cause_name-in-loop-other.ensures.text) at (sym c.eq.ensures ∙ c.if-eq.false))

pub returns-then-eq : goal.returns-then-eq
returns-then-eq c =
    found_at c.args.cause c.args.causes.now c.loop-other.other-index _ c.loop-other-test.true
    (rw (c.cause_name.ensures.text, c.cause_name-in-loop-other.ensures.text) at (sym c.eq.ensures ∙ c.if-eq.true))
