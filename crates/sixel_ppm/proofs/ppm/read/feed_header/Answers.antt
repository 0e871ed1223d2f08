use Rattle.std.proofs.Common.{sym, ◌∙◌}
use Rattle.sixel_ppm.proofs.PpmReadLemmas.{fed_more, fed_refused, fed_whole}
use Rattle.sixel_ppm.proofs.ppm.read.feed_header.Goals as goal

pub returns-in-Whole : goal.returns-in-Whole
returns-in-Whole c =
    fed_whole c.args.begun c.loop-index.progress c.in-Whole.header c.args.piece.now c.loop-index.index
    (sym c.step.ensures ∙ c.in-Whole.is)
    c.loop-index.invariant c.loop-index-test.true

pub returns-in-Refused : goal.returns-in-Refused
returns-in-Refused c =
    fed_refused c.args.begun c.loop-index.progress c.in-Refused.reason c.in-Refused.place c.args.piece.now
    c.loop-index.index
    (sym c.step.ensures ∙ c.in-Refused.is) c.loop-index.invariant c.loop-index-test.true

pub loop-index-preserved : goal.loop-index-preserved
loop-index-preserved c =
    fed_more c.args.begun c.loop-index.progress c.in-More.next c.args.piece.now c.loop-index.index
    (sym c.step.ensures ∙ c.in-More.is)
    c.loop-index.invariant c.loop-index-test.true
