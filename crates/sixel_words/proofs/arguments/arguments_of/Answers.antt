use Rattle.sixel_words.proofs.ArgumentLemmas.{one_more}
use Rattle.sixel_words.proofs.arguments.arguments_of.Goals as goal

pub loop-index-preserved : goal.loop-index-preserved
loop-index-preserved g c =
    one_more (g.A.Arguments.given c.args.arguments.now) c.loop-index.texts.items c.push.new.self.items c.in-Some.text
    c.in_ok-text.field-0 c.loop-index.index c.loop-index.invariant c.in_ok-text.ensures c.in-Some.is
    c.in_ok-push-in-Some.ensures.items
