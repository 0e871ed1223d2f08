use Rattle.std.proofs.Common.{subst, sym}
use Rattle.sixel_grammar.specs.Document.{Document}
use Rattle.sixel_mend.proofs.making.extent_of.Goals as goal

pub returns-clause-measured : goal.returns-clause-measured
returns-clause-measured c =
    let f = c.in_ok-follow_document.ensures.followed c.new-extent.result c.new-extent.ensures in
    (f.events, subst (Document f.events) (sym f.known_are) f.document, f.taken)
