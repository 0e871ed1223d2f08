use Rattle.std.proofs.Common.{◌≡◌, ◌<◌, None, refl, subst, sym}
use Rattle.sixel_grammar.specs.declared.reader.Reader.{Reader}
use Rattle.sixel_grammar.specs.Next.{only_grown, within}
use Rattle.sixel_grammar.specs.Pending.{form_of}
use Rattle.sixel_grammar.specs.Standing.{StandsAfter}
use Rattle.sixel_grammar.proofs.NotPlainLemmas.{not_plain}
use Rattle.sixel_grammar.proofs.reader.Reader.feed_plain.Goals as goal

pub returns-in-Some-clause-accepted : goal.returns-in-Some-clause-accepted
returns-in-Some-clause-accepted c = c.in-Some.ensures.accepted

pub returns-clause-accepted : goal.returns-clause-accepted
returns-clause-accepted c = λ events bytes s.
    let same : c.feed_quickly.new.self ≡ c.args.self.now = c.in_default.ensures.kept refl in
    c.if-not-try_grow.ensures.accepted refl events bytes
    (subst (λ (r : Reader). StandsAfter r events bytes) (sym same) s)

pub returns-then-not-try_grow-clause-refused : goal.returns-then-not-try_grow-clause-refused
returns-then-not-try_grow-clause-refused c = λ none after events done bytes s few t.
    let same : c.feed_quickly.new.self ≡ c.args.self.now = c.in_default.ensures.kept refl in
    let grown = subst (λ (r : Reader). 0 < r.left → only_grown (within (form_of r.pending) c.args.byte) ≡ None) same
    (c.if-not-try_grow.ensures.refused refl) in
    not_plain c.args.self.now after events done bytes c.args.byte
    (λ lt. (grown lt, c.in_default.ensures.refused refl lt)) s few t
