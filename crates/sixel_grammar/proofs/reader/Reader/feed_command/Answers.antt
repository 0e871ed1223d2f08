use Rattle.std.proofs.Common.{◌≡◌, ◌∙◌, ◌<◌, None, false, refl, subst, sym}
use Rattle.std.specs.Prelude.{OnSome}
use Rattle.sixel_grammar.specs.declared.reader.Reader.{Reader}
use Rattle.sixel_grammar.specs.Next.{begin, ends_repeat, only_grown, settled, within}
use Rattle.sixel_grammar.specs.Pending.{form_of}
use Rattle.sixel_grammar.specs.Standing.{StandsAfter}
use Rattle.sixel_grammar.proofs.OneCommandLemmas.{not_one_command}
use Rattle.sixel_grammar.proofs.reader.Reader.feed_command.Goals as goal

pub returns-in-Some-feed_inside-clause-accepted : goal.returns-in-Some-feed_inside-clause-accepted
returns-in-Some-feed_inside-clause-accepted c = λ events bytes s.
    let same : c.take_whole.new.self ≡ c.args.self.now = c.in_default.ensures.kept refl in
    c.in-Some-feed_inside.ensures.accepted events bytes
    (subst (λ (r : Reader). StandsAfter r events bytes) (sym same) s)

pub returns-in-Some-end_command-clause-accepted : goal.returns-in-Some-end_command-clause-accepted
returns-in-Some-end_command-clause-accepted c = λ events bytes s.
    let same : c.feed_inside.new.self ≡ c.args.self.now = c.in_default-feed_inside.ensures.kept refl
    ∙ c.in_default.ensures.kept refl in
    c.in-Some-end_command.ensures.accepted events bytes
    (subst (λ (r : Reader). StandsAfter r events bytes) (sym same) s)

pub returns-then-try_grow-clause-accepted : goal.returns-then-try_grow-clause-accepted
returns-then-try_grow-clause-accepted c = λ events bytes s.
    let same : c.end_command.new.self ≡ c.args.self.now = c.in_default-end_command.ensures.kept refl
    ∙ c.in_default-feed_inside.ensures.kept refl ∙ c.in_default.ensures.kept refl in
    c.if-try_grow.ensures.accepted refl events bytes (subst (λ (r : Reader). StandsAfter r events bytes) (sym same) s)

pub returns-else-try_grow-clause-refused : goal.returns-else-try_grow-clause-refused
returns-else-try_grow-clause-refused c = λ none after events done bytes s few t.
    let first : c.take_whole.new.self ≡ c.args.self.now = c.in_default.ensures.kept refl in
    let second : c.feed_inside.new.self ≡ c.args.self.now = c.in_default-feed_inside.ensures.kept refl ∙ first in
    let third : c.end_command.new.self ≡ c.args.self.now = c.in_default-end_command.ensures.kept refl ∙ second in
    not_one_command c.args.self.now after events done bytes c.args.byte
    (subst (λ (r : Reader). 0 < r.left → only_grown (within (form_of r.pending) c.args.byte) ≡ None) third
    (c.if-try_grow.ensures.refused refl))
    (subst (λ (r : Reader). 0 < r.left → ends_repeat (form_of r.pending) c.args.byte ≡ false) first
    (c.in_default-feed_inside.ensures.refused refl))
    (c.in_default.ensures.refused refl)
    (subst (λ (r : Reader). 0 < r.left → OnSome (settled (form_of r.pending)) (only_grown (begin c.args.byte) ≡ None))
    second (c.in_default-end_command.ensures.refused refl))
    s few t
