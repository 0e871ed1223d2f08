use Rattle.std.proofs.Common.{[], ◌∷◌, ◌++◌, ◌≡◌, ◌∙◌, refl, sym, subst}
use Rattle.std.specs.Prelude.{IfOk, IfErr}
use Rattle.sixel_grammar.specs.declared.command.Completed.{Completed}
use Rattle.sixel_grammar.specs.declared.reader.Reader.{Reader}
use Rattle.sixel_grammar.specs.Standing.{Refuses, StandsAfter, Takes, completions}
use Rattle.sixel_grammar.proofs.reader.Reader.feed.Goals as goal

pub returns-in-Some-clause-accepted : goal.returns-in-Some-clause-accepted
returns-in-Some-clause-accepted c = λ events bytes s.
    subst (λ (d : Completed). StandsAfter c.feed_quickly.new.self (events ++ completions d) (bytes ++ c.args.byte ∷ []))
    (sym c.of_plain.ensures) (c.in-Some.ensures.accepted events bytes s)

pub returns-then-try_grow-clause-accepted : goal.returns-then-try_grow-clause-accepted
returns-then-try_grow-clause-accepted c = λ events bytes s.
    let same : c.feed_quickly.new.self ≡ c.args.self.now = c.in_default.ensures.kept refl in
    let stands =
    c.if-try_grow.ensures.accepted refl events bytes
    (subst (λ (r : Reader). StandsAfter r events bytes) (sym same) s) in
    subst (λ (d : Completed). StandsAfter c.try_grow.new.self (events ++ completions d) (bytes ++ c.args.byte ∷ []))
    (sym c.of_none.ensures) stands

pub returns-clause-accepted : goal.returns-clause-accepted
returns-clause-accepted c =
    let same : c.try_grow.new.self ≡ c.args.self.now = c.if-try_grow.ensures.kept refl
    ∙ c.in_default.ensures.kept refl in
    let from =
    λ (r : Reader).
    IfOk c.complete_or_refuse.result (λ (done : Completed). Takes r c.complete_or_refuse.new.self c.args.byte
    (completions done)) in
    subst from same c.complete_or_refuse.ensures.accepted

pub returns-clause-refused : goal.returns-clause-refused
returns-clause-refused c =
    let same : c.try_grow.new.self ≡ c.args.self.now = c.if-try_grow.ensures.kept refl
    ∙ c.in_default.ensures.kept refl in
    let from = λ (r : Reader). IfErr c.complete_or_refuse.result (Refuses r c.complete_or_refuse.new.self c.args.byte)
    in
    subst from same c.complete_or_refuse.ensures.refused
