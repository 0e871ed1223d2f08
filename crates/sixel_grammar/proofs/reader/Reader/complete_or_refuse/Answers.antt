use Rattle.std.proofs.Common.{◌∷◌, [], ◌++◌, ◌≡◌, refl, subst, sym}
use Rattle.std.specs.Prelude.{IfOk, IfErr}
use Rattle.sixel_grammar.specs.declared.command.Completed.{Completed}
use Rattle.sixel_grammar.specs.declared.reader.Reader.{Reader}
use Rattle.sixel_grammar.specs.Standing.{Refuses, StandsAfter, Takes, completions}
use Rattle.sixel_grammar.proofs.reader.Reader.complete_or_refuse.Goals as goal

pub returns-in-Some-clause-accepted : goal.returns-in-Some-clause-accepted
returns-in-Some-clause-accepted c = λ events bytes s.
    subst (λ (d : Completed). StandsAfter c.end_command.new.self (events ++ completions d) (bytes ++ c.args.byte ∷ []))
    (sym c.of_plain.ensures) (c.in-Some.ensures.accepted events bytes s)

pub returns-clause-accepted : goal.returns-clause-accepted
returns-clause-accepted c =
    let same : c.end_command.new.self ≡ c.args.self.now = c.in_default.ensures.kept refl in
    let from =
    λ (r : Reader).
    IfOk c.make_whole_or_refuse.result (λ (done : Completed). Takes r c.make_whole_or_refuse.new.self c.args.byte
    (completions done)) in
    subst from same c.make_whole_or_refuse.ensures.accepted

pub returns-clause-refused : goal.returns-clause-refused
returns-clause-refused c =
    let same : c.end_command.new.self ≡ c.args.self.now = c.in_default.ensures.kept refl in
    let from = λ (r : Reader). IfErr c.make_whole_or_refuse.result
    (Refuses r c.make_whole_or_refuse.new.self c.args.byte) in
    subst from same c.make_whole_or_refuse.ensures.refused
