use Rattle.std.proofs.Common.{◌≡◌, ◌∙◌, None, Some, codes, map, sym}
use Rattle.clap.specs.Walk.{all_of, rows_of}
use Rattle.clap.specs.Matches.{found_of}
use Rattle.clap.proofs.WalkLemmas.{raw_values-rows}
use Rattle.sixel_emulator_rules.specs.Asked.{no_rules}
use Rattle.sixel_emulator_rules.specs.declared.terminals.Terminals.{Terminals}
use Rattle.sixel_words.specs.Words.{HasTerminals, NameTerminals, no_terminals}
use Rattle.sixel_words.proofs.ColourLemmas.{some_weaker}
use Rattle.sixel_words.proofs.NamesLemmas.{has_no_terminals, has_these, ignores_alone, on_these}
use Rattle.sixel_words.proofs.check_words.terminals_of.Goals as goal
use Rattle.sixel_words.proofs.check_words.terminals_of.Goals.{In-None, In-Some}

given : (c : In-Some) → all_of (codes "on") (rows_of (found_of c.args.matches.now))
    ≡ Some (map (λ value. value.now) c.in-Some.values.now)
given c = sym (raw_values-rows (found_of c.args.matches.now) (codes "on")) ∙ sym c.in-Some.ensures

absent : (c : In-None) → all_of (codes "on") (rows_of (found_of c.args.matches.now)) ≡ None
absent c = sym (raw_values-rows (found_of c.args.matches.now) (codes "on")) ∙ sym c.in-None.ensures

pub returns-in-Some-clause-some : goal.returns-in-Some-clause-some
returns-in-Some-clause-some c =
    let rows = rows_of (found_of c.args.matches.now) in
    let ignored = c.in_ok-ignored.ignored in
    let on = given (goal.at.returns-in-Some-clause-some c).In-Some in
    some_weaker (NameTerminals (map (λ value. value.now) c.in-Some.values.now) ignored) (HasTerminals rows)
    c.terminals_named.result (λ t name. has_these rows _ ignored t on c.in_ok-ignored.ensures.some name)
    c.terminals_named.ensures.some

pub returns-in-Some-clause-none : goal.returns-in-Some-clause-none
returns-in-Some-clause-none c = λ none t has.
    let on = given (goal.at.returns-in-Some-clause-none c).In-Some in
    c.terminals_named.ensures.none none t (on_these (rows_of (found_of c.args.matches.now)) _ c.in_ok-ignored.ignored t on
    c.in_ok-ignored.ensures.some has)

pub returns-in-None-clause-some : goal.returns-in-None-clause-some
returns-in-None-clause-some c =
    let rows = rows_of (found_of c.args.matches.now) in
    let ignored = c.in_ok-ignored.ignored in
    let alone = absent (goal.at.returns-in-None-clause-some c).In-None in
    some_weaker (λ (t : Terminals). (ignored ≡ no_rules) × (t ≡ no_terminals)) (HasTerminals rows)
    c.terminals_alone.result
    (λ t is. has_no_terminals rows ignored t alone c.in_ok-ignored.ensures.some is.0 is.1)
    c.terminals_alone.ensures.some

pub returns-in-None-clause-none : goal.returns-in-None-clause-none
returns-in-None-clause-none c = λ none t has.
    let alone = absent (goal.at.returns-in-None-clause-none c).In-None in
    ignores_alone (rows_of (found_of c.args.matches.now)) c.in_ok-ignored.ignored t alone c.in_ok-ignored.ensures.some
    (c.terminals_alone.ensures.none none) has
