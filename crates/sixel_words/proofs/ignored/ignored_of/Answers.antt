use Rattle.std.proofs.Common.{◌≡◌, ◌∙◌, [], List, Option, ap, codes, map, refl, sym}
use Rattle.std.specs.Prelude.{unwrap_or}
use Rattle.clap.specs.Walk.{Text, rows_of}
use Rattle.clap.specs.Matches.{found_of}
use Rattle.clap.proofs.WalkLemmas.{raw_values-rows}
use Rattle.sixel_words.specs.Words.{HasIgnored, NameRules, ignore_values}
use Rattle.sixel_words.proofs.ColourLemmas.{some_weaker}
use Rattle.sixel_words.proofs.NamesLemmas.{has_rules, of_rules}
use Rattle.sixel_words.proofs.ignored.ignored_of.Goals as goal
use Rattle.sixel_words.proofs.ignored.ignored_of.Goals.{In-None, In-Some}

abbrev listed : Option (List Text) → List Text
listed o = unwrap_or o []

given : (c : In-Some) → ignore_values (rows_of (found_of c.args.matches.now))
    ≡ map (λ value. value.now) c.in-Some.values.now
given c = ap listed (sym (raw_values-rows (found_of c.args.matches.now) (codes "ignore")) ∙ sym c.in-Some.ensures)

absent : (c : In-None) → ignore_values (rows_of (found_of c.args.matches.now)) ≡ []
absent c = ap listed (sym (raw_values-rows (found_of c.args.matches.now) (codes "ignore")) ∙ sym c.in-None.ensures)

pub returns-in-Some-clause-some : goal.returns-in-Some-clause-some
returns-in-Some-clause-some c =
    let rows = rows_of (found_of c.args.matches.now) in
    let are = given (goal.at.returns-in-Some-clause-some c).In-Some in
    some_weaker (NameRules (map (λ value. value.now) c.in-Some.values.now)) (HasIgnored rows) c.rules_named.result
    (λ s name. has_rules rows _ s are name) c.rules_named.ensures.some

pub returns-in-Some-clause-none : goal.returns-in-Some-clause-none
returns-in-Some-clause-none c = λ none s has.
    let are = given (goal.at.returns-in-Some-clause-none c).In-Some in
    c.rules_named.ensures.none none s (of_rules (rows_of (found_of c.args.matches.now)) _ s are has)

pub returns-in-None-clause-some : goal.returns-in-None-clause-some
returns-in-None-clause-some c =
    has_rules (rows_of (found_of c.args.matches.now)) [] _ (absent (goal.at.returns-in-None-clause-some c).In-None)
    (refl, c.none.ensures)
