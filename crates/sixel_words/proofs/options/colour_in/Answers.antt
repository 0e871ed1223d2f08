use Rattle.std.proofs.Common.{◌≡◌, ◌∙◌, None, Some, subst, sym}
use Rattle.clap.specs.Walk.{Text, first_of, rows_of}
use Rattle.clap.specs.Matches.{found_of}
use Rattle.clap.proofs.WalkLemmas.{first_value-rows}
use Rattle.sixel_words.specs.Words.{HasColour, IsColourText}
use Rattle.sixel_words.proofs.ColourLemmas.{same_text, some_weaker}
use Rattle.sixel_words.proofs.MatchLemmas.{not_some}
use Rattle.sixel_words.proofs.options.colour_in.Goals as goal
use Rattle.sixel_words.proofs.options.colour_in.Goals.{In-Some}

-- the text of the option
given : (c : In-Some) → first_of c.args.name.now (rows_of (found_of c.args.matches.now)) ≡ Some c.in-Some.text.now
given c = sym (first_value-rows (found_of c.args.matches.now) c.args.name.now) ∙ sym c.in-Some.ensures

pub returns-in-Some-clause-some : goal.returns-in-Some-clause-some
returns-in-Some-clause-some c =
    let is = given (goal.at.returns-in-Some-clause-some c).In-Some in
    some_weaker (IsColourText c.in-Some.text.now)
    (HasColour c.args.name.now (rows_of (found_of c.args.matches.now))) c.colour_of.result
    (λ colour has. (c.in-Some.text.now, is, has)) c.colour_of.ensures.some

pub returns-in-Some-clause-none : goal.returns-in-Some-clause-none
returns-in-Some-clause-none c = λ none colour has.
    let is = given (goal.at.returns-in-Some-clause-none c).In-Some in
    c.colour_of.ensures.none none colour
    (subst (λ (t : Text). IsColourText t colour) (same_text _ has.0 c.in-Some.text.now has.1 is) has.2)

pub returns-in-None-clause-none : goal.returns-in-None-clause-none
returns-in-None-clause-none c = λ none colour has.
    let f = found_of c.args.matches.now in
    let e : first_of c.args.name.now (rows_of f) ≡ None = sym (first_value-rows f c.args.name.now)
    ∙ sym c.in-None.ensures in
    not_some _ has.0 e has.1
