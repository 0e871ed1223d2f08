use Rattle.std.proofs.Common.{◌≡◌, refl, subst, sym}
use Rattle.sixel_model.specs.declared.colour.Parts.{Parts}
use Rattle.sixel_model.specs.declared.colour.Parts.TheVariants.{Rgb}
use Rattle.sixel_words.specs.Words.{ArePercentages}
use Rattle.sixel_words.proofs.ColourLemmas.{no_comma, no_parts, one_comma, parts_are_colour, some_weaker}
use Rattle.sixel_words.proofs.colours.colour_of_percentages.Goals as goal

pub returns-in_err-red-clause-none : goal.returns-in_err-red-clause-none
returns-in_err-red-clause-none c = λ none. no_comma c.args.text.now c.in_err-red.ensures.cases

pub returns-in_err-green-clause-none : goal.returns-in_err-green-clause-none
returns-in_err-green-clause-none c = λ none.
    one_comma c.args.text.now (c.in_ok-red.red, c.in_ok-red.rest) c.in_ok-red.ensures.cases
    c.in_err-green.ensures.cases

pub returns-in_err-percentage_of-clause-none : goal.returns-in_err-percentage_of-clause-none
returns-in_err-percentage_of-clause-none c = λ none.
    no_parts c.args.text.now (c.in_ok-red.red, c.in_ok-red.rest) c.in_ok-red.ensures.cases
    (c.in_ok-green.green, c.in_ok-green.blue) c.in_ok-green.ensures.cases
    (λ red green blue one two last. c.in_err-percentage_of.ensures.none refl red one)

pub returns-in_err-percentage_of-2-clause-none : goal.returns-in_err-percentage_of-2-clause-none
returns-in_err-percentage_of-2-clause-none c = λ none.
    no_parts c.args.text.now (c.in_ok-red.red, c.in_ok-red.rest) c.in_ok-red.ensures.cases
    (c.in_ok-green.green, c.in_ok-green.blue) c.in_ok-green.ensures.cases
    (λ red green blue one two last. c.in_err-percentage_of-2.ensures.none refl green two)

pub returns-in_err-percentage_of-3-clause-none : goal.returns-in_err-percentage_of-3-clause-none
returns-in_err-percentage_of-3-clause-none c = λ none.
    no_parts c.args.text.now (c.in_ok-red.red, c.in_ok-red.rest) c.in_ok-red.ensures.cases
    (c.in_ok-green.green, c.in_ok-green.blue) c.in_ok-green.ensures.cases
    (λ red green blue one two last. c.in_err-percentage_of-3.ensures.none refl blue last)

pub returns-clause-some : goal.returns-clause-some
returns-clause-some c =
    let red = c.in_ok-percentage_of.field-0 in
    let green = c.in_ok-percentage_of-2.field-0 in
    let blue = c.in_ok-percentage_of-3.field-0 in
    some_weaker (λ (k : Parts). k ≡ Rgb red green blue) (ArePercentages c.args.text.now) c.rgb.result
    (λ k is. subst (ArePercentages c.args.text.now) (sym is)
    (parts_are_colour c.args.text.now (c.in_ok-red.red, c.in_ok-red.rest) c.in_ok-red.ensures.cases
    (c.in_ok-green.green, c.in_ok-green.blue) c.in_ok-green.ensures.cases red green blue
    c.in_ok-percentage_of.ensures.some c.in_ok-percentage_of-2.ensures.some c.in_ok-percentage_of-3.ensures.some))
    c.rgb.ensures.value
