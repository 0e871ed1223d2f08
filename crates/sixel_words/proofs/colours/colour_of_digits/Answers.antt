use Rattle.std.proofs.Common.{refl}
use Rattle.sixel_words.proofs.ColourLemmas.{digits_in}
use Rattle.sixel_words.proofs.colours.colour_of_digits.Goals as goal

pub returns-clause-some : goal.returns-clause-some
returns-clause-some c =
    let red = c.in_ok-red.ensures.some in
    let green = c.in_ok-green.ensures.some in
    let blue = c.in_ok-blue.ensures.some in (
      _,
      _,
      _,
      red.0,
      green.0,
      blue.0,
      refl,
      red.1,
      green.1,
      blue.1,
      rw (red.2, green.2, blue.2) c.of_percentages.ensures,
    )

pub returns-in_err-red-clause-none : goal.returns-in_err-red-clause-none
returns-in_err-red-clause-none c = λ none colour is.
    let digits = digits_in _ _ colour refl is in c.in_err-red.ensures.none refl digits.0 digits.5

pub returns-in_err-green-clause-none : goal.returns-in_err-green-clause-none
returns-in_err-green-clause-none c = λ none colour is.
    let digits = digits_in _ _ colour refl is in c.in_err-green.ensures.none refl digits.1 digits.6

pub returns-in_err-blue-clause-none : goal.returns-in_err-blue-clause-none
returns-in_err-blue-clause-none c = λ none colour is.
    let digits = digits_in _ _ colour refl is in c.in_err-blue.ensures.none refl digits.2 digits.7
