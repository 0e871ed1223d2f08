use Rattle.std.proofs.Common.{◌∙◌, rules, sym}
use Rattle.sixel_words.proofs.ColourLemmas.{four_bytes, short_digits}
use Rattle.sixel_words.proofs.colours.colour_of_short_samples.Goals as goal

pub returns-in-35-clause-none : goal.returns-in-35-clause-none
returns-in-35-clause-none c = λ none colour is.
    let same = sym c.as_bytes.ensures.value
    ∙ four_bytes c.as_bytes.result.now c.in-35.len_at_least c.in-35.len_below (search rules) in
    c.colour_of_digits.ensures.none none colour (short_digits c.args.text.now _ _ _ colour same is)
