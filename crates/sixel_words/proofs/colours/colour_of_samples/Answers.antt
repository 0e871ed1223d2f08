use Rattle.std.proofs.Common.{◌∙◌, rules, subst, sym}
use Rattle.clap.specs.Walk.{Text}
use Rattle.sixel_words.specs.Words.{AreSamples}
use Rattle.sixel_words.proofs.ColourLemmas.{seven_bytes}
use Rattle.sixel_words.proofs.colours.colour_of_samples.Goals as goal

pub returns-in-35-clause-none : goal.returns-in-35-clause-none
returns-in-35-clause-none c = λ none colour is.
    let same = sym c.as_bytes.ensures.value
    ∙ seven_bytes c.as_bytes.result.now c.in-35.len_at_least c.in-35.len_below (search rules) in
    c.colour_of_digits.ensures.none none colour (subst (λ (t : Text). AreSamples t colour) same is)
