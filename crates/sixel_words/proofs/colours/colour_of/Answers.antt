use Rattle.std.proofs.Common.{◌∙◌, refl, subst, sym}
use Rattle.std.specs.Prelude.{IsNone}
use Rattle.sixel_words.proofs.ColourLemmas.{neither, no_some}
use Rattle.sixel_words.proofs.colours.colour_of.Goals as goal

pub returns-in-None-clause-none : goal.returns-in-None-clause-none
returns-in-None-clause-none c = λ none colour is.
    let unnamed = no_some c.colour_named.result c.in_default.not-Some in
    let unsampled = no_some c.colour_of_samples.result c.in_default-colour_of_samples.not-Some in
    neither c.args.text.now colour (sym c.colour_named.ensures ∙ unnamed)
    (c.colour_of_samples.ensures.none (subst (λ o. IsNone o) (sym unsampled) refl) colour)
    (c.in-None.ensures.none refl colour) (c.colour_of_percentages.ensures.none none colour) is
