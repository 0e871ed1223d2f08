use Rattle.std.proofs.Common.{◌∷◌, [], codes, refl}
use Rattle.clap.specs.Takes.{walk_passes}
use Rattle.clap.specs.Walk.{walked}
use Rattle.sixel_words_laws.proofs.WishLemmas.{asks_none}
use Rattle.sixel_words_laws.proofs.laws.the_word_explain_takes_several_names.Goals as goal

pub returns-clause-taken : goal.returns-clause-taken
unfolding walked walk_passes
returns-clause-taken c = λ program. refl

pub returns-clause-asked : goal.returns-clause-asked
unfolding walked
returns-clause-asked c = λ program. (_, refl, refl)

pub returns-clause-unknown_last : goal.returns-clause-unknown_last
unfolding walked
returns-clause-unknown_last c = λ program names asks.
    asks_none (program ∷ codes "explain" ∷ codes "Ratio" ∷ codes "plot" ∷ []) names refl refl asks

pub returns-clause-unknown_first : goal.returns-clause-unknown_first
unfolding walked
returns-clause-unknown_first c = λ program names asks.
    asks_none (program ∷ codes "explain" ∷ codes "plot" ∷ codes "Ratio" ∷ []) names refl refl asks

pub returns-clause-line : goal.returns-clause-line
unfolding walked
returns-clause-line c = λ program. (_, refl, refl)
