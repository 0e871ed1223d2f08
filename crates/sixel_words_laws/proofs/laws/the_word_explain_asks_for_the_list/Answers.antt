use Rattle.std.proofs.Common.{refl}
use Rattle.clap.specs.Takes.{walk_passes}
use Rattle.clap.specs.Walk.{walked}
use Rattle.sixel_words_laws.proofs.laws.the_word_explain_asks_for_the_list.Goals as goal

pub returns-clause-taken : goal.returns-clause-taken
unfolding walked walk_passes
returns-clause-taken c = λ program. refl

pub returns-clause-asked : goal.returns-clause-asked
unfolding walked
returns-clause-asked c = λ program. (_, refl, refl)
