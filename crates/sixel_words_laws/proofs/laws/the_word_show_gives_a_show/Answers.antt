use Rattle.std.proofs.Common.{codes, refl}
use Rattle.clap.specs.Takes.{walk_passes}
use Rattle.clap.specs.Walk.{walked}
use Rattle.sixel_words_laws.proofs.LiteralLemmas.{high, wide}
use Rattle.sixel_words_laws.proofs.laws.the_word_show_gives_a_show.Goals as goal

pub returns-clause-taken : goal.returns-clause-taken
unfolding walked walk_passes
returns-clause-taken c = λ program. refl

pub returns-clause-task : goal.returns-clause-task
unfolding walked
returns-clause-task c = λ program. (
  codes "show",
  _,
  refl,
  (refl, refl, refl, refl, refl, (refl, (codes "800", refl, wide), (codes "480", refl, high)), refl, refl, refl),
)
