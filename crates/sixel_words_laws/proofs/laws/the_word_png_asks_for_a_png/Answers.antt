use Rattle.std.proofs.Common.{codes, inl, refl}
use Rattle.clap.proofs.OnLiterals.{clap_on_literals}
use Rattle.clap.specs.Takes.{walk_passes}
use Rattle.clap.specs.Walk.{walked}
use Rattle.sixel_words_laws.proofs.LiteralLemmas.{all, high, wide}
use Rattle.sixel_words_laws.proofs.laws.the_word_png_asks_for_a_png.Goals as goal

pub returns-clause-taken : goal.returns-clause-taken
unfolding walked walk_passes
returns-clause-taken c = λ program. refl

pub returns-clause-plain : goal.returns-clause-plain
unfolding walked
returns-clause-plain c = λ program. (codes "render", _, refl, (refl, refl, refl))

pub returns-clause-render : goal.returns-clause-render
unfolding walked
returns-clause-render c = λ program. (codes "render", _, refl, (refl, refl, refl))

pub returns-clause-boxed : goal.returns-clause-boxed
unfolding walked
returns-clause-boxed c = λ program. (
  codes "show",
  _,
  refl,
  (refl, refl, refl, refl, refl, (refl, refl, refl), refl, refl, refl),
)

pub returns-clause-named : goal.returns-clause-named
unfolding walked
returns-clause-named c = λ program. (
  codes "show",
  _,
  refl,
  (
    refl,
    (codes "konsole", refl, refl),
    (codes "100,100,100", refl, inl (codes "100", codes "100", codes "100", refl, all, all, all)),
    (refl, (codes "800", refl, wide), (codes "480", refl, high)),
    refl,
    refl,
  ),
)

pub returns-clause-no_encode : goal.returns-clause-no_encode
unfolding clap_on_literals
returns-clause-no_encode c = λ program. refl
