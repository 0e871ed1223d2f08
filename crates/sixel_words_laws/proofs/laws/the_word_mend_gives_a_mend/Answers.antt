use Rattle.std.proofs.Common.{arith, codes, inl, inr, refl}
use Rattle.clap.proofs.OnLiterals.{clap_on_literals}
use Rattle.clap.specs.Takes.{walk_passes}
use Rattle.clap.specs.Walk.{walked}
use Rattle.sixel_words.specs.Words.{IsSample}
use Rattle.sixel_words.proofs.NamesLemmas.{has_nobody}
use Rattle.sixel_words_laws.proofs.LiteralLemmas.{all, half, none}
use Rattle.sixel_words_laws.proofs.laws.the_word_mend_gives_a_mend.Goals as goal

full_sample : IsSample (codes "Ff") 255
full_sample = record { numeral = (omega arith, (omega arith, (omega arith, tt))); two = refl; value = refl }

half_sample : IsSample (codes "80") 128
half_sample = record { numeral = (omega arith, (omega arith, (omega arith, tt))); two = refl; value = refl }

low_sample : IsSample (codes "02") 2
low_sample = record { numeral = (omega arith, (omega arith, (omega arith, tt))); two = refl; value = refl }

pub returns-clause-taken : goal.returns-clause-taken
unfolding walked walk_passes
returns-clause-taken c = λ program. refl

pub returns-clause-task : goal.returns-clause-task
unfolding walked
returns-clause-task c = λ program. (
  codes "mend",
  _,
  refl,
  (
    refl,
    refl,
    (codes "0,0,0", refl, inl (codes "0", codes "0", codes "0", refl, none, none, none)),
    refl,
    refl,
    (has_nobody _ refl refl, refl),
  ),
)

pub returns-clause-quiet : goal.returns-clause-quiet
unfolding clap_on_literals
returns-clause-quiet c = λ program. (
  codes "mend",
  _,
  refl,
  (
    refl,
    refl,
    (codes "0,0,0", refl, inl (codes "0", codes "0", codes "0", refl, none, none, none)),
    refl,
    refl,
    (has_nobody _ refl refl, refl),
  ),
  refl,
  refl,
  refl,
)

pub returns-clause-coloured : goal.returns-clause-coloured
unfolding walked
returns-clause-coloured c = λ program. (
  codes "mend",
  _,
  refl,
  (
    refl,
    refl,
    (codes "100,50,0", refl, inl (codes "100", codes "50", codes "0", refl, all, half, none)),
    refl,
    refl,
    (has_nobody _ refl refl, refl),
  ),
)

pub returns-clause-coloured_taken : goal.returns-clause-coloured_taken
unfolding walked walk_passes
returns-clause-coloured_taken c = λ program. refl

pub returns-clause-sampled : goal.returns-clause-sampled
unfolding walked
returns-clause-sampled c = λ program. (
  codes "mend",
  _,
  refl,
  (
    refl,
    refl,
    (
      codes "#Ff8002",
      refl,
      inr (inl (
        codes "Ff",
        codes "80",
        codes "02",
        255,
        128,
        2,
        refl,
        full_sample,
        half_sample,
        low_sample,
        refl,
      )),
    ),
    refl,
    refl,
    (has_nobody _ refl refl, refl),
  ),
)

pub returns-clause-sampled_taken : goal.returns-clause-sampled_taken
unfolding walked walk_passes
returns-clause-sampled_taken c = λ program. refl

pub returns-clause-called : goal.returns-clause-called
unfolding walked
returns-clause-called c = λ program. (
  codes "mend",
  _,
  refl,
  (refl, refl, (codes "Navy", refl, inr (inr (inr refl))), refl, refl, (has_nobody _ refl refl, refl)),
)
