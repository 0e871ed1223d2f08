use Rattle.std.proofs.Common.{arith, codes, refl}
use Rattle.clap.specs.Takes.{walk_passes}
use Rattle.clap.specs.Walk.{walked}
use Rattle.sixel_words.specs.Words.{IsSideText}
use Rattle.sixel_words_laws.proofs.FlagLemmas.{are_flags, flags_ask, flags_taken}
use Rattle.sixel_words_laws.proofs.LiteralLemmas.{high}
use Rattle.sixel_words_laws.proofs.laws.an_option_may_come_again.Goals as goal

-- the number that is given last
two : IsSideText (codes "2") 2
two = record { numeral = (omega arith, (omega arith, tt)); value = refl; least = omega arith; most = omega arith }

pub returns-clause-taken : goal.returns-clause-taken
returns-clause-taken c = λ program flags are. flags_taken program flags (are_flags flags are)

pub returns-clause-request : goal.returns-clause-request
returns-clause-request c = λ program flags are. flags_ask program flags (are_flags flags are)

pub returns-clause-number_taken : goal.returns-clause-number_taken
unfolding walked walk_passes
returns-clause-number_taken c = λ program. refl

pub returns-clause-number : goal.returns-clause-number
unfolding walked
returns-clause-number c = λ program. (
  codes "show",
  _,
  refl,
  (refl, refl, refl, refl, refl, (refl, (codes "2", refl, two), (codes "480", refl, high)), refl, refl, refl),
)
