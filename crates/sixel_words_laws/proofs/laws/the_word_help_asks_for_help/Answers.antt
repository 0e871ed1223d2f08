use Rattle.std.proofs.Common.{refl}
use Rattle.clap.proofs.OnLiterals.{clap_on_literals}
use Rattle.sixel_words_laws.proofs.laws.the_word_help_asks_for_help.Goals as goal

pub returns : goal.returns
unfolding clap_on_literals
returns c = record {
  long = λ program. refl;
  short = λ program. refl;
  below = λ program. refl;
  version = λ program. refl;
  short_version = λ program. refl;
  version_below = λ program. refl;
}
