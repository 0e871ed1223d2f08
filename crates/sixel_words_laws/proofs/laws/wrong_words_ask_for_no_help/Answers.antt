use Rattle.std.proofs.Common.{◌∷◌, [], codes, refl}
use Rattle.clap.proofs.OnLiterals.{clap_on_literals}
use Rattle.clap.specs.Walk.{walked}
use Rattle.sixel_report.specs.Texts.{Text}
use Rattle.sixel_report.specs.declared.task.Task.TheVariants.{List as Listing}
use Rattle.sixel_words.specs.Words.{IsTaskOf}
use Rattle.sixel_words_laws.proofs.laws.wrong_words_ask_for_no_help.Goals as goal

-- the subcommand is `list`, whatever follows it
named : (program : Text) → IsTaskOf (program ∷ codes "list" ∷ codes "--wide" ∷ []) Listing
unfolding walked
named program = (codes "list", _, refl, refl)

pub returns : goal.returns
unfolding clap_on_literals
returns c = record {
  none = λ program. refl;
  unknown = λ program. refl;
  named = named;
  side = λ program. refl;
  second_file = λ program. refl;
}
