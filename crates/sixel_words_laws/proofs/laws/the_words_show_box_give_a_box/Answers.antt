use Rattle.std.proofs.Common.{◌∷◌, [], codes, inl, inr, refl}
use Rattle.clap.specs.Simple.{subcommand_of}
use Rattle.clap.specs.Takes.{walk_passes}
use Rattle.clap.specs.Walk.{walked}
use Rattle.sixel_commands.specs.Commands.{sixel_app}
use Rattle.sixel_words.proofs.MatchLemmas.{rows_in, without_area}
use Rattle.sixel_words_laws.proofs.TasklessLemmas.{box_beside, none_called}
use Rattle.sixel_words_laws.proofs.laws.the_words_show_box_give_a_box.Goals as goal

pub returns-clause-taken : goal.returns-clause-taken
unfolding walked walk_passes
returns-clause-taken c = λ program. refl

pub returns-clause-task : goal.returns-clause-task
unfolding walked
returns-clause-task c = λ program. (
  codes "show",
  _,
  refl,
  (refl, refl, refl, refl, refl, (refl, refl, refl), refl, refl, refl),
)

pub returns-clause-no_width : goal.returns-clause-no_width
unfolding walked
returns-clause-no_width c = λ program task is.
    let found = subcommand_of sixel_app (program ∷ codes "show" ∷ codes "--box" ∷ codes "--width" ∷ codes "800" ∷ []) in
    none_called (codes "show") found is.0 is.1 task is.2 is.3 refl
    (without_area (rows_in found) task (λ area has. box_beside (rows_in found) area refl (inl refl) has))

pub returns-clause-no_height : goal.returns-clause-no_height
unfolding walked
returns-clause-no_height c = λ program task is.
    let found = subcommand_of sixel_app (program ∷ codes "show" ∷ codes "--height" ∷ codes "480" ∷ codes "--box" ∷ []) in
    none_called (codes "show") found is.0 is.1 task is.2 is.3 refl
    (without_area (rows_in found) task (λ area has. box_beside (rows_in found) area refl (inr refl) has))
