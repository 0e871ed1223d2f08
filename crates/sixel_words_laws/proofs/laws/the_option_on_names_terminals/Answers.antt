use Rattle.std.proofs.Common.{◌∷◌, [], codes, refl}
use Rattle.clap.specs.Simple.{subcommand_of}
use Rattle.clap.specs.Takes.{walk_passes}
use Rattle.clap.specs.Walk.{walked}
use Rattle.sixel_commands.specs.Commands.{sixel_app}
use Rattle.sixel_words.proofs.MatchLemmas.{rows_in}
use Rattle.sixel_words_laws.proofs.TasklessLemmas.{none_called}
use Rattle.sixel_words.proofs.NamesLemmas.{has_none, not_checked, not_surveyed}
use Rattle.sixel_words_laws.proofs.laws.the_option_on_names_terminals.Goals as goal

pub returns-clause-taken : goal.returns-clause-taken
unfolding walked walk_passes
returns-clause-taken c = λ program. refl

pub returns-clause-several : goal.returns-clause-several
unfolding walked
returns-clause-several c = λ program. (
  codes "check",
  _,
  refl,
  (refl, refl, record { ignored = (refl, refl); named = (refl, refl); together = λ none. refl }),
)

pub returns-clause-every : goal.returns-clause-every
unfolding walked
returns-clause-every c = λ program. (
  codes "survey",
  _,
  refl,
  (refl, refl, record { ignored = (refl, refl); named = (refl, refl); together = λ none. refl }),
)

pub returns-clause-both_taken : goal.returns-clause-both_taken
unfolding walked walk_passes
returns-clause-both_taken c = λ program. refl

pub returns-clause-both : goal.returns-clause-both
unfolding walked
returns-clause-both c = λ program. (
  codes "check",
  _,
  refl,
  (refl, refl, record { ignored = (refl, refl); named = (refl, refl); together = λ none. refl }),
)

pub returns-clause-one_is_wrong : goal.returns-clause-one_is_wrong
unfolding walked
returns-clause-one_is_wrong c = λ program task is.
    let found = subcommand_of sixel_app
    (program ∷ codes "check" ∷ codes "--on" ∷ codes "kitty" ∷ codes "--on" ∷ codes "konsole" ∷ []) in
    none_called (codes "check") found is.0 is.1 task is.2 is.3 refl
    (not_checked (rows_in found) task (λ t. has_none (rows_in found) (codes "kitty" ∷ codes "konsole" ∷ []) t refl
    refl))

pub returns-clause-no_other_name : goal.returns-clause-no_other_name
unfolding walked
returns-clause-no_other_name c = λ program task is.
    let found = subcommand_of sixel_app (program ∷ codes "check" ∷ codes "--on" ∷ codes "xterm,kitty" ∷ []) in
    none_called (codes "check") found is.0 is.1 task is.2 is.3 refl
    (not_checked (rows_in found) task (λ t. has_none (rows_in found) (codes "xterm,kitty" ∷ []) t refl refl))

pub returns-clause-no_empty_name : goal.returns-clause-no_empty_name
unfolding walked
returns-clause-no_empty_name c = λ program task is.
    let found = subcommand_of sixel_app (program ∷ codes "survey" ∷ codes "--on" ∷ codes "xterm," ∷ []) in
    none_called (codes "survey") found is.0 is.1 task is.2 is.3 refl
    (not_surveyed (rows_in found) task (λ t. has_none (rows_in found) (codes "xterm," ∷ []) t refl refl))

pub returns-clause-no_value : goal.returns-clause-no_value
unfolding walked
returns-clause-no_value c = λ program task is.
    let found = subcommand_of sixel_app (program ∷ codes "check" ∷ codes "--on" ∷ [] ∷ []) in
    none_called (codes "check") found is.0 is.1 task is.2 is.3 refl
    (not_checked (rows_in found) task (λ t. has_none (rows_in found) ([] ∷ []) t refl refl))

pub returns-clause-no_more_than_all : goal.returns-clause-no_more_than_all
unfolding walked
returns-clause-no_more_than_all c = λ program task is.
    let found = subcommand_of sixel_app (program ∷ codes "check" ∷ codes "--on" ∷ codes "all,foot" ∷ []) in
    none_called (codes "check") found is.0 is.1 task is.2 is.3 refl
    (not_checked (rows_in found) task (λ t. has_none (rows_in found) (codes "all,foot" ∷ []) t refl refl))
