use Rattle.std.proofs.Common.{◌≡◌, ◌∷◌, [], ap, codes, false, refl, true}
use Rattle.clap.specs.Simple.{subcommand_of}
use Rattle.clap.specs.Takes.{walk_passes}
use Rattle.clap.specs.Walk.{walked}
use Rattle.sixel_commands.specs.Commands.{sixel_app}
use Rattle.sixel_emulator_rules.specs.declared.asked_rules.AskedRules.{AskedRules}
use Rattle.sixel_words.specs.Words.{rules_in}
use Rattle.sixel_words.proofs.MatchLemmas.{rows_in}
use Rattle.sixel_words_laws.proofs.TasklessLemmas.{none_called}
use Rattle.sixel_words.proofs.NamesLemmas.{ignores_alone, ignores_none, not_checked, not_surveyed}
use Rattle.sixel_words_laws.proofs.laws.the_option_ignore_leaves_out_rules.Goals as goal

pub returns-clause-taken : goal.returns-clause-taken
unfolding walked walk_passes
returns-clause-taken c = λ program. refl

pub returns-clause-one : goal.returns-clause-one
unfolding walked
returns-clause-one c = λ program. (
  codes "check",
  _,
  refl,
  (refl, refl, record { ignored = (refl, refl); named = (refl, refl); together = λ none. cc }),
)

pub returns-clause-several : goal.returns-clause-several
unfolding walked
returns-clause-several c = λ program. (
  codes "survey",
  _,
  refl,
  (refl, refl, record { ignored = (refl, refl); named = (refl, refl); together = λ none. cc }),
)

pub returns-clause-not_alone : goal.returns-clause-not_alone
unfolding walked
returns-clause-not_alone c = λ program task is.
    let found = subcommand_of sixel_app (program ∷ codes "check" ∷ codes "--ignore" ∷ codes "Rows" ∷ []) in
    none_called (codes "check") found is.0 is.1 task is.2 is.3 refl
    (not_checked (rows_in found) task (λ t. ignores_alone (rows_in found) (rules_in (codes "Rows" ∷ [])) t refl
    (refl, refl) (λ same. let bad : true ≡ false = ap (λ (s : AskedRules). s.rows) same in cc)))

pub returns-clause-no_portable_rule : goal.returns-clause-no_portable_rule
unfolding walked
returns-clause-no_portable_rule c = λ program task is.
    let found = subcommand_of sixel_app
    (program ∷ codes "check" ∷ codes "--on" ∷ codes "all" ∷ codes "--ignore" ∷ codes "Ratio" ∷ []) in
    none_called (codes "check") found is.0 is.1 task is.2 is.3 refl
    (not_checked (rows_in found) task (λ t. ignores_none (rows_in found) (codes "Ratio" ∷ []) t refl refl))

pub returns-clause-no_other_name : goal.returns-clause-no_other_name
unfolding walked
returns-clause-no_other_name c = λ program task is.
    let found = subcommand_of sixel_app
    (program ∷ codes "survey" ∷ codes "--on" ∷ codes "all" ∷ codes "--ignore" ∷ codes "Rows," ∷ []) in
    none_called (codes "survey") found is.0 is.1 task is.2 is.3 refl
    (not_surveyed (rows_in found) task (λ t. ignores_none (rows_in found) (codes "Rows," ∷ []) t refl refl))
