use Rattle.std.proofs.Common.{◌≡◌, ◌∷◌, [], codes, false, inl, refl}
use Rattle.clap.specs.Simple.{subcommand_of}
use Rattle.clap.specs.Takes.{walk_passes}
use Rattle.clap.specs.Walk.{walked}
use Rattle.sixel_named_terminals.specs.declared.named.Named.{Named}
use Rattle.sixel_named_terminals.specs.declared.named.Named.TheVariants.{XTerm, MlTerm, Foot, Konsole}
use Rattle.sixel_words.specs.Words.{is_called, terminal_name}
use Rattle.sixel_commands.specs.Commands.{sixel_app}
use Rattle.sixel_words_laws.proofs.LiteralLemmas.{all, half, high, none, wide}
use Rattle.sixel_words.proofs.MatchLemmas.{rows_in, without_name}
use Rattle.sixel_words_laws.proofs.TasklessLemmas.{coloured_beside, described_beside, none_called}
use Rattle.sixel_words_laws.proofs.laws.the_words_show_on_name_a_terminal.Goals as goal

-- no terminal has either of these names
other : (named : Named) → is_called (terminal_name named) (codes "kitty") ≡ false
other XTerm = refl
other MlTerm = refl
other Foot = refl
other Konsole = refl

two : (named : Named) → is_called (terminal_name named) (codes "xterm,foot") ≡ false
two XTerm = refl
two MlTerm = refl
two Foot = refl
two Konsole = refl

pub returns-clause-taken : goal.returns-clause-taken
unfolding walked walk_passes
returns-clause-taken c = λ program. refl

pub returns-clause-task : goal.returns-clause-task
unfolding walked
returns-clause-task c = λ program. (
  codes "show",
  _,
  refl,
  (
    refl,
    (codes "xterm", refl, refl),
    (codes "100,100,100", refl, inl (codes "100", codes "100", codes "100", refl, all, all, all)),
    (refl, refl, refl),
    refl,
    refl,
  ),
)

pub returns-clause-coloured : goal.returns-clause-coloured
unfolding walked
returns-clause-coloured c = λ program. (
  codes "show",
  _,
  refl,
  (
    refl,
    (codes "konsole", refl, refl),
    (codes "100,50,0", refl, inl (codes "100", codes "50", codes "0", refl, all, half, none)),
    (refl, (codes "800", refl, wide), (codes "480", refl, high)),
    refl,
    refl,
  ),
)

pub returns-clause-any_case : goal.returns-clause-any_case
unfolding walked
returns-clause-any_case c = λ program. (
  codes "show",
  _,
  refl,
  (
    refl,
    (codes "XTerm", refl, refl),
    (codes "100,100,100", refl, inl (codes "100", codes "100", codes "100", refl, all, all, all)),
    (refl, refl, refl),
    refl,
    refl,
  ),
)

pub returns-clause-no_wide : goal.returns-clause-no_wide
unfolding walked
returns-clause-no_wide c = λ program task is.
    let found = subcommand_of sixel_app (program ∷ codes "show" ∷ codes "--on" ∷ codes "foot" ∷ codes "--wide" ∷ []) in
    none_called (codes "show") found is.0 is.1 task is.2 is.3 refl
    (described_beside (rows_in found) task (codes "foot") refl refl)

pub returns-clause-no_other_name : goal.returns-clause-no_other_name
unfolding walked
returns-clause-no_other_name c = λ program task is.
    let found = subcommand_of sixel_app (program ∷ codes "show" ∷ codes "--on" ∷ codes "kitty" ∷ []) in
    none_called (codes "show") found is.0 is.1 task is.2 is.3 refl
    (without_name (rows_in found) task (codes "kitty") refl other)

pub returns-clause-no_two_names : goal.returns-clause-no_two_names
unfolding walked
returns-clause-no_two_names c = λ program task is.
    let found = subcommand_of sixel_app (program ∷ codes "show" ∷ codes "--on" ∷ codes "xterm,foot" ∷ []) in
    none_called (codes "show") found is.0 is.1 task is.2 is.3 refl
    (without_name (rows_in found) task (codes "xterm,foot") refl two)

pub returns-clause-no_background : goal.returns-clause-no_background
unfolding walked
returns-clause-no_background c = λ program task is.
    let found = subcommand_of sixel_app (program ∷ codes "show" ∷ codes "--background" ∷ codes "100,50,0" ∷ []) in
    none_called (codes "show") found is.0 is.1 task is.2 is.3 refl
    (coloured_beside (rows_in found) task refl refl)
