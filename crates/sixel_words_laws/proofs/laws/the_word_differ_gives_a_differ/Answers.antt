use Rattle.std.proofs.Common.{◌∷◌, [], arith, codes, inl, refl}
use Rattle.clap.specs.Simple.{subcommand_of}
use Rattle.clap.specs.Takes.{walk_passes}
use Rattle.clap.specs.Walk.{walked}
use Rattle.sixel_commands.specs.Commands.{sixel_app}
use Rattle.sixel_words_laws.proofs.TasklessLemmas.{sheet_of_several, none_called}
use Rattle.sixel_words_laws.proofs.LiteralLemmas.{all, half, none}
use Rattle.sixel_words.proofs.MatchLemmas.{rows_in}
use Rattle.sixel_words_laws.proofs.laws.the_word_differ_gives_a_differ.Goals as goal

pub returns-clause-taken : goal.returns-clause-taken
unfolding walked walk_passes
returns-clause-taken c = λ program. refl

pub returns-clause-task : goal.returns-clause-task
unfolding walked
returns-clause-task c = λ program. (
  codes "differ",
  _,
  refl,
  (
    refl,
    (codes "100,100,100", refl, inl (codes "100", codes "100", codes "100", refl, all, all, all)),
    refl,
  ),
)

pub returns-clause-files_taken : goal.returns-clause-files_taken
unfolding walked walk_passes
returns-clause-files_taken c = λ program. refl

pub returns-clause-files : goal.returns-clause-files
unfolding walked
returns-clause-files c = λ program. (
  codes "differ",
  _,
  refl,
  (
    refl,
    (codes "100,50,0", refl, inl (codes "100", codes "50", codes "0", refl, all, half, none)),
    refl,
  ),
  refl,
  refl,
  refl,
)

pub returns-clause-sheet_taken : goal.returns-clause-sheet_taken
unfolding walked walk_passes
returns-clause-sheet_taken c = λ program. refl

pub returns-clause-sheet : goal.returns-clause-sheet
unfolding walked
returns-clause-sheet c = λ program. (
  codes "differ",
  _,
  refl,
  (
    refl,
    (codes "100,100,100", refl, inl (codes "100", codes "100", codes "100", refl, all, all, all)),
    refl,
    omega arith,
  ),
  refl,
  refl,
  refl,
)

pub returns-clause-no_sheet : goal.returns-clause-no_sheet
unfolding walked
returns-clause-no_sheet c = λ program task is.
    let found = subcommand_of sixel_app (program ∷ codes "differ" ∷ codes "--sheet" ∷ codes "a" ∷ codes "b" ∷ []) in
    none_called (codes "differ") found is.0 is.1 task is.2 is.3 refl
    (sheet_of_several (rows_in found) task refl refl)
