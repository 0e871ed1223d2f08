use Rattle.std.proofs.Common.{codes, refl}
use Rattle.clap.specs.Takes.{walk_passes}
use Rattle.clap.specs.Walk.{walked}
use Rattle.sixel_words.proofs.NamesLemmas.{has_nobody}
use Rattle.sixel_words_laws.proofs.laws.the_word_survey_gives_a_survey.Goals as goal

pub returns-clause-taken : goal.returns-clause-taken
unfolding walked walk_passes
returns-clause-taken c = λ program. refl

pub returns-clause-task : goal.returns-clause-task
unfolding walked
returns-clause-task c = λ program. (codes "survey", _, refl, (refl, refl, has_nobody _ refl refl))

pub returns-clause-files : goal.returns-clause-files
unfolding walked
returns-clause-files c = λ program. (codes "survey", _, refl, (refl, refl, has_nobody _ refl refl), refl, refl, refl)

pub returns-clause-files_taken : goal.returns-clause-files_taken
unfolding walked walk_passes
returns-clause-files_taken c = λ program. refl
