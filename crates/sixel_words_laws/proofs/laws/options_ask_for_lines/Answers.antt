use Rattle.std.proofs.Common.{codes, refl}
use Rattle.clap.proofs.OnLiterals.{clap_on_literals}
use Rattle.clap.specs.Walk.{walked}
use Rattle.sixel_words.proofs.NamesLemmas.{has_nobody}
use Rattle.sixel_words_laws.proofs.laws.options_ask_for_lines.Goals as goal

pub returns-clause-failed : goal.returns-clause-failed
unfolding walked
returns-clause-failed c = λ program. (codes "check", _, refl, (refl, refl, has_nobody _ refl refl), refl, refl, refl)

pub returns-clause-check : goal.returns-clause-check
unfolding walked
returns-clause-check c = λ program. (codes "check", _, refl, (refl, refl, has_nobody _ refl refl), refl, refl, refl)

pub returns-clause-survey : goal.returns-clause-survey
unfolding walked
returns-clause-survey c = λ program. (codes "survey", _, refl, (refl, refl, has_nobody _ refl refl), refl, refl, refl)

pub returns-clause-scan : goal.returns-clause-scan
unfolding walked
returns-clause-scan c = λ program. (codes "scan", _, refl, (refl, refl, refl), refl, refl, refl)

pub returns-clause-both : goal.returns-clause-both
unfolding walked
returns-clause-both c = λ program. (codes "check", _, refl, (refl, refl, has_nobody _ refl refl), refl, refl, refl)

pub returns-clause-quiet : goal.returns-clause-quiet
unfolding clap_on_literals
returns-clause-quiet c = λ program. (codes "check", _, refl, (refl, refl, has_nobody _ refl refl), refl, refl, refl)

pub returns-clause-quiet_scan : goal.returns-clause-quiet_scan
unfolding clap_on_literals
returns-clause-quiet_scan c = λ program. (codes "scan", _, refl, (refl, refl, refl), refl, refl, refl)

pub returns-clause-quiet_box : goal.returns-clause-quiet_box
unfolding clap_on_literals
returns-clause-quiet_box c = λ program.
    (codes "show", _, refl, (refl, refl, refl, refl, refl, (refl, refl, refl), refl, refl, refl), refl, refl, refl)

pub returns-clause-explained : goal.returns-clause-explained
unfolding walked
returns-clause-explained c = λ program. (codes "check", _, refl, (refl, refl, has_nobody _ refl refl), refl, refl, refl)

pub returns-clause-survey_explained : goal.returns-clause-survey_explained
unfolding walked
returns-clause-survey_explained c = λ program.
    (codes "survey", _, refl, (refl, refl, has_nobody _ refl refl), refl, refl, refl)

pub returns-clause-taken : goal.returns-clause-taken
unfolding clap_on_literals
returns-clause-taken c = λ program. refl
