use Rattle.sixel_emulator_rules.proofs.LawLemmas.{first_is_exact, names_within, none_is_earlier, none_is_exact}
use Rattle.sixel_emulator_rules.proofs.laws.answers_are_exact.Goals as goal

pub returns-clause-within : goal.returns-clause-within
returns-clause-within c = names_within

pub returns-clause-none : goal.returns-clause-none
returns-clause-none c = none_is_exact

pub returns-clause-first : goal.returns-clause-first
returns-clause-first c = first_is_exact

pub returns-clause-earlier : goal.returns-clause-earlier
returns-clause-earlier c = none_is_earlier
