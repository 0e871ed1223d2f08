use Rattle.std.proofs.Common.{◌≡◌, false, true}
use Rattle.sixel_words.proofs.words.task_of.Goals as goal

pub returns-in-list-clause-none : goal.returns-in-list-clause-none
returns-in-list-clause-none c = λ none t is. let no : true ≡ false = none in cc
