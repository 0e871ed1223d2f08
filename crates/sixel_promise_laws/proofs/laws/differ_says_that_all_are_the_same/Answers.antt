use Rattle.sixel_promise_laws.proofs.DifferLemmas.{differ_says_same}
use Rattle.sixel_promise_laws.proofs.laws.differ_says_that_all_are_the_same.Goals as goal

pub returns : goal.returns
returns c = differ_says_same
