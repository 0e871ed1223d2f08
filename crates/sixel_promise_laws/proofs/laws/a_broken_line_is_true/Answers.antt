use Rattle.sixel_promise_laws.proofs.BrokenLemmas.{asked_line_is_true, broken_line_is_true}
use Rattle.sixel_promise_laws.proofs.laws.a_broken_line_is_true.Goals as goal

pub returns : goal.returns
returns c = record { broken = broken_line_is_true; asked = asked_line_is_true }
