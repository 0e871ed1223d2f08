use Rattle.sixel_promise_laws.proofs.PortableLemmas.{portable_line_is_true}
use Rattle.sixel_promise_laws.proofs.laws.a_portable_line_is_true.Goals as goal

pub returns : goal.returns
returns c = portable_line_is_true
