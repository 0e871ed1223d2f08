use Rattle.sixel_promise_laws.proofs.BrokenLemmas.{unbroken_is_done}
use Rattle.sixel_promise_laws.proofs.laws.an_unbroken_document_is_portable.Goals as goal

pub returns : goal.returns
returns c = unbroken_is_done
