use Rattle.sixel_report.proofs.PutLemmas.{is_put}
use Rattle.sixel_messages.proofs.notes.put_wrapped.Goals as goal

pub returns : goal.returns
returns g c = is_put c.put_all.result _ _ _ (rw c.wrapped_line.ensures at c.put_all.ensures)
