use Rattle.sixel_report.proofs.PutLemmas.{is_put}
use Rattle.sixel_program.proofs.terminals.put_redirection.Goals as goal

pub returns : goal.returns
returns g c = is_put c.put_all.result _ _ _ (rw (c.redirection.ensures, c.format_of.ensures) at c.put_all.ensures)
