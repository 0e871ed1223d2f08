use Rattle.sixel_report.proofs.PutLemmas.{is_put}
use Rattle.sixel_program.proofs.dashes.put_named_twice.Goals as goal

pub returns : goal.returns
returns g c = is_put c.put_all.result _ _ _ c.put_all.ensures
