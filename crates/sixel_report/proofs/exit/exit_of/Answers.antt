use Rattle.std.proofs.Common.{refl}
use Rattle.sixel_report.proofs.exit.exit_of.Goals as goal

pub returns-in-Err : goal.returns-in-Err
returns-in-Err c = rw c.in-Err.is refl
