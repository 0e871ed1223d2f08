use Rattle.std.proofs.Common.{refl}
use Rattle.sixel_report.proofs.exit.code_of.Goals as goal

pub returns-in-Broken : goal.returns-in-Broken
returns-in-Broken c = rw c.in-Broken.is refl
