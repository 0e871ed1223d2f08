use Rattle.std.proofs.Common.{refl}
use Rattle.sixel_run.proofs.running.check.status_of.Goals as goal

pub returns-in-Broken : goal.returns-in-Broken
returns-in-Broken c = rw c.in-Broken.is refl

pub returns-in-Asked : goal.returns-in-Asked
returns-in-Asked c = rw c.in-Asked.is refl
