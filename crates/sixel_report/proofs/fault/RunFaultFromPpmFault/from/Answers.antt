use Rattle.std.proofs.Common.{refl}
use Rattle.sixel_report.proofs.fault.RunFaultFromPpmFault.from.Goals as goal

pub returns-in-Format : goal.returns-in-Format
returns-in-Format c = rw c.in-Format.is refl
