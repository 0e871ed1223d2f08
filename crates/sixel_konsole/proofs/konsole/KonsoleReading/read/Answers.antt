use Rattle.std.proofs.Common.{sym}
use Rattle.sixel_konsole.proofs.konsole.KonsoleReading.read.Goals as goal

pub returns-clause-reads : goal.returns-clause-reads
returns-clause-reads c = λ before s. c.read_before.ensures.reads before _ (sym c.drops.ensures) s
