use Rattle.std.proofs.Common.{sym}
use Rattle.sixel_report.proofs.lines.push_command.Goals as goal

pub returns-in-Repeat-clause-items : goal.returns-in-Repeat-clause-items
returns-in-Repeat-clause-items c = rw (c.in-Repeat.is, sym c.from-in-Repeat.ensures) c.push_part-in-Repeat.ensures.items
