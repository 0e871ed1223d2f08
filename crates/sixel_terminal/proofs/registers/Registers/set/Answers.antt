use Rattle.std.proofs.Common.{arith}
use Rattle.std.proofs.lemmas.List.{map-set}
use Rattle.sixel_terminal.proofs.registers.Registers.set.Goals as goal

pub returns : goal.returns
returns c = rw (map-set, c.fixed.ensures, c.self.view_is) (grind arith)
