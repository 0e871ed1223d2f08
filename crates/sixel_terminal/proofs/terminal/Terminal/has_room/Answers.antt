use Rattle.sixel_terminal.proofs.RunLemmas.{runs_seen}
use Rattle.sixel_terminal.proofs.terminal.Terminal.has_room.Goals as goal

pub returns-then-height-self-clause-in_class : goal.returns-then-height-self-clause-in_class
returns-then-height-self-clause-in_class c = (runs_seen _ _ _ _ c.self.view_is c.self.invariant).in_class

pub returns-else-height-self-clause-in_class : goal.returns-else-height-self-clause-in_class
returns-else-height-self-clause-in_class c = (runs_seen _ _ _ _ c.self.view_is c.self.invariant).in_class
