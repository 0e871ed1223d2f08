use Rattle.std.proofs.Common.{sym, ap, subst}
use Rattle.sixel_terminal.specs.declared.choices.Ground.{Ground}
use Rattle.sixel_terminal.specs.Displays.{Display, IsGroundBelow, registers_of}
use Rattle.sixel_terminal.proofs.RunLemmas.{Runs, runs_seen}
use Rattle.sixel_terminal.proofs.terminal.Terminal.ground.Goals as goal

pub returns-clause-below : goal.returns-clause-below
returns-clause-below c =
    let known : Runs c.args.self.now = runs_seen _ _ _ _ c.self.view_is c.self.invariant in
    subst (λ (g : Ground). IsGroundBelow (registers_of c.args.self.now) g)
    (sym (ap (λ (t : Display). t.choices.ground) c.self.view_is)) known.in_class.ground
