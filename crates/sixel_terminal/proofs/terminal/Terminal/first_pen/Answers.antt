use Rattle.std.proofs.Common.{refl, ap}
use Rattle.sixel_terminal.specs.Displays.{Display}
use Rattle.sixel_terminal.proofs.DrawLemmas.{pen_start}
use Rattle.sixel_terminal.proofs.RunLemmas.{Runs, runs_seen}
use Rattle.sixel_terminal.proofs.terminal.Terminal.first_pen.Goals as goal

pub returns : goal.returns
returns c =
    let known : Runs c.args.self.now = runs_seen _ _ _ _ c.self.view_is c.self.invariant in
    pen_start c.args.self.now _ known.in_class.selected refl refl
    (ap (λ (t : Display). t.choices.tall) c.self.view_is) refl
    (ap (λ (t : Display). t.choices.selected) c.self.view_is)
