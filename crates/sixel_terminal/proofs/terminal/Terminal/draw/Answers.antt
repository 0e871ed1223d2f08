use Rattle.sixel_terminal.proofs.DrawLemmas.{stands_idle}
use Rattle.sixel_terminal.proofs.InkLemmas.{stands_push}
use Rattle.sixel_terminal.proofs.RunLemmas.{Runs, runs_seen}
use Rattle.sixel_terminal.proofs.terminal.Terminal.draw.Goals as goal

pub returns-in-Step : goal.returns-in-Step
returns-in-Step c = λ before s.
    let known : Runs c.args.self.now = runs_seen _ _ _ _ c.self.view_is c.self.invariant in
    rw c.in-Step.is
    (stands_push c.args.self.now before c.args.pen c.next_pen.result _ c.args.colours.now c.define.new.colours
    c.args.inks.now c.paint.new.inks known s c.next_pen.ensures.column c.next_pen.ensures.band c.next_pen.ensures.height
    c.next_pen.ensures.declared c.next_pen.ensures.selected c.define.ensures.long c.define.ensures.defined
    c.paint.auto.inks c.paint.ensures)

pub returns-in_default : goal.returns-in_default
returns-in_default c = λ before s.
    let known : Runs c.args.self.now = runs_seen _ _ _ _ c.self.view_is c.self.invariant in
    stands_idle c.args.self.now before c.args.pen c.args.event.now c.args.colours.now c.args.inks.now known s
    c.in_default.not-Step
