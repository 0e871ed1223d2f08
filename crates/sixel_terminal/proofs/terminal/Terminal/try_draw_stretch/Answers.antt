use Rattle.std.proofs.Common.{ap, ◌≤◌, ◌∙◌, ◌++◌, sym, subst, arith}
use Rattle.sixel_terminal.specs.declared.pen.Pen.{Pen}
use Rattle.sixel_terminal.specs.Standing.{StandsAfter}
use Rattle.sixel_terminal.specs.Steps.{most}
use Rattle.sixel_terminal.specs.Stretches.{sixels_of}
use Rattle.sixel_terminal.proofs.RunLemmas.{Runs, runs_seen}
use Rattle.sixel_terminal.proofs.StretchLemmas.{pen_moved, stands_stretch}
use Rattle.sixel_terminal.proofs.terminal.Terminal.try_draw_stretch.Goals as goal

pub returns-clause-drawn : goal.returns-clause-drawn
returns-clause-drawn c = λ before s.
    let t = c.args.self.now in
    let pen = c.args.pen in
    let bytes = c.args.bytes.now in
    let known : Runs t = runs_seen _ _ _ _ c.self.view_is c.self.invariant in
    let few : pen.column ≤ most = omega (arith, s.pen.column_is) in
    subst (λ (p : Pen). StandsAfter t (before ++ sixels_of bytes) p c.args.colours.now c.paint_stretch.new.inks)
    (pen_moved pen bytes few ∙ ap (λ (p : Pen). record pen { column = p.column }) (sym c.moved.ensures))
    (stands_stretch t bytes before pen c.args.colours.now c.args.inks.now c.paint_stretch.new.inks known s
    c.paint_stretch.auto.inks (rw c.ink-ink.ensures at c.paint_stretch.ensures))
