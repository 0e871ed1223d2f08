use Rattle.std.proofs.Common.{◌≡◌, ◌<◌, ap, rules}
use Rattle.sixel_terminal.specs.Canvases.{laid_under}
use Rattle.sixel_terminal.specs.Displays.{Display}
use Rattle.sixel_terminal.proofs.PaintLemmas.{box_pixels}
use Rattle.sixel_terminal.proofs.terminal.Terminal.fill_box_under.Goals as goal

pub returns : goal.returns
returns c =
    let same : c.self.inside.choices ≡ c.args.self.now.choices = ap (λ (t : Display). t.choices) c.self.view_is in
    let some : 0 < c.args.self.now.choices.screen_width = rw (← same) (search rules) in
    box_pixels c.args.self.now c.args.width c.args.height c.new-columns.result c.new-rows.result
    (laid_under c.args.ink.now) c.args.inks.now c.fill_under.new.inks c.requires some
    (rw same at c.new-columns.ensures) (rw same at c.new-rows.ensures)
    (rw same at c.fill_under.ensures)
