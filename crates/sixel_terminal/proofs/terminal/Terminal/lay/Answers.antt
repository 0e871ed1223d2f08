use Rattle.std.proofs.Common.{◌≡◌, ◌*◌, length, map, ap, ◌∙◌, sym}
use Rattle.sixel_terminal.specs.Backdrops.{screen_of}
use Rattle.sixel_terminal.specs.Displays.{Display}
use Rattle.sixel_terminal.specs.declared.pixel.Ink.TheVariants.{Fixed}
use Rattle.sixel_terminal.specs.Limits.{plain_screen}
use Rattle.sixel_terminal.proofs.DrawnLemmas.{laid_plain}
use Rattle.sixel_terminal.proofs.terminal.Terminal.lay.Goals as goal

pub returns-in-Plain : goal.returns-in-Plain
returns-in-Plain c =
    let choices = c.self.inside.choices in
    let screen : plain_screen choices c.in-Plain.colour ≡ c.args.self.now.screen =
    ap (screen_of choices) (sym c.in-Plain.is) ∙ ap (λ (t : Display). t.screen) c.self.view_is in
    let sides : c.args.self.now.choices.screen_width * c.args.self.now.choices.screen_height
    ≡ choices.screen_width * choices.screen_height =
    ap (λ (t : Display). t.choices.screen_width * t.choices.screen_height) (sym c.self.view_is) in
    let long : length c.lay_plain.new.pixels ≡ choices.screen_width * choices.screen_height =
    c.lay_plain.auto.pixels ∙ c.requires ∙ sides in
    laid_plain (choices.screen_width * choices.screen_height) c.in-Plain.colour c.lay_plain.new.pixels long
    (λ i lt. c.lay_plain.ensures i (rw (sym c.lay_plain.auto.pixels) lt) ∙ c.fixed.ensures)
    ∙ ap (map (λ c. Fixed c)) screen
