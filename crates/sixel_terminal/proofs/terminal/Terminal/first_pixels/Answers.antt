use Rattle.std.proofs.Common.{◌≡◌, ◌*◌, ◌∙◌, map, replicate, ap, sym}
use Rattle.sixel_terminal.specs.declared.pixel.Ink.TheVariants.{Fixed}
use Rattle.sixel_terminal.specs.Backdrops.{screen_of}
use Rattle.sixel_terminal.specs.Displays.{Display}
use Rattle.sixel_terminal.specs.Limits.{plain_screen}
use Rattle.sixel_terminal.proofs.DrawnLemmas.{plain_inks}
use Rattle.sixel_terminal.proofs.terminal.Terminal.first_pixels.Goals as goal

pub returns-in-Plain : goal.returns-in-Plain
returns-in-Plain c =
    let choices = c.self.inside.choices in
    let screen : plain_screen choices c.in-Plain.colour ≡ c.args.self.now.screen =
    ap (screen_of choices) (sym c.in-Plain.is) ∙ ap (λ (t : Display). t.screen) c.self.view_is in
    let inks : replicate (choices.screen_width * choices.screen_height) (Fixed c.in-Plain.colour)
    ≡ map (λ c. Fixed c) c.args.self.now.screen =
    plain_inks (choices.screen_width * choices.screen_height) c.in-Plain.colour ∙ ap (map (λ c. Fixed c)) screen in
    rw inks at c.plain_pixels.ensures
