use Rattle.std.proofs.Common.{◌≡◌, ◌∙◌, subst}
use Rattle.sixel_grammar.specs.Document.{events_of}
use Rattle.sixel_terminal.specs.Displays.{Display}
use Rattle.sixel_show.specs.Screens.{show_terminal}
use Rattle.sixel_show.specs.Watching.{IsShownAfter}
use Rattle.sixel_show.proofs.DrawLemmas.{told}
use Rattle.sixel_show.proofs.show.read_shown.Goals as goal

pub returns-clause-shown : goal.returns-clause-shown
returns-clause-shown g c =
    let terminal : c.draw.new.watched.drawing.terminal ≡ show_terminal c.args.profile c.args.choices =
    c.in_ok-draw.ensures.terminal ∙ c.in-Ok.ensures.terminal in
    told (g.S.Source.state c.args.input.now).remaining _ _
    (λ bytes d. (
      d.0,
      d.1,
      subst (λ (t : Display). IsShownAfter c.args.profile t c.finish.result (events_of d.0)) terminal
          (c.finish.ensures (events_of d.0) d.2),
    )) c.in_ok-draw.ensures.drawn
