use Rattle.std.proofs.Common.{◌∙◌, ap, refl, subst, sym}
use Rattle.sixel_grammar.specs.Document.{Document, events_of}
use Rattle.sixel_terminal.specs.Displays.{Display}
use Rattle.sixel_terminal.specs.Drawing.{screen_on}
use Rattle.sixel_mend.proofs.making.screen_of.Goals as goal

pub returns-clause-shown : goal.returns-clause-shown
returns-clause-shown c =
    let d = c.in_ok-follow_document.ensures.followed c.in_ok-drawing.drawing (refl, c.in_ok-drawing.ensures.drawn) in
    let terminal = d.taken.0 ∙ c.in_ok-drawing.ensures.terminal ∙ c.in_ok-terminal_of.ensures in (
      d.events,
      subst (Document d.events) (sym d.known_are) d.document,
      c.finish.ensures.shown (events_of d.events) d.taken.1
          ∙ ap (λ (t : Display). screen_on t (events_of d.events)) terminal,
    )
