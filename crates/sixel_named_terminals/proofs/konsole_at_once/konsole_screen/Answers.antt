use Rattle.std.proofs.Common.{◌∙◌, [], refl}
use Rattle.sixel_grammar.specs.Document.{events_of}
use Rattle.sixel_named_terminals.specs.declared.named.Named.TheVariants.{Konsole}
use Rattle.sixel_emulator.specs.Modelled.{opening_of}
use Rattle.sixel_named_terminals.specs.Named.{heard_on}
use Rattle.sixel_named_terminals.proofs.AtOnceLemmas.{over_shown}
use Rattle.sixel_named_terminals.proofs.ShowingLemmas.{shows_again}
use Rattle.sixel_named_terminals.proofs.konsole_at_once.konsole_screen.Goals as goal

pub returns-in-Err : goal.returns-in-Err
returns-in-Err c =
    let taken = c.requires.taken in (taken.0, taken.1, c.in-Err.ensures.gives [] (heard_on Konsole c.args.bytes.now taken.0) taken.2)

pub returns-in-Some : goal.returns-in-Some
returns-in-Some c =
    let taken = c.requires.taken in (
      taken.0,
      taken.1,
      over_shown c.args.background (c.args.width, c.args.height) (heard_on Konsole c.args.bytes.now taken.0) c.in-Ok.drawing c.finish-rectangle.result
          c.in-Some.screen (c.in-Ok.ensures.terminal ∙ c.requires.terminal)
          (c.finish-rectangle.ensures (events_of (heard_on Konsole c.args.bytes.now taken.0)) taken.3)
          (c.in-Ok.ensures.gives [] (heard_on Konsole c.args.bytes.now taken.0) taken.2)
          (c.in-Some.ensures.low refl) c.in-Some.ensures.width c.in-Some.ensures.height c.in-Some.ensures.shown,
    )

pub returns-in-None : goal.returns-in-None
returns-in-None c =
    let taken = c.requires.taken in
    shows_again Konsole c.args.background (c.args.width, c.args.height) (opening_of c.finish-rectangle.result)
    c.args.bytes.now c.show_on.result taken.0 taken.1
    (c.finish-rectangle.ensures (events_of (heard_on Konsole c.args.bytes.now taken.0)) taken.3)
    c.show_on.ensures
