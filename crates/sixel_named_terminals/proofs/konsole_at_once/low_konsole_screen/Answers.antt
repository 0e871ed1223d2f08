use Rattle.std.proofs.Common.{◌∙◌, []}
use Rattle.sixel_grammar.specs.Document.{events_of}
use Rattle.sixel_named_terminals.specs.declared.named.Named.TheVariants.{Konsole}
use Rattle.sixel_named_terminals.specs.Named.{heard_on}
use Rattle.sixel_named_terminals.proofs.AtOnceLemmas.{low_rectangle, low_tall, over_shown}
use Rattle.sixel_named_terminals.proofs.konsole_at_once.low_konsole_screen.Goals as goal

pub low_screen_over-requires-clause-low : goal.low_screen_over-requires-clause-low
low_screen_over-requires-clause-low c =
    let low = c.requires.low in
    low_rectangle c.finish-in-Ok.result low.0 (c.finish-in-Ok.ensures low.0 low.1) low.2

pub returns-in-Ok : goal.returns-in-Ok
returns-in-Ok c = λ background width height placed bytes terminal document followed taken.
    let low = c.requires.low in
    let rectangle = c.finish-in-Ok.result in (
      placed,
      document,
      over_shown background (width, height) (heard_on Konsole bytes placed) c.in-Ok.drawing rectangle c.low_screen_over.result
          (c.in-Ok.ensures.terminal ∙ terminal) (c.finish-in-Ok.ensures (events_of (heard_on Konsole bytes placed)) taken)
          (c.in-Ok.ensures.gives [] (heard_on Konsole bytes placed) followed)
          (low_tall rectangle (low_rectangle rectangle low.0 (c.finish-in-Ok.ensures low.0 low.1) low.2))
          c.low_screen_over.ensures.width c.low_screen_over.ensures.height c.low_screen_over.ensures.shown,
    )

pub returns-in-Err : goal.returns-in-Err
returns-in-Err c = λ background width height placed bytes terminal document followed taken.
    (placed, document, c.in-Err.ensures.gives [] (heard_on Konsole bytes placed) followed)
