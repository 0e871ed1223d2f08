use Rattle.std.proofs.Common.{◌≡◌, ◌∙◌, take, ap, arith}
use Rattle.sixel_grammar.specs.Document.{events_of}
use Rattle.sixel_terminal.specs.Displays.{Display}
use Rattle.sixel_terminal.specs.Drawing.{screen_on}
use Rattle.sixel_terminal.proofs.DrawLemmas.{all_taken, events_push}
use Rattle.sixel_terminal.proofs.terminal.Terminal.show.Goals as goal

pub loop-placed-preserved : goal.loop-placed-preserved
loop-placed-preserved c =
    let i = c.loop-placed.placed-index in
    let events = c.args.events.now in
    let pushed = events_push events i c.placed-item.result c.loop-placed-test.true c.placed-item.is in (
      c.push.ensures.terminal ∙ c.loop-placed.invariant.0,
      rw pushed (c.push.ensures.drawn (events_of (take i events)) c.loop-placed.invariant.1),
    )

pub returns : goal.returns
returns c =
    let events = events_of c.args.events.now in
    let all : take c.loop-placed.placed-index c.args.events.now ≡ c.args.events.now =
    all_taken c.loop-placed.placed-index c.args.events.now (omega arith) in
    let shown : c.finish.result.colours ≡ screen_on c.args.self.now events =
    c.finish.ensures.shown events (rw all at c.loop-placed.invariant.1)
    ∙ ap (λ (t : Display). screen_on t events) c.loop-placed.invariant.0 in
    rw shown at c.colours-2.ensures
