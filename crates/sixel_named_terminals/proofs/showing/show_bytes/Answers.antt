use Rattle.std.proofs.Common.{◌∙◌}
use Rattle.sixel_named_terminals.proofs.ShowingLemmas.{shows_drawing, shows_end}
use Rattle.sixel_named_terminals.proofs.showing.show_bytes.Goals as goal

pub returns-in-Ok-Ok : goal.returns-in-Ok-Ok
returns-in-Ok-Ok g c = λ background sides opening model followed terminal.
    let same = rw c.in-Ok-Ok.field-0-is at c.in-Ok-Ok.ensures.terminal in
    let gives = rw c.hears.ensures at (rw c.in-Ok-Ok.field-0-is at c.in-Ok-Ok.ensures.gives) in
    shows_drawing c.args.named background sides opening c.args.bytes.now g.R.Reading.model c.in-Ok-Ok.drawing c.finish.result
    model (same ∙ terminal)
    (record {
      width = c.finish.ensures.width;
      height = c.finish.ensures.height;
      colours = c.finish.ensures.shown;
    })
    gives.0 gives.1 (gives.2 opening followed)

pub returns-in-Ok-Err : goal.returns-in-Ok-Err
returns-in-Ok-Err g c = λ background sides opening model followed terminal.
    let gives = rw c.hears.ensures at (rw c.in-Ok-Err.field-0-is at c.in-Ok-Err.ensures.gives) in
    shows_end c.args.named background sides opening c.args.bytes.now g.R.Reading.model c.in-Ok-Err.place model gives.0 gives.1
    (gives.2 opening followed)
