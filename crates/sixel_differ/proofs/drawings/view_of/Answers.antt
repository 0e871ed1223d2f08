use Rattle.std.proofs.Common.{[], ◌∙◌, subst, sym}
use Rattle.sixel_grammar.specs.Document.{events_of}
use Rattle.sixel_emulator.specs.Modelled.{EndsAtPlace, HasFollowed, IsDrawingOf}
use Rattle.sixel_emulator.specs.Readings.{Model}
use Rattle.sixel_differ.proofs.DrawingLemmas.{screen_drawn}
use Rattle.sixel_differ.proofs.drawings.view_of.Goals as goal

pub returns-in-Ok : goal.returns-in-Ok
returns-in-Ok g c = λ named background sides placed none model drawn.
    let followed = subst (λ (m : Model). HasFollowed m g.R.Reading.has_seen c.args.modelled [] placed) (sym model)
    drawn.followed in
    screen_drawn named background sides (events_of placed) c.in-Ok.drawing c.finish-in-Ok.result none
    (c.in-Ok.ensures.terminal ∙ drawn.terminal)
    (record {
      width = c.finish-in-Ok.ensures.width;
      height = c.finish-in-Ok.ensures.height;
      colours = c.finish-in-Ok.ensures.shown;
    })
    (subst (λ (m : Model). IsDrawingOf m [] (events_of placed) c.in-Ok.drawing) model
    (c.in-Ok.ensures.gives [] placed followed))

pub returns-in-Err : goal.returns-in-Err
returns-in-Err g c = λ named background sides placed none model drawn.
    let followed = subst (λ (m : Model). HasFollowed m g.R.Reading.has_seen c.args.modelled [] placed) (sym model)
    drawn.followed in
    subst (λ (m : Model). EndsAtPlace m placed c.in-Err.place) model (c.in-Err.ensures.gives [] placed followed)
