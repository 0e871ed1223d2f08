use Rattle.std.proofs.Common.{◌∙◌, [], subst}
use Rattle.sixel_grammar.specs.FirstPiece.{with_first}
use Rattle.sixel_emulator.specs.Modelled.{EndsAtPlace}
use Rattle.sixel_emulator.specs.Readings.{Model}
use Rattle.sixel_named_terminals.specs.Named.{heard_on}
use Rattle.sixel_named_terminals.proofs.ShowingLemmas.{gives_drawing, if_known}
use Rattle.sixel_named_terminals.proofs.at_once.show_source.Goals as goal

pub returns-in-Ok-clause-shown : goal.returns-in-Ok-clause-shown
returns-in-Ok-clause-shown g c = λ background sides none model followed terminal.
    let same = rw c.in-Ok.is at c.in_ok-drawing.ensures.terminal in
    let gives = rw c.hears.ensures at (rw c.in-Ok.is at c.in_ok-drawing.ensures.gives) in
    if_known (with_first c.args.piece.now c.args.read (g.S.Source.state c.args.input.now).remaining)
    (λ bytes known.
    gives_drawing c.args.named background sides bytes g.R.Reading.model c.in-Ok.drawing c.finish.result none model
    (same ∙ terminal)
    (record {
      width = c.finish.ensures.width;
      height = c.finish.ensures.height;
      colours = c.finish.ensures.shown;
    })
    known.0 known.1 (known.2 [] followed)) gives

pub returns-in-Err-clause-shown : goal.returns-in-Err-clause-shown
returns-in-Err-clause-shown g c = λ background sides none model followed terminal.
    let gives = rw c.hears.ensures at (rw c.in-Err.is at c.in_ok-drawing.ensures.gives) in
    if_known (with_first c.args.piece.now c.args.read (g.S.Source.state c.args.input.now).remaining)
    (λ bytes known. (
      known.0,
      known.1,
      subst (λ (m : Model). EndsAtPlace m (heard_on c.args.named bytes known.0) c.in-Err.place) model (known.2 [] followed),
    )) gives
