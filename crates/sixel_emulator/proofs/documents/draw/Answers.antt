use Rattle.std.proofs.Common.{◌≡◌, [], List, subst}
use Rattle.std.specs.Prelude.{IfOk}
use Rattle.sixel_grammar.specs.declared.command.Event.{Event}
use Rattle.sixel_grammar.specs.declared.command.Placed.{Placed}
use Rattle.sixel_grammar.specs.Document.{Document}
use Rattle.sixel_grammar.proofs.FollowSourceLemmas.{told_known}
use Rattle.sixel_terminal.specs.Displays.{Display}
use Rattle.sixel_grammar.specs.FirstPiece.{with_first}
use Rattle.sixel_emulator.specs.Heard.{heard_in}
use Rattle.sixel_emulator.specs.Modelled.{HasFollowed, ModelGives}
use Rattle.sixel_emulator.proofs.documents.draw.Goals as goal

pub returns-clause-terminal : goal.returns-clause-terminal
returns-clause-terminal g c =
    subst (λ (t : Display). IfOk c.finish.result (λ d. d.terminal ≡ t)) c.in_ok-hear_rest.ensures.heard.taken.0
    c.finish.ensures.terminal

pub returns-clause-gives : goal.returns-clause-gives
returns-clause-gives g c =
    let f = c.in_ok-hear_rest.ensures.heard in
    told_known (with_first c.args.piece.now c.args.read (g.S.Source.state c.args.input.now).remaining) f.bytes
    (λ bytes. (placed : List Placed) × Document placed bytes × ((opening : List Event)
    → HasFollowed g.R.Reading.model g.R.Reading.has_seen c.args.modelled opening []
    → ModelGives g.R.Reading.model opening (heard_in c.args.hears bytes placed) c.finish.result))
    f.known_are (
      f.events,
      f.document,
      λ opening begun.
          c.finish.ensures.gives opening (heard_in c.args.hears f.bytes f.events) (f.taken.1 opening begun),
    )
