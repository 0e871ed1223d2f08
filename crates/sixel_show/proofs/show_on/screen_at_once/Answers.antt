use Rattle.sixel_grammar.specs.FirstPiece.{with_first}
use Rattle.sixel_show.proofs.ShowOnLemmas.{at_once_told}
use Rattle.sixel_show.proofs.show_on.screen_at_once.Goals as goal

pub returns-in-Ok-Ok-clause-shown : goal.returns-in-Ok-Ok-clause-shown
returns-in-Ok-Ok-clause-shown g c =
    at_once_told c.args.named c.args.background c.args.width c.args.height
    (with_first c.args.piece.now c.args.read (g.S.Source.state c.args.input.now).remaining) c.in-Ok-Ok.screen
    (rw c.in-Ok-Ok.field-0-is at c.in-Ok-Ok.ensures.shown)
