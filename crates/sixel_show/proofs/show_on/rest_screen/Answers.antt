use Rattle.sixel_show.proofs.ShowFirstLemmas.{on_known_sides, on_konsole_sides}
use Rattle.sixel_show.proofs.show_on.rest_screen.Goals as goal

pub returns-in-Some-clause-shown : goal.returns-in-Some-clause-shown
returns-in-Some-clause-shown g c =
    on_known_sides c.args.named c.args.background c.args.area c.args.piece.now c.args.read
    (g.S.Source.state c.args.input.now).remaining (c.in-Some.width, c.in-Some.height) c.screen_at_once.result
    (rw c.in-Some.is at c.sides_at_first.ensures.known) c.screen_at_once.ensures.shown

pub returns-in-Some-2-clause-shown : goal.returns-in-Some-2-clause-shown
returns-in-Some-2-clause-shown g c =
    on_konsole_sides c.args.named c.args.background c.args.area c.args.piece.now c.args.read
    (g.S.Source.state c.args.input.now).remaining (c.in-Some.width, c.in-Some.height) c.konsole_screen.result
    (c.opens_with_nothing.ensures.konsole c.if-opens_with_nothing.false)
    (rw c.in-Some.is at c.sides_at_first.ensures.known) c.konsole_screen.ensures.shown
