use Rattle.sixel_grammar.proofs.FirstPieceLemmas.{told_first}
use Rattle.sixel_show.proofs.ShowFirstLemmas.{nothing_shown}
use Rattle.sixel_show.proofs.show_on.read_screen.Goals as goal

pub returns-in-Ok-clause-shown : goal.returns-in-Ok-clause-shown
returns-in-Ok-clause-shown g c =
    told_first _ _ c.read_first.new.piece c.in-Ok.read _ c.in-Ok.ensures.read c.rest_screen.ensures.shown

pub returns-in-Ok-clause-memory : goal.returns-in-Ok-clause-memory
returns-in-Ok-clause-memory g c = λ is.
    told_first _ _ c.read_first.new.piece c.in-Ok.read _ c.in-Ok.ensures.read (c.rest_screen.ensures.memory is)

pub returns-in-Ok-clause-unread : goal.returns-in-Ok-clause-unread
returns-in-Ok-clause-unread g c = λ is.
    told_first _ _ c.read_first.new.piece c.in-Ok.read _ c.in-Ok.ensures.read (c.rest_screen.ensures.unread is)

pub returns-in-Err-clause-shown : goal.returns-in-Err-clause-shown
returns-in-Err-clause-shown g c = nothing_shown c.args.named c.args.background c.args.area _

pub returns-in-Err-clause-unread : goal.returns-in-Err-clause-unread
returns-in-Err-clause-unread g c = λ is. c.in-Err.ensures.unread
