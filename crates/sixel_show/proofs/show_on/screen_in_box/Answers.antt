use Rattle.std.proofs.lemmas.Result.{err_from_is_err_and}
use Rattle.sixel_grammar.specs.FirstPiece.{with_first}
use Rattle.sixel_report.specs.declared.task.Area.TheVariants as area
use Rattle.sixel_show.proofs.OnKonsoleLemmas.{no_device}
use Rattle.sixel_show.proofs.ShowOnLemmas.{on_lost, on_told, on_unread}
use Rattle.sixel_show.proofs.show_on.screen_in_box.Goals as goal

pub returns-clause-shown : goal.returns-clause-shown
returns-clause-shown g c =
    on_told c.args.named c.args.background area.Box
    (with_first c.args.piece.now c.args.read (g.S.Source.state c.args.input.now).remaining) c.deref.result.now
    c.shown.result (rw c.deref.ensures.value (rw c.in-Some.is at c.in_ok-kept.ensures.read)) c.shown.ensures
