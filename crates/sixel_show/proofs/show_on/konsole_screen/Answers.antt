use Rattle.std.proofs.Common.{◌∙◌, sym}
use Rattle.std.proofs.lemmas.Result.{err_from_is_err_and}
use Rattle.sixel_grammar.specs.Document.{IsDocument}
use Rattle.sixel_named_terminals.specs.declared.named.Named.TheVariants.{Konsole}
use Rattle.sixel_grammar.specs.FirstPiece.{with_first}
use Rattle.sixel_report.specs.declared.task.Area.TheVariants as area
use Rattle.sixel_show.proofs.OnKonsoleLemmas.{no_device}
use Rattle.sixel_show.proofs.ShowOnLemmas.{on_lost, on_told, on_unread, told_same}
use Rattle.sixel_show.proofs.show_on.konsole_screen.Goals as goal

pub returns-in_err-kept-clause-shown : goal.returns-in_err-kept-clause-shown
returns-in_err-kept-clause-shown g c =
    let exit = c.from_residual-in_err-kept in
    let failed = err_from_is_err_and exit.result exit.ensures.1 in
    rw (failed.1, failed.2)
    (on_unread Konsole c.args.background (area.Sides c.args.width c.args.height)
    (with_first c.args.piece.now c.args.read (g.S.Source.state c.args.input.now).remaining) c.in_err-kept.field-0.0
    c.in_err-kept.ensures.refused)

pub returns-clause-shown : goal.returns-clause-shown
returns-clause-shown g c =
    let drawn = c.in_ok-kept.ensures.drawn in
    on_told Konsole c.args.background (area.Sides c.args.width c.args.height)
    (with_first c.args.piece.now c.args.read (g.S.Source.state c.args.input.now).remaining) drawn.0 c.screen_by.result
    drawn.2 (c.screen_by.ensures drawn.0 drawn.1)

pub returns-clause-reads : goal.returns-clause-reads
returns-clause-reads g c =
    let drawn = c.in_ok-kept.ensures.drawn in
    c.in_ok-kept.ensures.failures
    ∙ sym (no_device Konsole c.args.background (area.Sides c.args.width c.args.height) drawn.0 c.screen_by.result
    (g.S.Source.state c.args.input.now).failures (c.screen_by.ensures drawn.0 drawn.1)).0

pub returns-clause-unread : goal.returns-clause-unread
returns-clause-unread g c = λ is.
    let drawn = c.in_ok-kept.ensures.drawn in
    absurd ((no_device Konsole c.args.background (area.Sides c.args.width c.args.height) drawn.0 c.screen_by.result 0
    (c.screen_by.ensures drawn.0 drawn.1)).1 is)

pub returns-clause-unwritten : goal.returns-clause-unwritten
returns-clause-unwritten g c =
    let drawn = c.in_ok-kept.ensures.drawn in
    (no_device Konsole c.args.background (area.Sides c.args.width c.args.height) drawn.0 c.screen_by.result 0
    (c.screen_by.ensures drawn.0 drawn.1)).2

pub returns-clause-memory : goal.returns-clause-memory
returns-clause-memory g c = λ is.
    let drawn = c.in_ok-kept.ensures.drawn in
    told_same IsDocument (with_first c.args.piece.now c.args.read (g.S.Source.state c.args.input.now).remaining)
    drawn.0 drawn.2 (drawn.1.placed, drawn.1.document)
