use Rattle.std.proofs.lemmas.Result.{err_from_is_err_and}
use Rattle.sixel_grammar.specs.Document.{events_of}
use Rattle.sixel_show.proofs.ScreenLemmas.{unwritten, whole_after, written}
use Rattle.sixel_show.proofs.screen.write_shown.Goals as goal

pub returns-clause-wrote : goal.returns-clause-wrote
returns-clause-wrote g c = λ profile t events bytes doc is wide high.
    let whole = whole_after t c.args.shown.now.screen (events_of events) is.screen wide high in
    let put = c.in_ok-write_screen.ensures.written whole in
    written {A = Unit {0}} c.args.format profile t bytes events c.args.shown.now.status
    (g.K.Sink.state c.args.output.now) (g.K.Sink.state c.write_screen.new.output) c.args.shown.now.screen.colours tt doc
    is.screen.colours is.status
    (rw (is.screen.width, is.screen.height) at put)

pub returns-in_err-write_screen-clause-wrote : goal.returns-in_err-write_screen-clause-wrote
returns-in_err-write_screen-clause-wrote g c = λ profile t events bytes doc is wide high.
    let whole = whole_after t c.args.shown.now.screen (events_of events) is.screen wide high in
    let put = c.in_err-write_screen.ensures.written whole in
    let failed = err_from_is_err_and c.from_residual.result c.from_residual.ensures.1 in
    rw (failed.1, failed.2)
    (unwritten (Unit {0}) c.args.format profile t bytes events (g.K.Sink.state c.args.output.now)
    (g.K.Sink.state c.write_screen.new.output) c.args.shown.now.screen.colours c.in_err-write_screen.field-0.0 doc
    is.screen.colours (rw (is.screen.width, is.screen.height) at put))
