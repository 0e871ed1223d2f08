use Rattle.std.proofs.Common.{◌∙◌}
use Rattle.std.proofs.lemmas.Result.{err_from_is_err_and}
use Rattle.sixel_show.proofs.ShowOnLemmas.{no_failure, on_refused, on_unwritten, on_written}
use Rattle.sixel_show.proofs.show_on.show_on.Goals as goal

pub returns-in_err-screen-clause-wrote : goal.returns-in_err-screen-clause-wrote
returns-in_err-screen-clause-wrote g c =
    let exit = c.from_residual in
    let failed = err_from_is_err_and exit.result exit.ensures.1 in
    rw (failed.1, failed.2)
    (on_refused c.args.format c.args.named c.args.background c.args.area (g.S.Source.state c.args.input.now).remaining
    c.in_err-screen.field-0.0 _ c.in_err-screen.ensures.shown)

pub returns-in_err-write_screen-clause-wrote : goal.returns-in_err-write_screen-clause-wrote
returns-in_err-write_screen-clause-wrote g c =
    let exit = c.from_residual-in_err-write_screen in
    let failed = err_from_is_err_and exit.result exit.ensures.1 in
    rw (failed.1, failed.2)
    (on_unwritten (Unit {0}) c.args.format c.args.named c.args.background c.args.area
    (g.S.Source.state c.args.input.now).remaining c.in_ok-screen.screen c.in_err-write_screen.field-0.0
    (g.K.Sink.state c.args.output.now) (g.K.Sink.state c.write_screen.new.output) c.requires
    c.in_ok-screen.ensures.shown c.in_err-write_screen.ensures.written)

pub returns-clause-wrote : goal.returns-clause-wrote
returns-clause-wrote g c =
    on_written {A = Unit {0}} c.args.format c.args.named c.args.background c.args.area
    (g.S.Source.state c.args.input.now).remaining c.in_ok-screen.screen tt (g.K.Sink.state c.args.output.now)
    (g.K.Sink.state c.write_screen.new.output) c.requires c.in_ok-screen.ensures.shown
    c.in_ok-write_screen.ensures.written
