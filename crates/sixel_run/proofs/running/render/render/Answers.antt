use Rattle.std.proofs.Common.{refl}
use Rattle.std.proofs.lemmas.Result.{err_from_is_err_and}
use Rattle.sixel_model.specs.Profiles.{count_of}
use Rattle.sixel_run.specs.Outputs.{RenderGives}
use Rattle.sixel_run.proofs.CheckLemmas.{grown}
use Rattle.sixel_report.proofs.FormatLemmas.{as_refused}
use Rattle.sixel_run.proofs.PictureLemmas.{broken_rendered, rendered, unrendered}
use Rattle.sixel_run.proofs.running.render.render.Goals as goal

pub returns-in_err-write_picture-in-Portable-clause-wrote : goal.returns-in_err-write_picture-in-Portable-clause-wrote
returns-in_err-write_picture-in-Portable-clause-wrote g c =
    let failed = err_from_is_err_and c.from_residual-in_err-write_picture-in-Portable.result
    c.from_residual-in_err-write_picture-in-Portable.ensures.1 in
    rw (failed.1, failed.2)
    (unrendered c.args.format _ (g.S.Source.state c.args.input.now).remaining _
    c.in_err-write_picture-in-Portable.field-0.0 _ _
    (rw c.in-Portable.is at c.in_ok-picture.ensures.answer) c.in_err-write_picture-in-Portable.ensures)

pub returns-in_ok-write_picture-in-Portable-clause-wrote : goal.returns-in_ok-write_picture-in-Portable-clause-wrote
returns-in_ok-write_picture-in-Portable-clause-wrote g c =
    rendered c.args.format _ (g.S.Source.state c.args.input.now).remaining _ (g.K.Sink.state c.args.output.now)
    (g.K.Sink.state c.write_picture.new.output)
    (rw c.in-Portable.is at c.in_ok-picture.ensures.answer) c.in_ok-write_picture-in-Portable.ensures

pub returns-in_err-picture-clause-wrote : goal.returns-in_err-picture-clause-wrote
returns-in_err-picture-clause-wrote g c =
    let failed = err_from_is_err_and c.from_residual.result c.from_residual.ensures.1 in
    rw (failed.1, failed.2)
    (as_refused c.args.format (λ bytes. RenderGives (count_of c.args.profile) bytes)
    (g.S.Source.state c.args.input.now).remaining c.in_err-picture.field-0.0 _ (λ bytes f is. (refl, is))
    c.in_err-picture.ensures.answer)

pub returns-in_err-picture-clause-memory : goal.returns-in_err-picture-clause-memory
returns-in_err-picture-clause-memory g c =
    let failed = err_from_is_err_and c.from_residual.result c.from_residual.ensures.1 in
    grown _ _ (g.S.Source.state c.args.input.now).remaining _ failed.0 c.from_residual.result
    c.in_err-picture.ensures.memory
    failed.1 failed.2

pub returns-in-Broken-clause-wrote : goal.returns-in-Broken-clause-wrote
returns-in-Broken-clause-wrote g c =
    broken_rendered c.args.format _ (g.S.Source.state c.args.input.now).remaining c.in-Broken.finding
    (g.K.Sink.state c.args.output.now).taken
    (rw c.in-Broken.is at c.in_ok-picture.ensures.answer)
