use Rattle.std.proofs.lemmas.Result.{err_from_is_err_and}
use Rattle.sixel_model.specs.Profiles.{count_of}
use Rattle.sixel_run.proofs.FileLemmas.{encode_refused, encode_written, read_whole, unencoded}
use Rattle.sixel_run.proofs.running.encode.encode.Goals as goal

pub returns-in_err-fitted-clause-wrote : goal.returns-in_err-fitted-clause-wrote
returns-in_err-fitted-clause-wrote g c =
    let exit = c.from_residual-in_err-fitted in
    let failed = err_from_is_err_and exit.result exit.ensures.1 in
    rw (failed.1, failed.2)
    (encode_refused (count_of c.args.profile) c.args.fitting (g.S.Source.state c.args.input.now).remaining
    c.in_ok-picture.picture c.in_err-fitted.field-0.0 _ c.in_ok-picture.ensures.bytes c.in_err-fitted.ensures)

pub returns-in_err-fitted-clause-memory : goal.returns-in_err-fitted-clause-memory
returns-in_err-fitted-clause-memory g c = λ is.
    read_whole (count_of c.args.profile) (g.S.Source.state c.args.input.now).remaining c.in_ok-picture.picture
    c.in_ok-picture.ensures.bytes

pub returns-in-Ok-clause-wrote : goal.returns-in-Ok-clause-wrote
returns-in-Ok-clause-wrote g c =
    encode_written (count_of c.args.profile) c.args.fitting (g.S.Source.state c.args.input.now).remaining
    c.in_ok-picture.picture c.in_ok-fitted.fitted _ _ c.in_ok-picture.ensures.bytes c.in_ok-fitted.ensures
    c.in-Ok.ensures.written.taken

pub returns-clause-wrote : goal.returns-clause-wrote
returns-clause-wrote g c =
    unencoded (count_of c.args.profile) c.args.fitting (g.S.Source.state c.args.input.now).remaining
    c.in_ok-picture.picture c.in_ok-fitted.fitted _ _ c.in_ok-picture.ensures.bytes c.in_ok-fitted.ensures
    c.in-Err.ensures.written.taken
