use Rattle.std.proofs.lemmas.Result.{err_from_is_err_and}
use Rattle.sixel_model.specs.Profiles.{count_of}
use Rattle.sixel_mend.proofs.NotingLemmas.{picture_mends}
use Rattle.sixel_mend.proofs.making.mend.Goals as goal

pub returns-in_err-mended : goal.returns-in_err-mended
returns-in_err-mended c =
    let exit = c.from_residual-in_err-mended in
    let failed = err_from_is_err_and exit.result exit.ensures.1 in
    rw (failed.1, failed.2) c.in_err-mended.ensures

pub returns : goal.returns
returns c =
    picture_mends (count_of c.args.profile) c.args.mending.now c.args.bytes.now c.in_ok-mended.mended
    c.in_ok-mended.ensures
