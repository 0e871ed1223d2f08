use Rattle.std.proofs.lemmas.Result.{err_from_is_err_and}
use Rattle.sixel_io.proofs.SinkLemmas.{through-cut, through-then}
use Rattle.sixel_encode.proofs.StepLemmas.{commands-parts}
use Rattle.sixel_encode.proofs.writing.put_commands.Goals as goal

pub returns-in_err-put_opening : goal.returns-in_err-put_opening
returns-in_err-put_opening g c =
    let failed = err_from_is_err_and c.from_residual.result c.from_residual.ensures.1 in
    rw failed.1 (through-cut _ (commands-parts c.args.picture.now) c.in_err-put_opening.ensures)

pub returns : goal.returns
returns g c =
    through-then c.put_bands.result (commands-parts c.args.picture.now) c.in_ok-put_opening.ensures c.put_bands.ensures
