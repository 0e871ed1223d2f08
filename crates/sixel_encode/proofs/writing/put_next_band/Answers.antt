use Rattle.std.proofs.lemmas.Result.{err_from_is_err_and}
use Rattle.sixel_io.proofs.SinkLemmas.{through-cut, through-then}
use Rattle.sixel_encode.specs.Canon.{band_commands}
use Rattle.sixel_encode.proofs.TextLemmas.{text-append}
use Rattle.sixel_encode.proofs.writing.put_next_band.Goals as goal

pub returns-in_err-put_between : goal.returns-in_err-put_between
returns-in_err-put_between g c =
    let failed = err_from_is_err_and c.from_residual.result c.from_residual.ensures.1 in
    rw failed.1
    (through-cut _ (text-append _ (band_commands c.args.picture.now c.args.band)) c.in_err-put_between.ensures)

pub returns : goal.returns
returns g c =
    through-then c.put_band.result (text-append _ (band_commands c.args.picture.now c.args.band))
    c.in_ok-put_between.ensures c.put_band.ensures
