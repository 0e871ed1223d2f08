use Rattle.std.proofs.Common.{◌≡◌, sym, ap, ◌∙◌, arith}
use Rattle.std.proofs.lemmas.Result.{err_from_is_err_and}
use Rattle.sixel_io.proofs.SinkLemmas.{through-done, through-next, through-none, through-steps}
use Rattle.sixel_encode.specs.Canon.{bands}
use Rattle.sixel_encode.proofs.StepLemmas.{band_step, bands-all, bands-then, bands_above}
use Rattle.sixel_encode.proofs.TextLemmas.{text-none}
use Rattle.sixel_encode.proofs.writing.put_each_band.Goals as goal

pub loop-band-init : goal.loop-band-init
loop-band-init g c = rw text-none through-none

pub returns-in_err-put_next_band : goal.returns-in_err-put_next_band
returns-in_err-put_next_band g c =
    let failed = err_from_is_err_and c.from_residual.result c.from_residual.ensures.1 in
    let p = c.args.picture.now in
    rw (failed.1, bands-all p)
    (through-steps (bands_above p) (band_step p) (bands-then p) c.loop-band.band (bands p) (omega arith)
    c.loop-band.invariant c.in_err-put_next_band.ensures)

pub loop-band-preserved : goal.loop-band-preserved
loop-band-preserved g c =
    through-next (bands-then c.args.picture.now c.loop-band.band) c.loop-band.invariant c.in_ok-put_next_band.ensures

pub returns : goal.returns
returns g c =
    let p = c.args.picture.now in
    let done : c.loop-band.band ≡ bands p = omega arith in
    through-done (ap (bands_above p) done ∙ sym (bands-all p)) c.loop-band.invariant
