use Rattle.std.proofs.Common.{◌∙◌, ◌+◌, ap, arith, drop, take}
use Rattle.std.proofs.lemmas.List.{take_all}
use Rattle.std.proofs.lemmas.Result.{err_from_is_err_and}
use Rattle.sixel_io.proofs.SinkLemmas.{through-as, through-done, through-next, through-none, through-stopped}
use Rattle.sixel_io.proofs.SinkLemmas.{through-whole}
use Rattle.sixel_ppm.specs.PpmTables.{samples_from}
use Rattle.sixel_terminal.specs.Pixels.{bytes_of}
use Rattle.sixel_sheet.proofs.SheetLemmas.{pixels_next, pixels_whole}
use Rattle.sixel_sheet.proofs.sheet.put_pixels.Goals as goal

pub loop-pixel-init : goal.loop-pixel-init
loop-pixel-init g c = through-none

pub loop-pixel-preserved : goal.loop-pixel-preserved
loop-pixel-preserved g c =
    through-next (pixels_next c.args.pixels.now c.loop-pixel.pixel-index c.pixel-item.result c.loop-pixel-test.true)
    c.loop-pixel.invariant
    (through-as (ap (take 3) c.bytes.ensures ∙ ap (λ p. take 3 (bytes_of p)) c.pixel-item.is) (through-whole _ c.in_ok-put.ensures))

pub returns-in_err-put : goal.returns-in_err-put
returns-in_err-put g c =
    let failed = err_from_is_err_and c.from_residual.result c.from_residual.ensures.1 in
    rw failed.1
    (through-stopped (samples_from bytes_of (drop (c.loop-pixel.pixel-index + 1) c.args.pixels.now))
    (pixels_whole c.args.pixels.now c.loop-pixel.pixel-index c.pixel-item.result c.loop-pixel-test.true)
    c.loop-pixel.invariant
    (through-as (ap (take 3) c.bytes.ensures ∙ ap (λ p. take 3 (bytes_of p)) c.pixel-item.is) (through-whole _ c.in_err-put.ensures)))

pub returns : goal.returns
returns g c =
    through-done
    (ap (λ t. samples_from bytes_of t) (take_all c.loop-pixel.pixel-index c.args.pixels.now (omega arith)))
    c.loop-pixel.invariant
