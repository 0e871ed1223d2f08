use Rattle.std.proofs.Common.{refl}
use Rattle.std.proofs.lemmas.List.{append-nil}
use Rattle.std.proofs.lemmas.Result.{err_from_is_err_and}
use Rattle.sixel_io.proofs.SinkLemmas.{through-done, writes-as, writes-done}
use Rattle.sixel_ppm.specs.Ppm.{ppm_header, ppm_text}
use Rattle.sixel_sheet.specs.Sheets.{sheet_colours, sheet_width}
use Rattle.sixel_sheet.proofs.SheetLemmas.{header_stopped, rows_stopped, samples, sheet_drained}
use Rattle.sixel_sheet.proofs.sheet.write_sheet.Goals as goal

pub returns-in_err-write_ppm_pixels-clause-taken : goal.returns-in_err-write_ppm_pixels-clause-taken
unfolding ppm_text
returns-in_err-write_ppm_pixels-clause-taken g c =
    let v = c.args.views.now in
    let failed = err_from_is_err_and c.from_residual.result c.from_residual.ensures.1 in
    rw failed.1
    (header_stopped _ _ _ (ppm_header (sheet_width v.width) v.height) (samples (sheet_colours v))
    (writes-as (append-nil _) c.in_err-write_ppm_pixels.ensures)).taken

pub returns-in_err-put_rows-clause-taken : goal.returns-in_err-put_rows-clause-taken
unfolding ppm_text
returns-in_err-put_rows-clause-taken g c =
    let v = c.args.views.now in
    let exit = c.from_residual-in_err-put_rows in
    let failed = err_from_is_err_and exit.result exit.ensures.1 in
    rw failed.1
    (rows_stopped _ _ _ _ (ppm_header (sheet_width v.width) v.height) _ _ (samples (sheet_colours v))
    c.new-samples.ensures (writes-done (append-nil _) c.in_ok-write_ppm_pixels.ensures)
    c.in_err-put_rows.ensures).taken

pub returns-clause-taken : goal.returns-clause-taken
unfolding ppm_text
returns-clause-taken g c =
    let v = c.args.views.now in
    (sheet_drained c.drain.result _ _ _ _ (ppm_header (sheet_width v.width) v.height) _ _ _
    (samples (sheet_colours v)) c.new-samples.ensures
    (writes-done (append-nil _) c.in_ok-write_ppm_pixels.ensures) (through-done refl c.in_ok-put_rows.ensures) c.drain.ensures).taken
