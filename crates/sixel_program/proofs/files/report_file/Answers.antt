use Rattle.std.proofs.Common.{◌∙◌, ap, sym}
use Rattle.sixel_io.specs.Devices.{SourceState}
use Rattle.sixel_program.proofs.OneFileLemmas.{dash_ends, file_ends, unopened_ends}
use Rattle.sixel_program.proofs.PeekedLemmas.{source_failed}
use Rattle.sixel_report.proofs.PutLemmas.{is_put}
use Rattle.sixel_program.proofs.files.report_file.Goals as goal

pub returns-then-eq-clause-ends : goal.returns-then-eq-clause-ends
returns-then-eq-clause-ends g c = dash_ends _ _ _ _ _ _ _ _ (sym c.eq.ensures ∙ c.if-eq.true) c.report.ensures

pub returns-in-Ok-clause-ends : goal.returns-in-Ok-clause-ends
returns-in-Ok-clause-ends g c =
    let opened = c.new-file.ensures ∙ c.in-Ok.ensures.bytes in
    file_ends _ _ _ _ _ _ _ _ _ (sym c.eq.ensures ∙ c.if-eq.false) (ap (λ (s : SourceState). s.remaining) opened)
    c.in-Ok.ensures.ended (
      ap (λ (s : SourceState). s.failures) opened,
      λ some.
          record {
            opened = c.in-Ok.file;
            ended = c.report-in-Ok.new.input.rest;
            fresh = c.in-Ok.ensures.bytes;
            failed = source_failed _ _ _ c.report-in-Ok.new.input.counted some;
          },
    )
    c.report-in-Ok.ensures

pub returns-in-Err-clause-ends : goal.returns-in-Err-clause-ends
returns-in-Err-clause-ends g c =
    unopened_ends _ _ _ _ _ _ _ _ (sym c.eq.ensures ∙ c.if-eq.false) c.in-Err.ensures.ended
    (is_put c.put_unopened.result _ _ _ c.put_unopened.ensures)
