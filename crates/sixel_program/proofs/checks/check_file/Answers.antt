use Rattle.std.proofs.Common.{◌≡◌, ◌∙◌, [], None, Some, ap, false, inl, refl, sym, true}
use Rattle.std.proofs.lemmas.Result.{err_from_is_err_and}
use Rattle.std.specs.Prelude.{Err, option_copied}
use Rattle.sixel_io.specs.Devices.{SourceState}
use Rattle.sixel_report.specs.declared.fault.RunFault.TheVariants.{Read}
use Rattle.sixel_program.specs.Files.{is_dash}
use Rattle.sixel_messages.specs.Reports.{name_of}
use Rattle.sixel_program.specs.Openings.{bytes_of, folder_view}
use Rattle.sixel_program.proofs.FilesLemmas.{fails_with, unopened}
use Rattle.sixel_program.proofs.PeekedLemmas.{source_failed}
use Rattle.sixel_program.proofs.checks.check_file.Goals as goal

pub returns-in-Ok-clause-checked : goal.returns-in-Ok-clause-checked
returns-in-Ok-clause-checked g c =
    let label = option_copied c.args.label in
    let named = c.name_of-name.ensures in
    let file : is_dash (name_of label) ≡ false = ap is_dash (sym named) ∙ sym c.eq.ensures ∙ c.if-eq.false in
    let fresh = rw named at c.in-Ok.ensures.bytes in
    let checked = c.answer_labelled-in-Ok.ensures in
    record {
      e = record {
        label = label;
        unopened = None;
        told = _;
        left = _;
        format = checked.format;
        items = checked.items;
        answer = checked.answer;
      };
      label_is = refl;
      read = record {
        told = rw file
            (ap (λ (s : SourceState). s.remaining) c.new-file.ensures ∙ ap (λ (s : SourceState). s.remaining) fresh);
        left = λ is. let no : true ≡ false = sym is ∙ file in cc;
        counted = λ is. let no : true ≡ false = sym is ∙ file in cc;
      };
      is_end = checked.is_end;
      opening = record {
        input = λ is. refl;
        opening = λ is. rw named at c.in-Ok.ensures.ended;
        unread = λ reason is. cc;
        counted = λ is none.
            fails_with (folder_view (g.F.Folder.opening c.args.folder.now) g.F.Opened.Source.state) (name_of label)
            checked.answer c.in-Ok.file c.answer_labelled-in-Ok.new.input.rest _ _ fresh
            (ap (λ (s : SourceState). s.failures) (c.new-file.ensures ∙ fresh)) checked.counted
            (source_failed _ _ _ c.answer_labelled-in-Ok.new.input.counted);
      };
      written = checked.written;
      outcome = checked.outcome;
    }

pub returns-then-eq-clause-checked : goal.returns-then-eq-clause-checked
returns-then-eq-clause-checked g c =
    let label = option_copied c.args.label in
    let dash : is_dash (name_of label) ≡ true =
    ap is_dash (sym c.name_of-name.ensures) ∙ sym c.eq.ensures ∙ c.if-eq.true in
    let checked = c.answer_labelled.ensures in
    record {
      e = record {
        label = label;
        unopened = None;
        told = _;
        left = _;
        format = checked.format;
        items = checked.items;
        answer = checked.answer;
      };
      label_is = refl;
      read = record { told = rw dash refl; left = λ is. refl; counted = λ is. checked.counted };
      is_end = checked.is_end;
      opening = record {
        input = λ is. refl;
        opening = λ is. let no : true ≡ false = sym dash ∙ is in cc;
        unread = λ reason is. cc;
        counted = λ is none. let no : true ≡ false = sym dash ∙ is in cc;
      };
      written = checked.written;
      outcome = checked.outcome;
    }

pub returns-in_err-say_unopened-in-Err-clause-checked : goal.returns-in_err-say_unopened-in-Err-clause-checked
returns-in_err-say_unopened-in-Err-clause-checked g c =
    let said = c.in_err-say_unopened-in-Err.ensures in
    let failed = err_from_is_err_and c.from_residual.result c.from_residual.ensures.1 in
    let label = option_copied c.args.label in
    let named = c.name_of-name.ensures in
    let file : is_dash (name_of label) ≡ false = ap is_dash (sym named) ∙ sym c.eq.ensures ∙ c.if-eq.false in
    let told = bytes_of (g.F.Folder.opening c.args.folder.now) (name_of label) in
    rw failed.1 (record {
      e = record {
        label = label;
        unopened = Some c.in-Err.reason;
        told = told;
        left = told;
        format = None;
        items = [];
        answer = Err Read;
      };
      label_is = refl;
      read = record {
        told = rw file refl;
        left = λ is. let no : true ≡ false = sym is ∙ file in cc;
        counted = λ is. let no : true ≡ false = sym is ∙ file in cc;
      };
      is_end = unopened c.args.task.now c.requires _ _ _;
      opening = record {
        input = λ is. let no : true ≡ false = sym is ∙ file in cc;
        opening = λ is. rw named at c.in-Err.ensures.ended;
        unread = λ reason is. refl;
        counted = λ is none. cc;
      };
      written = tt;
      outcome = (said.put.taken, said.loud, said.put.failures, inl said.silent, said.unchanged);
    })

pub returns-in_ok-say_unopened-in-Err-clause-checked : goal.returns-in_ok-say_unopened-in-Err-clause-checked
returns-in_ok-say_unopened-in-Err-clause-checked g c =
    let said = c.in_ok-say_unopened-in-Err.ensures in
    let label = option_copied c.args.label in
    let named = c.name_of-name.ensures in
    let file : is_dash (name_of label) ≡ false = ap is_dash (sym named) ∙ sym c.eq.ensures ∙ c.if-eq.false in
    let told = bytes_of (g.F.Folder.opening c.args.folder.now) (name_of label) in
    record {
      e = record {
        label = label;
        unopened = Some c.in-Err.reason;
        told = told;
        left = told;
        format = None;
        items = [];
        answer = Err Read;
      };
      label_is = refl;
      read = record {
        told = rw file refl;
        left = λ is. let no : true ≡ false = sym is ∙ file in cc;
        counted = λ is. let no : true ≡ false = sym is ∙ file in cc;
      };
      is_end = unopened c.args.task.now c.requires _ _ _;
      opening = record {
        input = λ is. let no : true ≡ false = sym is ∙ file in cc;
        opening = λ is. rw named at c.in-Err.ensures.ended;
        unread = λ reason is. refl;
        counted = λ is none. cc;
      };
      written = λ is. cc;
      outcome = (
        refl,
        said.put.taken,
        said.put.failures,
        said.said,
        λ quiet. ap (g.K.Sink.state) (said.untouched quiet),
      );
    }
