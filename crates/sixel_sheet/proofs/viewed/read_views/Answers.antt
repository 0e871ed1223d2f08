use Rattle.std.proofs.lemmas.Result.{err_from_is_err_and}
use Rattle.sixel_sheet.proofs.ViewedLemmas.{differ_refusal, measured_refusal, unkept_refusal}
use Rattle.sixel_sheet.proofs.viewed.read_views.Goals as goal

pub returns-in_err-size_of-clause-refused : goal.returns-in_err-size_of-clause-refused
returns-in_err-size_of-clause-refused g c =
    let exit = c.from_residual-in_err-size_of in
    let failed = err_from_is_err_and exit.result exit.ensures.1 in
    rw (failed.1, failed.2)
    (measured_refusal c.in_ok-kept.extent (g.S.Source.state c.args.input.now).remaining
    c.in_err-size_of.field-0.0 c.in_ok-kept.ensures.told c.in_err-size_of.ensures.refused)

pub returns-in_default-clause-refused : goal.returns-in_default-clause-refused
returns-in_default-clause-refused g c =
    unkept_refusal c.in_ok-kept.extent (g.S.Source.state c.args.input.now).remaining
    c.in_ok-size_of.field-0.0 c.in_ok-size_of.field-0.1 c.in_ok-kept.ensures.told c.in_ok-size_of.ensures.sides
    c.in_ok-size_of.ensures.sized

pub returns-in_err-views_measured-clause-refused : goal.returns-in_err-views_measured-clause-refused
returns-in_err-views_measured-clause-refused g c =
    let exit = c.from_residual-in_err-views_measured in
    let failed = err_from_is_err_and exit.result exit.ensures.1 in
    rw (failed.1, failed.2)
    (differ_refusal (g.S.Source.state c.args.input.now).remaining c.deref.result.now
    c.in_err-views_measured.field-0.0 (rw c.deref.ensures.value (rw c.in-Some.is at c.in_ok-kept.ensures.read))
    c.in_err-views_measured.ensures.refused)
