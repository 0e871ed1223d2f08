use Rattle.std.proofs.lemmas.Result.{err_from_is_err_and}
use Rattle.sixel_survey.proofs.ReadsLemmas.{reads_on, reads_refused}
use Rattle.sixel_check.proofs.checking.check_with.Goals as goal

pub returns : goal.returns
returns g c =
    reads_on c.in_ok-checker.checker _ (g.S.Source.state c.args.input.now) _
    (λ bytes h. (
      h.0,
      h.1,
      c.in_ok-finish.ensures.verdict _ h.0 h.2,
      c.in_ok-finish.ensures.everywhere _ h.0 h.2,
      c.in_ok-finish.ensures.matters _ h.0 h.2,
    ))
    c.in_ok-checker.ensures.reads

pub returns-in_err-checker : goal.returns-in_err-checker
returns-in_err-checker g c =
    let failed = err_from_is_err_and c.from_residual.result c.from_residual.ensures.1 in
    rw (failed.1, failed.2)
    (reads_refused c.in_err-checker.field-0.0 (g.S.Source.state c.args.input.now) _ (λ bytes h. h)
    c.in_err-checker.ensures.reads)
