use Rattle.std.proofs.Common.{sym, ◌∙◌}
use Rattle.std.proofs.lemmas.Result.{err_from_is_err_and}
use Rattle.sixel_grammar.specs.Document.{events_of}
use Rattle.sixel_mend.proofs.MendLemmas.{sides_accepted, size_accepted, size_refused}
use Rattle.sixel_mend.proofs.making.size_of.Goals as goal

pub returns-in_err-judge-clause-refused : goal.returns-in_err-judge-clause-refused
returns-in_err-judge-clause-refused c =
    let failed = err_from_is_err_and c.from_residual.result c.from_residual.ensures.1 in
    rw (failed.1, failed.2)
    (λ bytes d registers m.
    size_refused registers c.in_err-judge.field-0.0 d.1 (c.size-width.ensures m (events_of d.0) d.2)
    (sym c.judge.ensures ∙ c.in_err-judge.was))

pub returns-clause-sized : goal.returns-clause-sized
returns-clause-sized c = λ bytes d.
    let w = c.size-width.result.0 in
    let h = c.size-width.result.1 in (
      d.0,
      d.1,
      λ m. size_accepted (c.size-width.ensures m (events_of d.0) d.2)
          (sides_accepted w h c.in_ok-judge.field-0 (sym c.judge.ensures ∙ c.in_ok-judge.was)),
    )
