use Rattle.std.proofs.Common.{◌∷◌, []}
use Rattle.sixel_io.proofs.SinkLemmas.{puts-longer, puts-then}
use Rattle.std.proofs.lemmas.Result.{err_from_is_err_and}
use Rattle.sixel_words.proofs.TellingLemmas.{any_explanation}
use Rattle.sixel_words.proofs.telling.put_next.Goals as goal

pub returns-in_err-put_all-clause-bytes : goal.returns-in_err-put_all-clause-bytes
returns-in_err-put_all-clause-bytes g c =
    let failed = err_from_is_err_and c.from_residual.result c.from_residual.ensures.1 in
    let some = any_explanation c.args.topic in
    (some.0, some.1, rw failed.1 (puts-longer _ _ (10 ∷ []) some.0 c.in_err-put_all.ensures.taken))

pub returns-clause-bytes : goal.returns-clause-bytes
returns-clause-bytes g c =
    let put = c.put_explanation.ensures.bytes in
    (put.0, put.1, puts-then c.put_explanation.result _ _ _ (10 ∷ []) put.0 c.in_ok-put_all.ensures.taken put.2)
