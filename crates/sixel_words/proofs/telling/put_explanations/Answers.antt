use Rattle.std.proofs.lemmas.Result.{err_from_is_err_and}
use Rattle.sixel_words.proofs.TellingLemmas.{cut_at_first, first_put}
use Rattle.sixel_words.proofs.telling.put_explanations.Goals as goal

pub returns-in_err-put_explanation-in-Some-clause-bytes : goal.returns-in_err-put_explanation-in-Some-clause-bytes
returns-in_err-put_explanation-in-Some-clause-bytes g c =
    let failed = err_from_is_err_and c.from_residual.result c.from_residual.ensures.1 in
    let put = c.in_err-put_explanation-in-Some.ensures.bytes in
    rw failed.1 (cut_at_first _ _ c.args.topics.now c.in-Some.more.now c.in-Some.first.now put.0
    c.in-Some.ensures.cases.0 put.1 put.2)

pub returns-in_ok-put_explanation-in-Some-clause-bytes : goal.returns-in_ok-put_explanation-in-Some-clause-bytes
returns-in_ok-put_explanation-in-Some-clause-bytes g c =
    let put = c.in_ok-put_explanation-in-Some.ensures.bytes in
    let more = c.put_further.ensures.bytes in
    first_put c.put_further.result _ _ _ c.args.topics.now c.in-Some.more.now c.in-Some.first.now put.0 more.0
    c.in-Some.ensures.cases.0 put.1 put.2 more.1 more.2
