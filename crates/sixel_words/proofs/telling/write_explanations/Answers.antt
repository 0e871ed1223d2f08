use Rattle.sixel_report.proofs.PutLemmas.{stays_put}
use Rattle.sixel_words.proofs.telling.write_explanations.Goals as goal

pub returns-clause-bytes : goal.returns-clause-bytes
returns-clause-bytes g c =
    let put = c.in_ok-put_explanations.ensures.bytes in
    (put.0, put.1, stays_put c.flush.result _ _ _ put.0 put.2 c.flush.ensures.bytes)
