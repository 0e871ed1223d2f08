use Rattle.std.proofs.lemmas.Result.{err_from_is_err_and}
use Rattle.sixel_show.proofs.ShowFirstLemmas.{unread_all}
use Rattle.sixel_show.proofs.show_on.read_first.Goals as goal

pub returns-in_err-read-clause-unread : goal.returns-in_err-read-clause-unread
returns-in_err-read-clause-unread g c =
    let failed = err_from_is_err_and c.from_residual.result c.from_residual.ensures.1 in
    rw failed.1 (unread_all _ _ c.in_err-read.ensures.bytes)
