use Rattle.std.proofs.Common.{refl}
use Rattle.std.proofs.lemmas.Result.{err_from_is_err_and}
use Rattle.sixel_io.proofs.SinkLemmas.{writes-cut, writes-longer, writes-next, writes-then}
use Rattle.sixel_messages.proofs.names.put_parts.Goals as goal

pub returns-in_err-put_all : goal.returns-in_err-put_all
returns-in_err-put_all g c =
    let failed = err_from_is_err_and c.from_residual.result c.from_residual.ensures.1 in
    rw failed.1 (writes-cut _ refl (writes-longer _ (writes-longer _ c.in_err-put_all.ensures)))

pub returns-in_err-put_name : goal.returns-in_err-put_name
returns-in_err-put_name g c =
    let exit = c.from_residual-in_err-put_name in
    let failed = err_from_is_err_and exit.result exit.ensures.1 in
    rw failed.1
    (writes-cut _ refl
    (writes-longer _
    (writes-then _ refl c.in_ok-put_all.ensures c.in_err-put_name.ensures)))

pub returns-in_err-put_all-2 : goal.returns-in_err-put_all-2
returns-in_err-put_all-2 g c =
    let exit = c.from_residual-in_err-put_all-2 in
    let failed = err_from_is_err_and exit.result exit.ensures.1 in
    rw failed.1
    (writes-cut _ refl
    (writes-then _ refl
    (writes-next c.in_ok-put_all.ensures c.in_ok-put_name.ensures)
    c.in_err-put_all-2.ensures))

pub returns : goal.returns
returns g c =
    writes-then c.put_all-3.result refl
    (writes-next
    (writes-next c.in_ok-put_all.ensures c.in_ok-put_name.ensures)
    c.in_ok-put_all-2.ensures)
    c.put_all-3.ensures
