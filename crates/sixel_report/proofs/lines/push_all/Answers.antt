use Rattle.std.proofs.Common.{◌≡◌, false, true}
use Rattle.std.specs.Prelude.{Result, Ok, Err, IsOk, OnOk}
use Rattle.sixel_report.proofs.lines.push_all.Goals as goal

on_ok : {T E P : Type 0} (r : Result T E) → IsOk r → OnOk r P → P
on_ok (Ok x) is p = p
on_ok (Err x) is p = let no : false ≡ true = is in cc

pub returns-clause-items : goal.returns-clause-items
returns-clause-items c =
    let put = c.try_extend_from_slice.ensures in
    on_ok c.try_extend_from_slice.result (put.variant.1 c.requires) put.ok

pub returns-clause-len : goal.returns-clause-len
returns-clause-len c =
    let put = c.try_extend_from_slice.ensures in
    on_ok c.try_extend_from_slice.result (put.variant.1 c.requires) put.len
