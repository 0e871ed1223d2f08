use Rattle.std.proofs.Common.{◌≡◌, ◌∙◌, ◌+◌, ◌≤◌, ◌++◌, List, ℕ, ap, arith, false, length, true}
use Rattle.std.specs.Prelude.{Result, Ok, Err, IsOk, OnOk}
use Rattle.sixel_report.proofs.put_item.push_line.Goals as goal

on_ok : {T E P : Type 0} (r : Result T E) → IsOk r → OnOk r P → P
on_ok (Ok x) is p = p
on_ok (Err x) is p = let no : false ≡ true = is in cc

pub returns-clause-items : goal.returns-clause-items
returns-clause-items c =
    let put = c.try_extend_from_slice.ensures in
    on_ok c.try_extend_from_slice.result (put.variant.1 (omega (arith, c.requires, c.as_slice.ensures.fits))) put.ok
    ∙ ap (λ (t : List ℕ). c.args.text.now.items ++ t) (c.as_slice.ensures.value ∙ c.item_line.ensures)

pub returns-clause-len : goal.returns-clause-len
returns-clause-len c =
    let put = c.try_extend_from_slice.ensures in
    let fits : length c.args.text.now.items + length c.as_slice.result.now ≤ 2925 =
    omega (arith, c.requires, c.as_slice.ensures.fits) in
    omega (arith, on_ok c.try_extend_from_slice.result (put.variant.1 fits) put.len, c.as_slice.ensures.fits)
