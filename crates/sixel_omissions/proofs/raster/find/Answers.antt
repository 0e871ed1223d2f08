use Rattle.std.proofs.Common.{◌+◌, ℕ, List, [], drop, subst}
use Rattle.std.proofs.lemmas.List.{take_rest}
use Rattle.sixel_omissions.specs.Rasters.{HasRead, IsFirstSign}
use Rattle.sixel_omissions.proofs.RasterLemmas.{seen_begun}
use Rattle.sixel_omissions.proofs.raster.find.Goals as goal

pub returns-in-Some : goal.returns-in-Some
returns-in-Some c = λ before is free.
    let at = c.in-Some.at in
    let bytes = c.args.bytes.now in
    seen_begun before bytes at c.read_numbers.result free (subst (IsFirstSign bytes) c.in-Some.is c.first_sign.ensures)
    (subst (λ (n : ℕ). HasRead (n + at) (drop (at + 1) bytes) c.read_numbers.result) is
    (subst (λ (behind : List ℕ). HasRead (c.args.read + at) behind c.read_numbers.result) (take_rest bytes (at + 1))
    (c.read_numbers.ensures (c.args.read + at) [] tt c.begin.ensures)))
