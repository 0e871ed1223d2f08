use Rattle.std.proofs.Common.{◌≡◌, ◌==◌, not, arith, get_or}
use Rattle.std.proofs.lemmas.Bool.{eqb-true, not-false}
use Rattle.sixel_plane.proofs.LaneLemmas.{none_in_group}
use Rattle.sixel_encode.proofs.lanes.is_uniform.Goals as goal

pub returns : goal.returns
returns c = λ all k low high.
    let xs = c.args.bytes.now in
    let first = get_or xs c.args.at 0 in
    let whole : c.equal_in_group.result ≡ 32 = eqb-true _ _ all in
    eqb-true _ _ (not-false _
    (none_in_group (λ s. not (s == first)) c.args.at c.equal_in_group.result xs c.requires c.equal_in_group.ensures
    (omega arith) k low high))
