use Rattle.std.proofs.Common.{◌==◌, not, arith, w8}
use Rattle.std.proofs.lemmas.Simd.{length-chunk, bitmask_splat}
use lib.Lanes.{chunk}
use Rattle.sixel_plane.proofs.LaneLemmas.{first_in_lanes, none_in_lanes}
use Rattle.sixel_encode.proofs.lanes.equal_in_group.Goals as goal

pub returns-then-others-eq0 : goal.returns-then-others-eq0
returns-then-others-eq0 c =
    let v = chunk c.args.at 32 c.args.bytes.now in
    let long = length-chunk c.args.at 32 c.args.bytes.now c.requires in
    none_in_lanes (λ b. not (b == c.args.byte)) v _ long
    (bitmask_splat w8 (λ a b. not (a == b)) v 32 c.args.byte long (omega arith)) c.if-others-eq0.true

pub returns-else-others-eq0 : goal.returns-else-others-eq0
returns-else-others-eq0 c =
    let v = chunk c.args.at 32 c.args.bytes.now in
    let long = length-chunk c.args.at 32 c.args.bytes.now c.requires in
    first_in_lanes (λ b. not (b == c.args.byte)) v _ long
    (bitmask_splat w8 (λ a b. not (a == b)) v 32 c.args.byte long (omega arith)) c.if-others-eq0.false
