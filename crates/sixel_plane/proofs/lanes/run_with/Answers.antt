use Rattle.std.proofs.Common.{◌==◌}
use Rattle.std.specs.Int.{bit_at}
use Rattle.std.proofs.lemmas.Simd.{length-chunk}
use lib.Lanes.{chunk}
use Rattle.sixel_plane.proofs.LaneLemmas.{lanes_without, none_in_lanes, first_in_lanes}
use Rattle.sixel_plane.proofs.lanes.run_with.Goals as goal

pub returns-then-without-eq0 : goal.returns-then-without-eq0
returns-then-without-eq0 c =
    let v = chunk c.args.at 32 c.args.bytes.now in
    let long = length-chunk c.args.at 32 c.args.bytes.now c.requires.within in
    none_in_lanes (λ b. bit_at b c.args.bit == 0) v _ long (lanes_without c.args.bit v c.requires.bit long)
    c.if-without-eq0.true

pub returns-else-without-eq0 : goal.returns-else-without-eq0
returns-else-without-eq0 c =
    let v = chunk c.args.at 32 c.args.bytes.now in
    let long = length-chunk c.args.at 32 c.args.bytes.now c.requires.within in
    first_in_lanes (λ b. bit_at b c.args.bit == 0) v _ long (lanes_without c.args.bit v c.requires.bit long)
    c.if-without-eq0.false
