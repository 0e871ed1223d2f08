use Rattle.std.proofs.Common.{◌==◌, ◌-◌, arith, length, not}
use Rattle.sixel_encode.proofs.RepeatLemmas.{first_behind, last_group}
use Rattle.sixel_encode.proofs.lanes.first_other.Goals as goal

pub returns-in-Some : goal.returns-in-Some
returns-in-Some c =
    first_behind c.args.from (length c.args.bytes.now)
    c.loop-at.invariant.after c.loop-at.invariant.none (omega arith) c.in-Some.ensures

pub returns : goal.returns
returns c =
    last_group (λ b. not (b == c.args.byte)) c.args.from c.loop-at.at (length c.args.bytes.now - 32)
    (length c.args.bytes.now) _ c.args.bytes.now _ (omega arith) (omega arith) c.loop-at.invariant.none
    (omega arith) c.first_in_group-2.ensures
