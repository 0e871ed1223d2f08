use Rattle.std.proofs.Common.{arith}
use Rattle.sixel_encode.proofs.GapItemLemmas.{few_items, group_begun, group_done}
use Rattle.sixel_encode.proofs.gaps.Gaps.add_group.Goals as goal

pub add_lowest-rest-requires-clause-room : goal.add_lowest-rest-requires-clause-room
add_lowest-rest-requires-clause-room c =
    let are = c.requires.ends in
    let few = few_items c.args.self.now.count c.args.at are.items are.before in
    omega (arith, few, c.requires.within, c.requires.few)

pub add_lowest-left-requires-clause-room : goal.add_lowest-left-requires-clause-room
add_lowest-left-requires-clause-room c =
    let begun = group_begun c.gap_ends-bits.result c.requires.ends c.gap_ends-bits.ensures.ends in
    let are = c.add_lowest-rest.ensures.added c.args.sixels.now begun in
    omega (arith, few_items _ _ are.items are.before, c.requires.within, c.requires.few)

pub loop-left-init : goal.loop-left-init
loop-left-init c =
    let begun = group_begun c.gap_ends-bits.result c.requires.ends c.gap_ends-bits.ensures.ends in
    record {
      few = c.add_lowest-left.ensures.few;
      ends = c.add_lowest-left.ensures.added c.args.sixels.now
          (c.add_lowest-rest.ensures.added c.args.sixels.now begun);
    }

pub add_lowest-left-requires-in-loop-left-clause-room : goal.add_lowest-left-requires-in-loop-left-clause-room
add_lowest-left-requires-in-loop-left-clause-room c =
    let are = c.loop-left.invariant.ends in
    omega (arith, few_items _ _ are.items are.before, c.requires.within, c.requires.few)

pub loop-left-preserved : goal.loop-left-preserved
loop-left-preserved c = record {
  few = c.add_lowest-left-in-loop-left.ensures.few;
  ends = c.add_lowest-left-in-loop-left.ensures.added c.args.sixels.now c.loop-left.invariant.ends;
}

pub returns-then-bits-eq0 : goal.returns-then-bits-eq0
returns-then-bits-eq0 c =
    let begun = group_begun c.gap_ends-bits.result c.requires.ends c.gap_ends-bits.ensures.ends in
    group_done (rw c.if-bits-eq0.true at begun)
