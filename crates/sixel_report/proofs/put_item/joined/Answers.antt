use Rattle.std.proofs.Common.{arith}
use Rattle.sixel_report.proofs.ItemLemmas.{line_pushed}
use Rattle.sixel_report.proofs.put_item.joined.Goals as goal

pub push_line-requires : goal.push_line-requires
push_line-requires c = omega (arith, c.loop-said.invariant.len, c.loop-said-test.true, c.requires)

pub loop-said-preserved : goal.loop-said-preserved
loop-said-preserved c = record {
  items = line_pushed _ _ _ _ _ c.loop-said-test.true c.loop-said.invariant.items c.push_line.ensures.items;
  len = omega (arith, c.push_line.ensures.len, c.loop-said.invariant.len);
}
