use Rattle.std.proofs.Common.{arith}
use Rattle.sixel_report.specs.declared.item.Item.TheVariants.{AskedEntry}
use Rattle.sixel_report.proofs.ItemLemmas.{entry_pushed}
use Rattle.sixel_report.proofs.item.push_asked.Goals as goal

pub push-requires : goal.push-requires
push-requires c = omega (arith, c.loop-entry.invariant.few, c.loop-entry-test.true, c.requires.few)

pub loop-entry-preserved : goal.loop-entry-preserved
loop-entry-preserved c = record {
  items = entry_pushed AskedEntry _ _ _ _ _ _ c.loop-entry-test.true c.loop-entry.invariant.items c.push.ensures.items;
  few = omega (arith, c.push.ensures.len, c.loop-entry.invariant.few);
}
