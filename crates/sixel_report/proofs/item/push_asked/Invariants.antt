use Rattle.std.proofs.Common.{◌≡◌, ◌+◌, ◌≤◌, ◌++◌, map, take}
use Rattle.arrayvec.specs.ArrayVec.{array_vec_len}
use Rattle.sixel_report.specs.declared.item.Item.TheVariants.{AskedEntry}
use Rattle.sixel_report.proofs.item.push_asked.Given as goal

abbrev pub invariant-loop-entry : goal.invariant-loop-entry
invariant-loop-entry l = record {
  items : l.items.items ≡ l.initial.items.items ++ map AskedEntry (take l.entry-index l.entries);
  few : array_vec_len l.items ≤ 13 + l.entry-index;
}
