use Rattle.std.proofs.Common.{◌≡◌, ◌*◌, ◌≤◌, flat_map, take}
use Rattle.arrayvec.specs.ArrayVec.{array_vec_len}
use Rattle.sixel_report.specs.Texts.{item_line}
use Rattle.sixel_report.proofs.put_item.joined.Given as goal

abbrev pub invariant-loop-said : goal.invariant-loop-said
invariant-loop-said l = record {
  items : l.text.items ≡ flat_map item_line (take l.said-index l.items);
  len : array_vec_len l.text ≤ 117 * l.said-index;
}
