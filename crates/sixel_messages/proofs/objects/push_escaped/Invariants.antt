use Rattle.std.proofs.Common.{◌≡◌, ◌*◌, ◌+◌, ◌≤◌, ◌++◌, take}
use Rattle.arrayvec.specs.ArrayVec.{array_vec_len}
use Rattle.json.specs.Print.{escape}
use Rattle.sixel_messages.proofs.objects.push_escaped.Given as goal

abbrev pub invariant-loop-byte : goal.invariant-loop-byte
invariant-loop-byte l = record {
  items : l.text.items ≡ l.initial.text.items ++ escape (take l.byte-index l.part);
  len : array_vec_len l.text ≤ array_vec_len l.initial.text + 6 * l.byte-index;
}
