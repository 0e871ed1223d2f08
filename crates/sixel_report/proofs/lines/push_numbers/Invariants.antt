use Rattle.std.proofs.Common.{◌≡◌, ◌+◌, ◌*◌, ◌≤◌, ◌++◌, take}
use Rattle.arrayvec.specs.ArrayVec.{array_vec_len}
use Rattle.sixel_report.specs.Texts.{spaced, numbers}
use Rattle.sixel_report.proofs.lines.push_numbers.Given as goal

abbrev pub invariant-loop-number : goal.invariant-loop-number
invariant-loop-number l = record {
  items : l.line.items ≡ l.initial.line.items ++ spaced (numbers (take l.number-index l.given));
  len : array_vec_len l.line ≤ array_vec_len l.initial.line + 6 * l.number-index;
}
