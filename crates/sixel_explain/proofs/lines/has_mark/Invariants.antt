use Rattle.std.proofs.Common.{◌≡◌, take}
use Rattle.std.specs.List.{list_any}
use Rattle.sixel_explain.specs.Explanations.{is_mark}
use Rattle.sixel_explain.proofs.lines.has_mark.Given as goal

abbrev pub invariant-loop-byte : goal.invariant-loop-byte
invariant-loop-byte l = list_any is_mark (take l.byte-index l.line) ≡ l.has
