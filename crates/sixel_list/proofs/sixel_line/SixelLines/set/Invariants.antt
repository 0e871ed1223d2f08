use Rattle.std.proofs.Common.{◌≡◌, ◌≤◌, ◌*◌, take}
use Rattle.sixel_grammar.specs.Stretches.{sixels_from}
use Rattle.sixel_report.specs.Texts.{list_text}
use Rattle.sixel_list.proofs.sixel_line.SixelLines.set.Given as goal

abbrev pub invariant-loop-index : goal.invariant-loop-index
invariant-loop-index l = record {
  lines : take l.end l.self.text ≡ list_text (sixels_from l.place (take l.index l.bytes));
  few : l.end ≤ 32 * l.index;
}
