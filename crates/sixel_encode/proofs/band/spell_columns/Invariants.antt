use Rattle.std.proofs.Common.{◌≡◌, ◌≤◌, ◌-◌, ◌++◌, true, drop, length, take}
use Rattle.sixel_encode.specs.Columns.{bits_of_sixels}
use Rattle.sixel_encode.specs.Gaps.{IsApart, IsNext}
use Rattle.sixel_encode.proofs.TextLemmas.{columns_text}
use Rattle.sixel_encode.proofs.band.spell_columns.Given as goal

abbrev pub invariant-loop-start : goal.invariant-loop-start
invariant-loop-start l = record {
  text : columns_text (bits_of_sixels l.sixels)
      ≡ take l.at l.text ++ columns_text (drop l.from (bits_of_sixels l.sixels));
  long : length l.text ≡ 2144;
  short : l.at ≤ l.from;
  within : l.from ≤ length l.sixels;
  apart : IsApart l.from l.sixels;
  next : l.gaps.is_listed ≡ true → IsNext l.from l.gaps.ends l.gaps.count l.next;
  small : l.next ≤ l.from;
}

abbrev pub decreases-loop-start : goal.decreases-loop-start
decreases-loop-start l = length l.sixels - l.from
