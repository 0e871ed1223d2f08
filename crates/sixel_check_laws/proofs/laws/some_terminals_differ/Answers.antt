use Rattle.sixel_check_laws.proofs.WitnessLemmas.{some_eight_bit_differ, some_outside_differ, some_uncovered_differ}
use Rattle.sixel_check_laws.proofs.laws.some_terminals_differ.Goals as goal

pub returns : goal.returns
returns c = record {
  uncovered = some_uncovered_differ;
  outside = some_outside_differ;
  eight_bit = some_eight_bit_differ;
}
