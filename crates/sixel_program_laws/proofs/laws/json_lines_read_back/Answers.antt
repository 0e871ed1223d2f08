use Rattle.sixel_program_laws.proofs.ReadBackLemmas.{one_line, reads_as, reads_back}
use Rattle.sixel_program_laws.proofs.ValueLemmas.{fault_values, item_values, unread_values}
use Rattle.sixel_program_laws.proofs.laws.json_lines_read_back.Goals as goal

pub returns : goal.returns
returns c = record {
  line = one_line;
  read = reads_back;
  value = reads_as;
  item = item_values;
  fault = fault_values;
  unread = unread_values;
}
