use Rattle.sixel_scan.proofs.StringLemmas.{one_list, some_strings}
use Rattle.sixel_scan.proofs.laws.each_stream_has_one_list.Goals as goal

pub returns : goal.returns
returns c = record { some = some_strings; once = one_list }
