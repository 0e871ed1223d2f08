use Rattle.sixel_run_laws.proofs.OneStringLemmas.{scan_is_check}
use Rattle.sixel_run_laws.proofs.laws.a_scan_of_one_string_is_its_check.Goals as goal

pub returns : goal.returns
returns c = scan_is_check
