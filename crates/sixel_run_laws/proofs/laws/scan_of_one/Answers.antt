use Rattle.sixel_run_laws.proofs.DocumentLemmas.{one_string}
use Rattle.sixel_run_laws.proofs.laws.scan_of_one.Goals as goal

pub returns : goal.returns
returns c = one_string
