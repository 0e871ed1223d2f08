use Rattle.sixel_run_laws.proofs.FormatLemmas.{runs_give_one_picture, runs_write_what_they_give}
use Rattle.sixel_run_laws.proofs.laws.runs_give_one_picture.Goals as goal

pub returns : goal.returns
returns c = record { one = runs_give_one_picture; written = runs_write_what_they_give }
