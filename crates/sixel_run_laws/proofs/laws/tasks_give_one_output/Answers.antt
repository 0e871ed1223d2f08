use Rattle.sixel_run.proofs.RunLemmas.{gives-once}
use Rattle.sixel_run_laws.proofs.laws.tasks_give_one_output.Goals as goal

pub returns : goal.returns
returns c = gives-once
