use Rattle.sixel_run.proofs.RunLemmas.{gives}
use Rattle.sixel_run_laws.proofs.laws.tasks_give_an_output.Goals as goal

pub returns : goal.returns
returns c = gives
