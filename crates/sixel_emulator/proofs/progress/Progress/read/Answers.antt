use Rattle.sixel_emulator.proofs.ProgressLemmas.{come_ended}
use Rattle.sixel_emulator.proofs.progress.Progress.read.Goals as goal

pub returns-in-Ended-clause-come : goal.returns-in-Ended-clause-come
returns-in-Ended-clause-come c = λ m opening placed n e at is has come.
    come_ended m opening placed n _ _ _ c.in-Ended.is come
