use Rattle.sixel_emulator.proofs.ProgressLemmas.{come_start}
use Rattle.sixel_emulator.proofs.progress.Progress.new.Goals as goal

pub returns-clause-come : goal.returns-clause-come
returns-clause-come c = λ m placed. come_start m _ placed _ _ _ (c.new.ensures m) (c.open.ensures.drawn c.requires)
