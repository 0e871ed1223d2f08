use Rattle.sixel_messages.proofs.CauseLemmas.{no_hints}
use Rattle.sixel_messages.proofs.PutsLemmas.{none_put}
use Rattle.sixel_messages.proofs.hints.put_hints.Goals as goal

pub returns-in_default : goal.returns-in_default
returns-in_default g c = rw (no_hints c.args.task.now _ c.in_default.not-Check c.in_default.not-Survey) (none_put _)
