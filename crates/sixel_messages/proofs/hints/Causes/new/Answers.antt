use Rattle.sixel_messages.proofs.CauseLemmas.{no_causes}
use Rattle.sixel_messages.proofs.hints.Causes.new.Goals as goal

pub invariant_of-result : goal.invariant_of-result
invariant_of-result c = record { distinct = no_causes _ c.new.ensures }
