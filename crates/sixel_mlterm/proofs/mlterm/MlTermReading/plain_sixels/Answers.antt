use Rattle.std.proofs.Common.{◌∙◌, subst, sym, ℕ, ◌<◌, length}
use Rattle.sixel_mlterm.proofs.MlTermLemmas.{said_after}
use Rattle.sixel_mlterm.proofs.mlterm.MlTermReading.plain_sixels.Goals as goal

pub returns-then-is_said : goal.returns-then-is_said
returns-then-is_said c = λ before s earlier lt bits next.
    said_after before earlier bits s (sym c.is_said.ensures ∙ c.if-is_said.true)
    (subst (λ (n : ℕ). length earlier < n) c.free_columns.ensures lt)
