use Rattle.std.proofs.Common.{refl}
use Rattle.sixel_show.proofs.show.show_choices.Goals as goal

pub returns-then-fill : goal.returns-then-fill
returns-then-fill c = rw c.if-fill.true refl
