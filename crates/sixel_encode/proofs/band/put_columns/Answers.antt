use Rattle.std.proofs.Common.{refl}
use Rattle.sixel_io.proofs.SinkLemmas.{through-added, through-as}
use Rattle.sixel_encode.proofs.band.put_columns.Goals as goal

pub returns-then-try_put : goal.returns-then-try_put
returns-then-try_put g c = through-as c.spell-end.ensures.text (through-added (c.if-try_put.ensures.put refl))

pub returns : goal.returns
returns g c = through-as c.spell-end.ensures.text (rw (c.if-try_put.ensures.full refl).0 at c.put_by_parts.ensures)
