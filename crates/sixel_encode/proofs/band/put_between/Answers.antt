use Rattle.sixel_io.proofs.SinkLemmas.{through-none}
use Rattle.sixel_encode.proofs.TextLemmas.{text-none}
use Rattle.sixel_encode.proofs.band.put_between.Goals as goal

pub returns-then-is_first : goal.returns-then-is_first
returns-then-is_first g c = rw (c.if-is_first.true, text-none) through-none
