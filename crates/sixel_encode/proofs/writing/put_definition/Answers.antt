use Rattle.sixel_io.proofs.SinkLemmas.{through-none}
use Rattle.sixel_encode.proofs.TextLemmas.{text-none}
use Rattle.sixel_encode.proofs.writing.put_definition.Goals as goal

pub returns-in-None : goal.returns-in-None
returns-in-None g c = rw (← c.in-None.ensures.value, text-none) through-none
