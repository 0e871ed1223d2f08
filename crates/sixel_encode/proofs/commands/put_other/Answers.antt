use Rattle.sixel_io.proofs.SinkLemmas.{through-whole}
use Rattle.sixel_encode.proofs.TextLemmas.{text-one}
use Rattle.sixel_encode.proofs.commands.put_other.Goals as goal

pub returns : goal.returns
returns g c = rw (text-one c.args.command) (through-whole c.put_event.result c.put_event.ensures)
