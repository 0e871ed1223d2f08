use Rattle.std.proofs.Common.{sym}
use Rattle.sixel_grammar.specs.declared.command.Command.{Command}
use Rattle.sixel_io.proofs.SinkLemmas.{through-as, through-whole}
use Rattle.sixel_encode.proofs.TextLemmas.{text-one}
use Rattle.sixel_encode.proofs.commands.put_command.Goals as goal

pub returns-in-CarriageReturn : goal.returns-in-CarriageReturn
returns-in-CarriageReturn g c =
    rw (c.in-CarriageReturn.is)
    (through-as (sym (text-one Command.CarriageReturn)) (through-whole c.put.result c.put.ensures))
