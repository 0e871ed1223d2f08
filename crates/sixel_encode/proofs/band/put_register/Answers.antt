use Rattle.std.proofs.Common.{[], ◌∷◌, ap}
use Rattle.std.proofs.lemmas.Result.{err_from_is_err_and}
use Rattle.sixel_grammar.specs.declared.command.Command.{Command}
use Rattle.sixel_grammar.specs.declared.command.Command.TheVariants.{Select}
use Rattle.sixel_io.proofs.SinkLemmas.{through-as, through-cut, through-then}
use Rattle.sixel_encode.specs.Canon.{commands_text}
use Rattle.sixel_encode.specs.Columns.{sixel_commands}
use Rattle.sixel_encode.proofs.TextLemmas.{text-append}
use Rattle.sixel_encode.proofs.band.put_register.Goals as goal

pub returns-in_err-put_command : goal.returns-in_err-put_command
returns-in_err-put_command g c =
    let failed = err_from_is_err_and c.from_residual.result c.from_residual.ensures.1 in
    rw failed.1
    (through-cut _ (text-append (Select c.args.register ∷ []) (sixel_commands c.args.sixels.now))
    (through-as (ap (λ (s : Command). commands_text (s ∷ [])) c.select.ensures) c.in_err-put_command.ensures))

pub returns : goal.returns
returns g c =
    through-then c.put_columns.result
    (text-append (Select c.args.register ∷ []) (sixel_commands c.args.sixels.now))
    (through-as (ap (λ (s : Command). commands_text (s ∷ [])) c.select.ensures) c.in_ok-put_command.ensures)
    c.put_columns.ensures
