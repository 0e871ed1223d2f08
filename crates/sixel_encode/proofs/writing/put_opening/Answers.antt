use Rattle.std.proofs.Common.{[], ◌∷◌, ap}
use Rattle.std.proofs.lemmas.Result.{err_from_is_err_and}
use Rattle.sixel_grammar.specs.declared.command.Command.{Command}
use Rattle.sixel_io.proofs.SinkLemmas.{through-as, through-cut, through-then}
use Rattle.sixel_encode.specs.Canon.{commands_text}
use Rattle.sixel_encode.proofs.StepLemmas.{opening-parts}
use Rattle.sixel_encode.proofs.writing.put_opening.Goals as goal

pub returns-in_err-put_command : goal.returns-in_err-put_command
returns-in_err-put_command g c =
    let failed = err_from_is_err_and c.from_residual.result c.from_residual.ensures.1 in
    rw failed.1
    (through-cut _ (opening-parts c.args.picture.now)
    (through-as (ap (λ (r : Command). commands_text (r ∷ [])) c.raster.ensures) c.in_err-put_command.ensures))

pub returns : goal.returns
returns g c =
    through-then c.put_definitions.result (opening-parts c.args.picture.now)
    (through-as (ap (λ (r : Command). commands_text (r ∷ [])) c.raster.ensures) c.in_ok-put_command.ensures)
    c.put_definitions.ensures
