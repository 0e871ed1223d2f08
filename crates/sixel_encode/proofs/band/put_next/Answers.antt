use Rattle.std.proofs.Common.{◌∷◌}
use Rattle.std.proofs.lemmas.Result.{err_from_is_err_and}
use Rattle.sixel_grammar.specs.declared.command.Command.TheVariants.{Select}
use Rattle.sixel_io.proofs.SinkLemmas.{through-cut, through-then}
use Rattle.sixel_encode.specs.Columns.{sixel_commands}
use Rattle.sixel_encode.proofs.TextLemmas.{text-append}
use Rattle.sixel_encode.proofs.band.put_next.Goals as goal

pub returns-in_err-put_between : goal.returns-in_err-put_between
returns-in_err-put_between g c =
    let failed = err_from_is_err_and c.from_residual.result c.from_residual.ensures.1 in
    rw failed.1
    (through-cut _ (text-append _ (Select c.args.register ∷ sixel_commands c.args.sixels.now))
    c.in_err-put_between.ensures)

pub returns : goal.returns
returns g c =
    through-then c.put_register.result (text-append _ (Select c.args.register ∷ sixel_commands c.args.sixels.now))
    c.in_ok-put_between.ensures c.put_register.ensures
