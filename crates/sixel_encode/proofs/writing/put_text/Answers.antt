use Rattle.std.proofs.Common.{refl, ap}
use Rattle.std.proofs.lemmas.Result.{err_from_is_err_and}
use Rattle.sixel_grammar.specs.Spelling.{fixed_spelling}
use Rattle.sixel_io.proofs.SinkLemmas.{through-as, through-stopped, through-then, through-whole}
use Rattle.sixel_encode.proofs.StepLemmas.{canon-parts}
use Rattle.sixel_encode.proofs.writing.put_text.Goals as goal

pub returns-in_err-put_commands-clause-put : goal.returns-in_err-put_commands-clause-put
returns-in_err-put_commands-clause-put g c =
    let exit = c.from_residual-in_err-put_commands in
    let failed = err_from_is_err_and exit.result exit.ensures.1 in
    rw failed.1
    (through-stopped _ (canon-parts c.args.picture.now)
    (through-as (ap fixed_spelling c.start.ensures) (through-whole _ c.in_ok-put_event.ensures))
    c.in_err-put_commands.ensures)

pub returns-clause-put : goal.returns-clause-put
returns-clause-put g c =
    through-then c.put_event-2.result (canon-parts c.args.picture.now)
    (through-then _ refl
    (through-as (ap fixed_spelling c.start.ensures) (through-whole _ c.in_ok-put_event.ensures))
    c.in_ok-put_commands.ensures)
    (through-whole c.put_event-2.result c.put_event-2.ensures)
