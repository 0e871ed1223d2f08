use Rattle.std.proofs.Common.{◌≡◌, ◌∙◌, List, None, ap, false, true}
use Rattle.sixel_messages.specs.declared.hints.Cause.{Cause}
use Rattle.sixel_messages.specs.Hints.{causes_in, with_causes}
use Rattle.sixel_program.proofs.FilesLemmas.{one_cut, one_ended}
use Rattle.sixel_program.proofs.checks.check_input.Goals as goal

pub returns-in-Ok : goal.returns-in-Ok
returns-in-Ok g c =
    one_ended _ _ _ _ None _ _ _ _ _ _ _ _
    (λ other. let no : true ≡ false = other in cc) _ _ _ _ _ _ c.in-Ok.ensures.checked c.exit_of.ensures
    (c.note.ensures ∙ ap (λ (cs : List Cause). with_causes cs (causes_in c.in-Ok.answer)) c.new-causes.ensures) c.has_wrapped.ensures c.failures_in.ensures c.finish.ensures

pub returns-in-Err : goal.returns-in-Err
returns-in-Err g c =
    rw c.unwritten.ensures.exit
    (one_cut _ _ _ _ None _ _ _ _ (g.K.Sink.state c.args.output.now) _ _ _
    (λ other. let no : true ≡ false = other in cc) c.in-Err.field-0 c.in-Err.ensures.checked
    c.unwritten.ensures.said)
