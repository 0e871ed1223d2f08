use Rattle.std.proofs.Common.{◌≡◌, ◌<◌, length, refl, sym, ap, ◌∙◌, arith}
use Rattle.std.proofs.lemmas.Result.{err_from_is_err_and}
use Rattle.sixel_io.proofs.SinkLemmas.{through-done, through-next, through-none, through-steps}
use Rattle.sixel_encode.specs.Canon.{commands_text, define_commands}
use Rattle.sixel_encode.proofs.StepLemmas.{entries-all, entries-then, entries_above, entry_step}
use Rattle.sixel_encode.proofs.TextLemmas.{text-none}
use Rattle.sixel_encode.proofs.writing.put_definitions.Goals as goal

pub loop-register-init : goal.loop-register-init
loop-register-init g c = rw text-none through-none

pub returns-in_err-put_definition : goal.returns-in_err-put_definition
returns-in_err-put_definition g c =
    let failed = err_from_is_err_and c.from_residual.result c.from_residual.ensures.1 in
    let palette = c.palette-palette.result.now in
    let below : c.loop-register.register < length palette =
    omega (arith, c.loop-register-test.true, c.count-register-end.ensures.value, c.profile.ensures.count) in
    rw (failed.1, ← c.palette-palette.ensures.same, entries-all palette (length palette) refl)
    (through-steps (entries_above palette) (entry_step palette) (entries-then palette) c.loop-register.register _
    below c.loop-register.invariant c.in_err-put_definition.ensures)

pub loop-register-preserved : goal.loop-register-preserved
loop-register-preserved g c =
    through-next (entries-then c.palette-palette.result.now c.loop-register.register) c.loop-register.invariant
    c.in_ok-put_definition.ensures

pub returns : goal.returns
returns g c =
    let palette = c.palette-palette.result.now in
    let done : c.loop-register.register ≡ length palette =
    omega (arith, c.count-register-end.ensures.value, c.profile.ensures.count) in
    through-done
    (ap (entries_above palette) done ∙ sym (entries-all palette (length palette) refl)
    ∙ ap (λ q. commands_text (define_commands q)) c.palette-palette.ensures.same)
    c.loop-register.invariant
