use Rattle.std.proofs.Common.{◌≡◌, ◌∙◌, ℕ, List, subst}
use Rattle.std.specs.Prelude.{Err}
use Rattle.std.proofs.lemmas.Result.{err_from_is_err_and}
use Rattle.sixel_named_terminals.specs.declared.named.Named.TheVariants.{Konsole}
use Rattle.sixel_report.specs.declared.task.Area.TheVariants as area
use Rattle.sixel_report.specs.Conversions.{of_show}
use Rattle.sixel_show.specs.NamedScreens.{ShowsIn}
use Rattle.sixel_show.proofs.ShowOnLemmas.{at_once_in, document_fault}
use Rattle.sixel_show.proofs.on_konsole.screen_by.Goals as goal

pub returns-in_err-konsole_screen-in-Bytes : goal.returns-in_err-konsole_screen-in-Bytes
returns-in_err-konsole_screen-in-Bytes c = λ bytes d.
    let fault = c.in_err-konsole_screen-in-Bytes.field-0.0 in
    let failed = err_from_is_err_and c.from_residual.result c.from_residual.ensures.1 in
    let kept : c.in-Bytes.bytes.items ≡ bytes = rw c.in-Bytes.is at d.suffices in
    rw (failed.1, failed.2)
    (subst
    (λ (bs : List ℕ). ShowsIn Konsole c.args.background (area.Sides c.args.width c.args.height) bs (Err (of_show fault)))
    (c.deref.ensures.value ∙ kept)
    (document_fault Konsole c.args.background c.args.width c.args.height c.deref.result.now fault
    c.in_err-konsole_screen-in-Bytes.ensures))

pub returns-in-Ok : goal.returns-in-Ok
returns-in-Ok c = λ bytes d.
    at_once_in Konsole c.args.background c.args.width c.args.height bytes c.in-Ok.screen
    (c.in-Ok.ensures c.args.background c.args.width c.args.height d.placed bytes c.requires.terminal d.document
    d.followed d.measured)

pub returns-in-Err : goal.returns-in-Err
returns-in-Err c = λ bytes d.
    c.in-Err.ensures c.args.background c.args.width c.args.height d.placed bytes c.requires.terminal d.document
    d.followed d.measured
