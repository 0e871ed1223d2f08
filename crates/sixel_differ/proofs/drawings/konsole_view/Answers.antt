use Rattle.std.proofs.Common.{Err, subst}
use Rattle.sixel_named_terminals.specs.declared.named.Named.TheVariants.{Konsole}
use Rattle.sixel_named_terminals.specs.declared.showing.ShowFault.{ShowFault}
use Rattle.sixel_named_terminals.specs.Named.{ShowsDocument}
use Rattle.sixel_differ.proofs.DrawingLemmas.{konsole_ended, konsole_shown}
use Rattle.sixel_differ.proofs.drawings.konsole_view.Goals as goal

pub konsole_screen-requires-clause-terminal : goal.konsole_screen-requires-clause-terminal
konsole_screen-requires-clause-terminal c = c.requires.drawn.2.terminal

pub konsole_screen-requires-clause-taken : goal.konsole_screen-requires-clause-taken
konsole_screen-requires-clause-taken c =
    let d = c.requires.drawn in
    (d.0, d.1, d.2.followed, d.2.measured)

pub returns-in-Ok-clause-view : goal.returns-in-Ok-clause-view
returns-in-Ok-clause-view c = λ placed doc.
    konsole_shown c.args.background (c.args.width, c.args.height) c.args.bytes.now c.in-Ok.screen placed c.in-Ok.ensures
    doc

pub unreachable-requires : goal.unreachable-requires
unreachable-requires c =
    subst (λ (it : ShowFault). ShowsDocument Konsole c.args.background (c.args.width, c.args.height) c.args.bytes.now
    (Err it)) c.in-Err-Grammar.field-0-is c.in-Err-Grammar.ensures

pub returns-in-Err-Unmodelled-clause-view : goal.returns-in-Err-Unmodelled-clause-view
returns-in-Err-Unmodelled-clause-view c = λ placed doc.
    konsole_ended c.args.background (c.args.width, c.args.height) c.args.bytes.now c.in-Err-Unmodelled.place placed
    (subst (λ (it : ShowFault). ShowsDocument Konsole c.args.background (c.args.width, c.args.height) c.args.bytes.now
    (Err it)) c.in-Err-Unmodelled.field-0-is c.in-Err-Unmodelled.ensures)
    doc
