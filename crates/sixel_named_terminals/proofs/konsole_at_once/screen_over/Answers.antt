use Rattle.std.proofs.Common.{◌≡◌, ◌∙◌, ℕ, Some, ap, ap₂}
use Rattle.sixel_grammar.specs.declared.command.Command.TheVariants.{Raster}
use Rattle.sixel_named_terminals.proofs.AtOnceLemmas.{low_none, low_some, shown_none, shown_some}
use Rattle.sixel_named_terminals.proofs.konsole_at_once.screen_over.Goals as goal

pub returns-in-None-clause-low : goal.returns-in-None-clause-low
returns-in-None-clause-low c = λ some. low_none c.args.rectangle c.in-None.is

pub returns-in-None-clause-shown : goal.returns-in-None-clause-shown
returns-in-None-clause-shown c = λ before tall drawn.
    shown_none c.args.drawing.terminal c.args.rectangle before _ c.in-None.is (c.finish.ensures.shown before drawn)

pub returns-in-Some-Raster-clause-low : goal.returns-in-Some-Raster-clause-low
returns-in-Some-Raster-clause-low c = λ some.
    let found = c.in-Some-Raster in
    let ratio = c.is_one_to_one.ensures c.if-is_one_to_one.true in
    let command : found.field-0 ≡ Raster found.pan found.pad found.width found.height =
    rw found.is at found.field-0-is in
    low_some c.args.rectangle found.width found.height
    (found.is
    ∙ ap Some (command ∙ ap₂ (λ (a b : ℕ). Raster a b found.width found.height) ratio.0 ratio.1))

pub returns-in-Some-Raster-clause-shown : goal.returns-in-Some-Raster-clause-shown
returns-in-Some-Raster-clause-shown c = λ before tall drawn.
    let found = c.in-Some-Raster in
    let ratio = c.is_one_to_one.ensures c.if-is_one_to_one.true in
    let command : found.field-0 ≡ Raster found.pan found.pad found.width found.height =
    rw found.is at found.field-0-is in
    shown_some c.args.drawing.terminal c.args.rectangle found.width found.height before _
    (found.is
    ∙ ap Some (command ∙ ap₂ (λ (a b : ℕ). Raster a b found.width found.height) ratio.0 ratio.1))
    tall (c.finish_over.ensures.shown before drawn)
