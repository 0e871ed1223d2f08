use Rattle.std.proofs.Common.{◌≡◌, refl, sym, ap, ◌∙◌}
use Rattle.sixel_grammar.specs.declared.command.Command.TheVariants.{Sixel, Repeat}
use Rattle.sixel_terminal.specs.Displays.{Display}
use Rattle.sixel_terminal.proofs.PaintLemmas.{data_pixel, filled_pixel, kept_pixel, other_pixel}
use Rattle.sixel_terminal.proofs.terminal.Terminal.paint.Goals as goal

pub returns-in-Sixel : goal.returns-in-Sixel
returns-in-Sixel c = λ i lt.
    rw c.in-Sixel.is
    (c.paint_selected.ensures i lt
    ∙ data_pixel c.args.self.now c.args.pen c.args.colours.now (Sixel c.in-Sixel.bits) _ _ _ refl)

pub returns-in-Repeat : goal.returns-in-Repeat
returns-in-Repeat c = λ i lt.
    rw c.in-Repeat.is
    ((rw c.columns_of.ensures at c.paint_selected-in-Repeat.ensures) i lt
    ∙ data_pixel c.args.self.now c.args.pen c.args.colours.now (Repeat c.in-Repeat.count c.in-Repeat.bits) _ _ _ refl)

pub returns-in-Filled : goal.returns-in-Filled
returns-in-Filled c = λ i lt.
    let same : c.self.inside.choices.ground ≡ c.args.self.now.choices.ground =
    ap (λ (t : Display). t.choices.ground) c.self.view_is in
    rw c.in-Raster.is
    ((rw c.ink.ensures at c.paint_box.ensures) i lt
    ∙ filled_pixel c.args.self.now c.args.pen c.args.colours.now c.in-Raster.pan c.in-Raster.pad c.in-Raster.width
    c.in-Raster.height c.in-Filled.register _ _ _ (sym same ∙ c.in-Filled.is))

pub returns-in_default-ground : goal.returns-in_default-ground
returns-in_default-ground c = λ i lt.
    let same : c.self.inside.choices.ground ≡ c.args.self.now.choices.ground =
    ap (λ (t : Display). t.choices.ground) c.self.view_is in
    rw c.in-Raster.is
    (kept_pixel c.args.self.now c.args.pen c.args.colours.now c.in-Raster.pan c.in-Raster.pad c.in-Raster.width
    c.in-Raster.height _ _ _ (sym same ∙ c.in_default-ground.is))

pub returns-in_default : goal.returns-in_default
returns-in_default c = λ i lt.
    other_pixel c.args.self.now c.args.pen c.args.colours.now c.args.command _ _ _ c.in_default.not-Sixel
    c.in_default.not-Repeat c.in_default.not-Raster
