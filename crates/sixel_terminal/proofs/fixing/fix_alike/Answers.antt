use Rattle.std.proofs.Common.{◌∙◌, arith, length, refl, subst, sym}
use Rattle.sixel_terminal.specs.declared.pixel.Ink.{Ink}
use Rattle.sixel_terminal.specs.Screens.{IsFixed, colours_in}
use Rattle.sixel_terminal.proofs.fixing.fix_alike.Goals as goal

pub loop-pixel-init : goal.loop-pixel-init
loop-pixel-init c =
    let colours = colours_in c.args.table.now in
    let fixed : IsFixed c.shown-pixel.result = subst (λ (x : Ink). IsFixed x) (sym c.shown-pixel.ensures) tt in (
      λ initial are.
          c.fill_block.ensures.fixed colours c.args.under c.args.first.now initial c.requires.alike
          c.shown-pixel.ensures are,
      omega arith,
      omega (arith, c.requires.room, c.fill_block.ensures.long),
      c.fill_block.ensures.long,
      c.fill_block.ensures.below (length colours) fixed c.requires.below,
    )

pub loop-pixel-preserved : goal.loop-pixel-preserved
loop-pixel-preserved c =
    let colours = colours_in c.args.table.now in
    let i = c.loop-pixel.invariant in
    let filled = c.fill_block-in-loop-pixel.ensures in
    let fixed : IsFixed c.shown-pixel.result = subst (λ (x : Ink). IsFixed x) (sym c.shown-pixel.ensures) tt in (
      λ initial are.
          filled.fixed colours c.args.under c.args.first.now initial (c.loop-pixel-test.ensures.alike refl)
          c.shown-pixel.ensures (i.0 initial are),
      omega (arith, i.1),
      omega (arith, c.loop-pixel-test.ensures.room refl, filled.long),
      filled.long ∙ i.3,
      filled.below (length colours) fixed i.4,
    )
