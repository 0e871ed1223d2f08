use Rattle.std.proofs.Common.{arith}
use Rattle.sixel_terminal.specs.declared.pixel.Ink.TheVariants.{Fixed}
use Rattle.sixel_terminal.proofs.DrawnLemmas.{laid_more}
use Rattle.sixel_terminal.proofs.terminal.drawing.lay_colours.Goals as goal

pub loop-index-preserved : goal.loop-index-preserved
loop-index-preserved c =
    rw c.fixed.ensures
    (laid_more (λ c. Fixed c) c.args.colours.now c.args.pixels.now c.loop-index.pixels c.loop-index.index
    c.index-colours-index.result _ (omega (arith, c.loop-index-test.true, c.requires)) c.requires
    c.loop-index.invariant c.index-colours-index.is)
