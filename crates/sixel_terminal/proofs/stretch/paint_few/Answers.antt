use Rattle.std.proofs.Common.{Bool, ◌+◌, ◌*◌, ◌∙◌, ap, arith, cond, get_or}
use Rattle.sixel_terminal.specs.Canvases.{black}
use Rattle.sixel_terminal.proofs.GroupLemmas.{few_pixels}
use Rattle.sixel_terminal.proofs.StretchLemmas.{stretched_more}
use Rattle.sixel_terminal.proofs.stretch.paint_few.Goals as goal

pub loop-bit-preserved : goal.loop-bit-preserved
loop-bit-preserved c =
    let at = c.args.top * c.args.width + c.args.left + c.loop-bit.bit * c.args.width in
    stretched_more c.loop-bit.bit c.args.width c.args.left c.args.top at c.args.bytes.now c.args.ink.now
    c.args.pixels.now c.loop-bit.pixels c.paint_four.new.pixels c.requires.wide c.requires.columns (omega arith)
    c.loop-bit.invariant c.paint_four.auto.pixels (λ i lt.
    c.paint_four.ensures i lt
    ∙ ap (λ (t : Bool). cond t c.args.ink.now (get_or c.loop-bit.pixels i black))
    (few_pixels at c.loop-bit.bit i c.args.bytes.now c.first_sixels-sixels.result c.first_sixels-sixels.ensures
    c.requires.few))
