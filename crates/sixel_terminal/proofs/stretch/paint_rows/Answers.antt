use Rattle.std.proofs.Common.{◌≡◌, arith, refl}
use Rattle.sixel_terminal.proofs.StretchLemmas.{stretched_more, stretched_none}
use Rattle.sixel_terminal.proofs.stretch.paint_rows.Goals as goal

pub loop-bit-init : goal.loop-bit-init
loop-bit-init c = stretched_none c.args.width c.args.left c.args.top c.args.bytes.now c.args.ink.now c.args.pixels.now

pub loop-bit-preserved : goal.loop-bit-preserved
loop-bit-preserved c =
    stretched_more c.loop-bit.bit c.args.width c.args.left c.args.top _ c.args.bytes.now c.args.ink.now
    c.args.pixels.now c.loop-bit.pixels c.paint_row_at.new.pixels c.requires.some c.requires.columns refl
    c.loop-bit.invariant c.paint_row_at.auto.pixels c.paint_row_at.ensures

pub returns : goal.returns
returns c =
    let done : c.loop-bit.bit ≡ c.args.count = omega arith in
    (rw done at c.loop-bit.invariant).pixels
