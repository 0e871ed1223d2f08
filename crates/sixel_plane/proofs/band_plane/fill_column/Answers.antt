use Rattle.std.proofs.Common.{◌≡◌, refl, arith}
use Rattle.sixel_model.proofs.PaintLemmas.{painted_none}
use Rattle.sixel_plane.proofs.BandLemmas.{painted_put}
use Rattle.sixel_model.proofs.RunLemmas.{covered_rows}
use Rattle.sixel_plane.proofs.band_plane.fill_column.Goals as goal

pub loop-bit-init : goal.loop-bit-init
loop-bit-init c =
    painted_none c.args.band 1 c.args.bits _ _ c.args.register 0 c.args.registers.now

pub loop-bit-preserved : goal.loop-bit-preserved
loop-bit-preserved c =
    painted_put c.is_set.result c.loop-bit.bit c.args.width c.args.column c.args.band c.args.bits c.args.register _
    c.args.registers.now c.loop-bit.registers c.put.new.registers c.requires.some c.requires.columns refl
    c.is_set.ensures c.loop-bit.invariant c.put.ensures

pub returns : goal.returns
returns c =
    let done : c.loop-bit.bit ≡ 6 = omega arith in
    covered_rows c.args.width c.args.column 1 c.args.band c.args.bits c.args.register 0 c.args.registers.now
    c.loop-bit.registers (rw done at c.loop-bit.invariant)
