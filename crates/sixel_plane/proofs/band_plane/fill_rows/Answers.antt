use Rattle.std.proofs.Common.{◌≡◌, ◌==◌, refl, sym, true, false, arith}
use Rattle.std.specs.Int.{bit_at}
use Rattle.std.proofs.lemmas.Bool.{eqb-true}
use Rattle.sixel_model.proofs.PaintLemmas.{painted_none, painted_same}
use Rattle.sixel_model.proofs.RunLemmas.{covered_rows, run_more}
use Rattle.sixel_plane.proofs.band_plane.fill_rows.Goals as goal
use Rattle.sixel_plane.proofs.band_plane.fill_rows.Goals.{then-is_set, else-is_set}

pub loop-bit-init : goal.loop-bit-init
loop-bit-init c =
    painted_none c.args.band 1 c.args.bits _ _ c.args.register 0 c.args.registers.now

pub fill-requires : goal.fill-requires
fill-requires c =
    let set : bit_at c.args.bits c.loop-bit.bit ≡ 1 =
    eqb-true (bit_at c.args.bits c.loop-bit.bit) 1 (sym c.if-is_set.ensures) in
    let room = c.requires.rows c.loop-bit.bit c.loop-bit-test.true set in
    let long = c.loop-bit.invariant.long in
    record { ordered = omega arith; within = omega arith }

pub loop-bit-preserved : goal.loop-bit-preserved
loop-bit-preserved c = elim c.if-is_set.branch [
  | then-is_set w ↦
      let set : (bit_at c.args.bits c.loop-bit.bit == 1) ≡ true = sym w.if-is_set.ensures in
      rw w.registers-is (run_more c.loop-bit.bit c.args.width c.args.column c.args.count c.args.band c.args.bits
      _ c.args.register 0 c.args.registers.now c.loop-bit.registers _ c.requires.some c.requires.columns refl set
      c.loop-bit.invariant
      w.fill.ensures.long w.fill.ensures.changed)
  | else-is_set w ↦
      let clear : (bit_at c.args.bits c.loop-bit.bit == 1) ≡ false = sym w.if-is_set.ensures in
      rw w.registers-is (painted_same c.loop-bit.bit c.args.band 1 c.args.bits _ _ c.args.register 0 _ _ _ clear
      c.loop-bit.invariant refl (λ i lt. refl))
]

pub returns : goal.returns
returns c =
    let done : c.loop-bit.bit ≡ 6 = omega arith in
    covered_rows c.args.width c.args.column c.args.count c.args.band c.args.bits c.args.register 0 c.args.registers.now
    c.loop-bit.registers (rw done at c.loop-bit.invariant)
