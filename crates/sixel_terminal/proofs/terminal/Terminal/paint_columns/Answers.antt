use Rattle.std.proofs.Common.{◌≡◌, ◌==◌, true, false, refl, sym, ap, arith}
use Rattle.std.specs.Int.{bit_at}
use Rattle.sixel_terminal.specs.Displays.{Display}
use Rattle.sixel_model.proofs.PaintLemmas.{painted_none, painted_same}
use Rattle.sixel_terminal.specs.Canvases.{black}
use Rattle.sixel_terminal.proofs.PaintLemmas.{inked_all, inked_more, off_screen}
use Rattle.sixel_terminal.proofs.terminal.Terminal.paint_columns.Goals as goal
use Rattle.sixel_terminal.proofs.terminal.Terminal.paint_columns.Goals.{then-is_set, else-is_set}

pub returns-then-columns : goal.returns-then-columns
returns-then-columns c =
    let same : c.self.inside.choices ≡ c.args.self.now.choices = ap (λ (t : Display). t.choices) c.self.view_is in
    off_screen c.args.self.now c.args.pen c.args.count c.args.bits c.new-columns.result c.args.ink.now c.args.inks.now
    (rw (same, c.right_edge.ensures.value) at c.new-columns.ensures) c.if-columns.true

pub loop-bit-init : goal.loop-bit-init
loop-bit-init c =
    painted_none c.args.pen.band c.args.pen.height c.args.bits _ _ c.args.ink.now black c.args.inks.now

pub loop-bit-preserved : goal.loop-bit-preserved
loop-bit-preserved c = elim c.if-is_set.branch [
  | then-is_set w ↦
      let same : c.self.inside.choices ≡ c.args.self.now.choices = ap (λ (t : Display). t.choices) c.self.view_is in
      let set : (bit_at c.args.bits c.loop-bit.bit == 1) ≡ true = sym w.if-is_set.ensures in
      rw w.inks-is
      (inked_more c.loop-bit.bit c.args.self.now c.args.pen c.args.count c.args.bits c.args.ink.now
      c.new-columns.result w.rows_of-rows.result c.args.inks.now c.loop-bit.inks w.fill.new.inks
      (rw (same, c.right_edge.ensures.value) at c.new-columns.ensures) w.rows_of-rows.ensures.span set
      c.loop-bit.invariant w.fill.auto.inks
      (rw same at w.fill.ensures))
  | else-is_set w ↦
      let clear : (bit_at c.args.bits c.loop-bit.bit == 1) ≡ false = sym w.if-is_set.ensures in
      rw w.inks-is
      (painted_same c.loop-bit.bit c.args.pen.band c.args.pen.height c.args.bits _ _ c.args.ink.now black
      c.args.inks.now c.loop-bit.inks c.loop-bit.inks clear c.loop-bit.invariant refl (λ i lt. refl))
]

pub returns : goal.returns
returns c =
    let done : c.loop-bit.bit ≡ 6 = omega arith in
    inked_all c.args.self.now c.args.pen c.args.count c.args.bits c.args.ink.now c.args.inks.now c.loop-bit.inks
    (rw done at c.loop-bit.invariant)
