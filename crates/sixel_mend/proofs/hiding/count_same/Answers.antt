use Rattle.std.proofs.Common.{◌≡◌, ◌+◌, ◌∙◌, Bool, ap, arith, cond, map, sym, take}
use Rattle.std.specs.Prelude.{count_by}
use Rattle.sixel_model.specs.Colours.{is_same}
use Rattle.sixel_terminal.specs.Screens.{colour_in_ink}
use Rattle.sixel_mend.proofs.PixelLemmas.{counted_more}
use Rattle.sixel_mend.proofs.hiding.count_same.Goals as goal
use Rattle.sixel_mend.proofs.hiding.count_same.Goals.{then-is_same, else-is_same}

pub loop-other-preserved : goal.loop-other-preserved
loop-other-preserved c =
    let i = c.loop-other.other-index in
    let n = c.loop-other.count in
    let pixels = c.args.pixels.now in
    let pixel = c.args.pixel.now in
    let little = c.loop-other.invariant.1 in
    let more =
    counted_more pixels pixel c.other-item.result i n c.is_same.result c.loop-other-test.true c.other-item.is
    c.requires.colours c.requires.colour c.is_same.ensures c.loop-other.invariant.0 in
    elim c.if-is_same.branch [
      | then-is_same w ↦
          let counted : n + 1 ≡ count_by (is_same (colour_in_ink pixel)) (take (i + 1) (map colour_in_ink pixels)) =
          sym (ap (λ (b : Bool). n + cond b 1 0) w.if-is_same.true) ∙ more in
          rw w.count-is (counted, omega (arith, little))
      | else-is_same w ↦
          let counted : n + 0 ≡ count_by (is_same (colour_in_ink pixel)) (take (i + 1) (map colour_in_ink pixels)) =
          sym (ap (λ (b : Bool). n + cond b 1 0) w.if-is_same.false) ∙ more in
          rw w.count-is (omega (arith, counted), omega (arith, little))
    ]
