use Rattle.std.proofs.Common.{◌≡◌, ◌-◌, ◌*◌, ◌∙◌, true, false, sym, arith}
use Rattle.sixel_ppm.proofs.PpmPixelCacheLemmas.{three_same}
use Rattle.sixel_ppm.proofs.ppm.pixel_cache.is_repeated.Goals as goal
use Rattle.sixel_ppm.proofs.ppm.pixel_cache.is_repeated.Goals.{then-are_same, else-are_same}

pub returns-then-are_same-2 : goal.returns-then-are_same-2
returns-then-are_same-2 c = λ third. elim c.if-are_same.branch [
  | then-are_same w ↦
      three_same c.args.bytes.now (3 * (c.args.count - 1)) (3 * c.args.count) (omega (arith, c.requires.some))
      (c.are_same.ensures w.if-are_same.true)
      (w.are_same-then-are_same.ensures (sym w.value-is ∙ c.if-are_same-2.true))
      (c.are_same-then-are_same-2.ensures third)
  | else-are_same w ↦
      let wrong : true ≡ false = sym c.if-are_same-2.true ∙ w.value-is ∙ w.if-are_same.false in
      cc
]
