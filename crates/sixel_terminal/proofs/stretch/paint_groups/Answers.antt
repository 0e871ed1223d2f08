use Rattle.std.proofs.Common.{◌≡◌, ◌+◌, ◌-◌, ap, arith, drop, take}
use Rattle.sixel_terminal.proofs.GroupLemmas.{stretched_over}
use Rattle.sixel_terminal.proofs.stretch.paint_groups.Goals as goal

pub loop-done-preserved : goal.loop-done-preserved
loop-done-preserved c =
    let inside = c.loop-done.invariant.within in
    let from = c.min-from.result in
    let few : from + 4 - from ≡ 4 = omega arith in
    record {
      within = omega (arith, c.requires.four, c.min-from.ensures);
      painted = stretched_over from c.loop-done.done 4 6 c.args.width c.args.left c.args.top _
          (take (from + 4 - from) (drop from c.args.bytes.now))
          c.args.bytes.now c.args.ink.now c.args.pixels.now c.loop-done.pixels c.paint_few.new.pixels
          (ap (λ n. take n (drop from c.args.bytes.now)) few)
          (omega (arith, c.min-from.ensures)) (omega (arith, c.min-from.ensures, inside, c.requires.four))
          (omega (arith, c.requires.four, c.min-from.ensures))
          c.loop-done.invariant.painted c.paint_few.auto.pixels c.paint_few.ensures (omega arith);
    }
