use Rattle.std.proofs.Common.{◌∙◌, ◌<◌, length, refl, rules}
use Rattle.sixel_terminal.specs.Screens.{colours_in}
use Rattle.sixel_terminal.proofs.FixLemmas.{below_one, long_one, one_fixed}
use Rattle.sixel_terminal.proofs.fixing.fix_each.Goals as goal

pub loop-index-preserved : goal.loop-index-preserved
loop-index-preserved c =
    let i = c.loop-index.invariant in
    let lt : c.loop-index.index < length c.loop-index.pixels = search rules in (
      λ initial are.
          one_fixed (colours_in c.args.table.now) c.args.under initial c.loop-index.pixels c.fix_one.new.pixels
          c.loop-index.index _ lt refl (i.0 initial are) c.fix_one.ensures,
      below_one (length (colours_in c.args.table.now)) _ c.loop-index.pixels c.fix_one.new.pixels c.loop-index.index i.1
          c.fix_one.ensures,
      long_one c.loop-index.pixels c.fix_one.new.pixels c.loop-index.index _ c.fix_one.ensures ∙ i.2,
    )
