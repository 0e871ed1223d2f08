use Rattle.std.proofs.Common.{[], refl}
use Rattle.sixel_terminal.proofs.DrawLemmas.{stands_start}
use Rattle.sixel_terminal.proofs.RunLemmas.{runs_seen}
use Rattle.sixel_terminal.proofs.drawing.Drawing.new.Goals as goal

pub invariant_of-result : goal.invariant_of-result
invariant_of-result c = (
  [],
  record {
    stands = rw c.in_ok-colours.ensures
        (stands_start c.args.terminal c.first_pen-pen.result c.in_ok-pixels.pixels.items
        (runs_seen _ _ _ _ c.terminal.view_is c.terminal.invariant) c.first_pen-pen.ensures c.in_ok-pixels.ensures);
    controls = refl;
  },
)

pub returns-clause-drawn : goal.returns-clause-drawn
returns-clause-drawn c = record {
  stands = rw c.in_ok-colours.ensures
      (stands_start c.args.terminal c.first_pen-pen.result c.in_ok-pixels.pixels.items
      (runs_seen _ _ _ _ c.terminal.view_is c.terminal.invariant) c.first_pen-pen.ensures c.in_ok-pixels.ensures);
  controls = refl;
}
