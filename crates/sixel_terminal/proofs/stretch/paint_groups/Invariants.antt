use Rattle.std.proofs.Common.{◌≤◌, ◌-◌, length, take}
use Rattle.sixel_terminal.specs.Stretches.{IsStretchPainted}
use Rattle.sixel_terminal.proofs.stretch.paint_groups.Given as goal

abbrev pub invariant-loop-done : goal.invariant-loop-done
invariant-loop-done l = record {
  within : l.done ≤ length l.bytes;
  painted : IsStretchPainted 6 l.width l.left l.top (take l.done l.bytes) l.ink l.initial.pixels l.pixels;
}

abbrev pub decreases-loop-done : goal.decreases-loop-done
decreases-loop-done l = length l.bytes - l.done
