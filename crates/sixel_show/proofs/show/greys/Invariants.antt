use Rattle.std.proofs.Common.{◌≡◌, map}
use Rattle.std.specs.List.{range_with_len}
use Rattle.sixel_show.specs.Screens.{grey, percent_at}
use Rattle.sixel_show.proofs.show.greys.Given as goal

abbrev pub invariant-loop-register : goal.invariant-loop-register
invariant-loop-register l =
    l.colours.items ≡ map (λ register. grey (percent_at l.profile register)) (range_with_len 0 l.register)
