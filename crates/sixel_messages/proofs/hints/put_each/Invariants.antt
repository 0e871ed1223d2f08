use Rattle.std.proofs.Common.{map, take}
use Rattle.sixel_io.specs.Devices.{change}
use Rattle.sixel_messages.specs.Puts.{ArePut}
use Rattle.sixel_messages.specs.Hints.{hint_line}
use Rattle.sixel_messages.proofs.hints.put_each.Given as goal

-- the hints so far were put
abbrev pub invariant-loop-cause : goal.invariant-loop-cause
invariant-loop-cause g l =
    ArePut (map (hint_line l.profile) (take l.cause-index l.causes))
    (change (g.E.Sink.state l.fn.errors) (g.E.Sink.state l.errors))
