use Rattle.std.proofs.Common.{◌≡◌, false, take}
use Rattle.std.specs.List.{list_any}
use Rattle.sixel_messages.specs.Hints.{is_same}
use Rattle.sixel_messages.proofs.hints.is_among.Given as goal

-- none of those so far is the same
abbrev pub invariant-loop-other : goal.invariant-loop-other
invariant-loop-other l = list_any (is_same l.cause) (take l.other-index l.causes) ≡ false
