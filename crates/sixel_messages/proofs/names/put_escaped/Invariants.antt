use Rattle.std.proofs.Common.{◌≡◌, ◌++◌, List, ℕ, length}
use Rattle.json.specs.Print.{escape}
use Rattle.sixel_io.proofs.SinkLemmas.{Written}
use Rattle.sixel_messages.proofs.names.put_escaped.Given as goal

-- the name is a first part, which was written, and the rest
abbrev pub invariant-loop-rest : goal.invariant-loop-rest
invariant-loop-rest g l =
    (first : List ℕ) × (l.initial.name ≡ first ++ l.rest)
    × Written (g.K.Sink.state l.initial.out) (g.K.Sink.state l.out) (escape first)

abbrev pub decreases-loop-rest : goal.decreases-loop-rest
decreases-loop-rest g l = length l.rest
