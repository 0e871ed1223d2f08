use Rattle.std.proofs.Common.{◌≡◌, ℕ, List}
use Rattle.std.specs.Io.KnownBytes.{Consumes}
use Rattle.sixel_grammar.specs.Standing.{StandsAfter, left_of}
use Rattle.sixel_grammar.proofs.reading.read_all.Given as goal

abbrev pub invariant-loop-events : goal.invariant-loop-events
invariant-loop-events g l =
    (prefix : List ℕ) × StandsAfter l.reader l.events.items prefix
    × Consumes (g.S.Source.state l.fn.input).remaining (g.S.Source.state l.input).remaining prefix
    × ((g.S.Source.state l.input).failures ≡ (g.S.Source.state l.fn.input).failures)

abbrev pub decreases-loop-events : goal.decreases-loop-events
decreases-loop-events g l = left_of l.reader
