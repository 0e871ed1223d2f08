use Rattle.std.specs.Prelude.{◌≡◌}
use Rattle.std.specs.Io.KnownBytes.{Consumes}
use Rattle.sixel_program.proofs.peeked.first_bytes.Given as goal

abbrev pub invariant-loop : goal.invariant-loop
invariant-loop g l =
    Consumes (g.S.Source.state l.fn.source).remaining (g.S.Source.state l.source).remaining l.prefix.items
    × ((g.S.Source.state l.source).failures ≡ (g.S.Source.state l.fn.source).failures)
