use Rattle.std.proofs.Common.{◌≡◌, ◌≤◌, ◌++◌, ℕ, List, take}
use Rattle.std.specs.Io.KnownBytes.{Consumes}
use Rattle.sixel_grammar.specs.FirstPiece.{IsFirst, with_first}
use Rattle.sixel_grammar.specs.Standing.{left_of}
use Rattle.sixel_grammar.proofs.PiecesLemmas.{Reads}
use Rattle.sixel_grammar.proofs.pieces.read_rest.Given as goal

abbrev pub invariant-loop-count : goal.invariant-loop-count
invariant-loop-count g l =
    (prefix : List ℕ) × Reads g.P.PieceReader.has_read l.fn.follower l.fn.pieces l.reader l.follower l.pieces prefix
    × Consumes (with_first l.fn.piece l.fn.read (g.I.Source.state l.fn.input).remaining)
    (g.I.Source.state l.input).remaining (prefix ++ take l.count l.piece)
    × IsFirst l.piece l.count (g.I.Source.state l.input).remaining
    × ((g.I.Source.state l.input).failures ≡ (g.I.Source.state l.fn.input).failures)
    × (l.count ≤ 65536)

abbrev pub decreases-loop-count : goal.decreases-loop-count
decreases-loop-count g l = left_of l.reader
