use Rattle.sixel_grammar.specs.Document.{IsDocument}
use Rattle.sixel_grammar.proofs.FollowSourceLemmas.{told_known}
use Rattle.sixel_grammar.specs.FirstPiece.{with_first}
use Rattle.sixel_show.proofs.draw.read_rest.Goals as goal

pub returns-clause-read : goal.returns-clause-read
returns-clause-read g c =
    let f = c.in_ok-follow_rest.ensures.followed tt tt in
    told_known (with_first c.args.piece.now c.args.read (g.S.Source.state c.args.input.now).remaining) f.bytes IsDocument f.known_are (f.events, f.document)
