use Rattle.std.proofs.lemmas.Result.{IfErr-weaker, on_ok_weaker}
use Rattle.sixel_grammar.specs.Reading.{NoFaultBefore}
use Rattle.sixel_grammar.specs.Pieces.{EndsSource}
use Rattle.sixel_grammar.proofs.FirstPieceLemmas.{taken_first, told_first, unread_all}
use Rattle.sixel_grammar.proofs.PiecesLemmas.{reads_first}
use Rattle.sixel_grammar.proofs.pieces.read_source.Goals as goal

pub returns-in_err-read-clause-unread : goal.returns-in_err-read-clause-unread
returns-in_err-read-clause-unread g c = λ is.
    unread_all (g.I.Source.state c.args.input.now).remaining (g.I.Source.state c.fill.new.self).remaining
    c.in_err-read.ensures.bytes

pub returns-clause-read : goal.returns-clause-read
returns-clause-read g c =
    on_ok_weaker c.read_rest.result
    (reads_first g.P.PieceReader.has_read c.args.follower.now c.read_rest.new.follower c.args.pieces.now
    c.read_rest.new.pieces (g.I.Source.state c.args.input.now).remaining (g.I.Source.state c.fill.new.self).remaining
    c.fill.new.piece c.in_ok-read.read c.in_ok-read.ensures.bytes.0)
    c.read_rest.ensures.read

pub returns-clause-halted : goal.returns-clause-halted
returns-clause-halted g c =
    IfErr-weaker c.read_rest.result _ _
    (λ halt ends. told_first (g.I.Source.state c.args.input.now).remaining (g.I.Source.state c.fill.new.self).remaining
    c.fill.new.piece c.in_ok-read.read
    (EndsSource g.P.PieceReader.has_read g.P.PieceReader.may_end c.args.follower.now c.args.pieces.now
    c.read_rest.new.follower c.read_rest.new.pieces halt)
    c.in_ok-read.ensures.bytes.0 ends)
    c.read_rest.ensures.halted

pub returns-clause-unread : goal.returns-clause-unread
returns-clause-unread g c = λ is.
    told_first (g.I.Source.state c.args.input.now).remaining (g.I.Source.state c.fill.new.self).remaining
    c.fill.new.piece c.in_ok-read.read (NoFaultBefore (g.I.Source.state c.read_rest.new.input).remaining)
    c.in_ok-read.ensures.bytes.0 (c.read_rest.ensures.unread is)

pub returns-clause-left : goal.returns-clause-left
returns-clause-left g c =
    let l = c.read_rest.ensures.left in record {
      read = (
        l.read.0,
        taken_first (g.I.Source.state c.args.input.now).remaining (g.I.Source.state c.fill.new.self).remaining
            (g.I.Source.state c.read_rest.new.input).remaining c.fill.new.piece c.in_ok-read.read l.read.0
            c.in_ok-read.ensures.bytes.0 l.read.1,
      );
      ended = l.ended;
    }
