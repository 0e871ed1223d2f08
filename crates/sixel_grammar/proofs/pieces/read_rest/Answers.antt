use Rattle.std.proofs.Common.{◌≡◌, ◌+◌, ◌<◌, ◌++◌, [], length, take, refl, ◌∙◌, arith}
use Rattle.std.proofs.lemmas.List.{length-append, length-take-le}
use Rattle.std.proofs.lemmas.Result.{err_from_is_err_and}
use Rattle.sixel_grammar.specs.Document.{most_bytes}
use Rattle.sixel_grammar.specs.Faults.{IsFaultOf}
use Rattle.sixel_grammar.specs.FirstPiece.{with_first}
use Rattle.sixel_grammar.specs.Standing.{left_of}
use Rattle.sixel_grammar.proofs.FirstPieceLemmas.{first_read, told_end}
use Rattle.sixel_grammar.proofs.SourceLemmas.{consumes-then, no_fault_before}
use Rattle.sixel_grammar.proofs.PiecesLemmas.{ends_source, reads_more, reads_none, reads_source}
use Rattle.sixel_grammar.proofs.pieces.read_rest.Goals as goal

pub loop-count-init : goal.loop-count-init
loop-count-init g c = (
  [],
  reads_none g.P.PieceReader.has_read c.args.follower.now c.args.pieces.now c.new-reader.result c.new-reader.ensures,
  first_read c.args.piece.now c.args.read (g.I.Source.state c.args.input.now).remaining,
  c.requires.first,
  refl,
  omega (arith, c.requires.first.0),
)

-- ---- a piece

pub returns-in_err-read_piece-clause-halted : goal.returns-in_err-read_piece-clause-halted
returns-in_err-read_piece-clause-halted g c =
    let i = c.loop-count.invariant in
    let more = take c.loop-count.count c.loop-count.piece in
    let failed = err_from_is_err_and c.from_residual.result c.from_residual.ensures.1 in
    rw (failed.1, failed.2)
    (ends_source g.P.PieceReader.has_read g.P.PieceReader.may_end g.met.P.PieceReader.longer c.requires.unread.0
    c.args.follower.now c.loop-count.follower c.read_piece.new.follower c.requires.unread.1 c.args.pieces.now
    c.loop-count.pieces c.read_piece.new.self c.loop-count.reader i.0 more
    (with_first c.args.piece.now c.args.read (g.I.Source.state c.args.input.now).remaining)
    (g.I.Source.state c.loop-count.input).remaining c.in_err-read_piece.field-0.0 c.requires.unread.2 i.1 i.2
    c.in_err-read_piece.ensures.halted)

pub loop-count-smaller : goal.loop-count-smaller
loop-count-smaller g c =
    let i = c.loop-count.invariant in
    let u = c.requires.unread in
    let r = i.1 u.0 u.1 u.2 in
    let more = take c.loop-count.count c.loop-count.piece in
    let before = g.met.P.PieceReader.stands u.0 u.1 c.loop-count.reader c.loop-count.follower c.loop-count.pieces i.0 r in
    let after = g.met.P.PieceReader.stands u.0 u.1 c.read_piece.new.reader c.read_piece.new.follower
    c.read_piece.new.self (i.0 ++ more) (c.in_ok-read_piece.ensures.read u.0 u.1 i.0 r) in
    let old : left_of c.loop-count.reader + length i.0 ≡ most_bytes = before.1.left in
    let new : left_of c.read_piece.new.reader + length (i.0 ++ more) ≡ most_bytes = after.1.left in
    let some : 0 < c.loop-count.count = omega arith in
    omega (
      arith,
      old,
      new,
      some,
      length-append i.0 more,
      length-take-le c.loop-count.count c.loop-count.piece i.3.0,
    )

-- ---- the next piece

pub returns-in_err-count-clause-unread : goal.returns-in_err-count-clause-unread
returns-in_err-count-clause-unread g c = λ is.
    let i = c.loop-count.invariant in
    let u = c.requires.unread in
    let more = take c.loop-count.count c.loop-count.piece in
    let after = g.met.P.PieceReader.stands u.0 u.1 c.read_piece.new.reader c.read_piece.new.follower
    c.read_piece.new.self (i.0 ++ more)
    (c.in_ok-read_piece.ensures.read u.0 u.1 i.0 (i.1 u.0 u.1 u.2)) in
    no_fault_before (with_first c.args.piece.now c.args.read (g.I.Source.state c.args.input.now).remaining)
    (g.I.Source.state c.loop-count.input).remaining (g.I.Source.state c.fill.new.self).remaining
    c.read_piece.new.reader after.0 (i.0 ++ more) after.1 i.2 c.in_err-count.ensures.bytes

pub loop-count-preserved : goal.loop-count-preserved
loop-count-preserved g c =
    let i = c.loop-count.invariant in
    let more = take c.loop-count.count c.loop-count.piece in
    let b = c.in_ok-count.ensures.bytes in (
      i.0 ++ more,
      reads_more g.P.PieceReader.has_read c.args.follower.now c.loop-count.follower c.read_piece.new.follower
          c.args.pieces.now c.loop-count.pieces c.read_piece.new.self c.loop-count.reader c.read_piece.new.reader i.0
          more i.1 c.in_ok-read_piece.ensures.read,
      consumes-then (with_first c.args.piece.now c.args.read (g.I.Source.state c.args.input.now).remaining)
          (g.I.Source.state c.loop-count.input).remaining (g.I.Source.state c.fill.new.self).remaining (i.0 ++ more)
          (take c.in_ok-count.count c.fill.new.piece) i.2 b.0,
      (omega (arith, c.in_ok-count.ensures.bound), λ none. b.1 none (omega arith)),
      ◌∙◌ {b = (g.I.Source.state c.loop-count.input).failures} c.in_ok-count.ensures.failures i.4,
      omega (arith, c.in_ok-count.ensures.bound),
    )

-- ---- the end of the bytes

pub returns-in_err-finish-clause-halted : goal.returns-in_err-finish-clause-halted
returns-in_err-finish-clause-halted g c =
    let i = c.loop-count.invariant in
    let u = c.requires.unread in
    let none : c.loop-count.count ≡ 0 = omega arith in
    let fault = c.in_err-finish.field-0.0 in
    let failed = err_from_is_err_and c.from_residual-in_err-finish.result c.from_residual-in_err-finish.ensures.1 in
    let s = g.met.P.PieceReader.stands u.0 u.1 c.loop-count.reader c.loop-count.follower c.loop-count.pieces i.0
    (i.1 u.0 u.1 u.2) in
    rw (failed.1, failed.2)
    (told_end (with_first c.args.piece.now c.args.read (g.I.Source.state c.args.input.now).remaining)
    (g.I.Source.state c.loop-count.input).remaining i.0 c.loop-count.piece c.loop-count.count
    (λ t. IsFaultOf t fault) i.2 none (i.3.1 none) (c.in_err-finish.ensures.answer s.0 i.0 s.1).0)

pub returns-clause-read : goal.returns-clause-read
returns-clause-read g c =
    let i = c.loop-count.invariant in
    let none : c.loop-count.count ≡ 0 = omega arith in
    reads_source g.P.PieceReader.has_read c.args.follower.now c.loop-count.follower c.args.pieces.now
    c.loop-count.pieces c.loop-count.reader
    (with_first c.args.piece.now c.args.read (g.I.Source.state c.args.input.now).remaining)
    (g.I.Source.state c.loop-count.input).remaining i.0 c.loop-count.piece c.loop-count.count i.1 i.2 none (i.3.1 none)
    c.in_ok-finish.ensures.answer
