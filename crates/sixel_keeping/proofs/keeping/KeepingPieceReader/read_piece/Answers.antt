use Rattle.std.proofs.lemmas.Result.{err_from_is_err_and}
use Rattle.sixel_grammar.proofs.PiecesLemmas.{halts_piece}
use Rattle.sixel_io.proofs.KeptLemmas.{kept-more}
use Rattle.sixel_keeping.specs.Keeping.{HasKept}
use Rattle.sixel_keeping.proofs.keeping.KeepingPieceReader.read_piece.Goals as goal

pub returns-in_err-follow_bytes-clause-halted : goal.returns-in_err-follow_bytes-clause-halted
returns-in_err-follow_bytes-clause-halted g c =
    let failed = err_from_is_err_and c.from_residual.result c.from_residual.ensures.1 in
    rw (failed.1, failed.2)
    (halts_piece g.F.Follower.has_taken g.F.Follower.may_stop (HasKept g.F.Follower.has_taken)
    (λ first start reader f w bytes read. read.0) c.args.reader.now c.follow_bytes.new.reader c.args.follower.now
    c.follow_bytes.new.follower c.args.self.now c.args.self.now c.args.piece.now c.in_err-follow_bytes.field-0.0
    c.in_err-follow_bytes.ensures.halted)

pub returns-clause-read : goal.returns-clause-read
returns-clause-read g c = λ first start bytes read. (
  c.in_ok-follow_bytes.ensures.followed first bytes read.0,
  kept-more (λ k. k.items) c.take.result c.kept_with.result bytes c.args.piece.now c.kept_with.ensures.longer
      c.kept_with.ensures.some (rw c.take.ensures.value read.1),
)
