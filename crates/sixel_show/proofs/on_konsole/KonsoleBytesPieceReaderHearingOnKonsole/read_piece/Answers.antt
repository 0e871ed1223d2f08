use Rattle.std.proofs.lemmas.Result.{err_from_is_err_and}
use Rattle.sixel_show.proofs.OnKonsoleLemmas.{drawing_halts, kept_on}
use Rattle.sixel_show.proofs.on_konsole.KonsoleBytesPieceReaderHearingOnKonsole.read_piece.Goals as goal

pub read_piece-requires-clause-before : goal.read_piece-requires-clause-before
read_piece-requires-clause-before c = let b = c.requires.before in (b.0, b.1.looking, b.2, b.3.drawn)

pub returns-in_err-read_piece-clause-halted : goal.returns-in_err-read_piece-clause-halted
returns-in_err-read_piece-clause-halted c =
    let failed = err_from_is_err_and c.from_residual.result c.from_residual.ensures.1 in
    rw (failed.1, failed.2)
    (drawing_halts c.args.reader.now c.args.konsole.now c.read_piece.new.hearing c.args.self.now
    (record c.args.self.now { looking = c.read_piece.new.self }) c.args.piece.now c.in_err-read_piece.field-0.0
    c.in_err-read_piece.ensures.halted)

pub returns-clause-read : goal.returns-clause-read
returns-clause-read c = λ first start bytes read.
    let drawn = c.in_ok-read_piece.ensures.read first start.looking bytes read.drawn in record {
      drawn = drawn;
      suffices = λ taken kept.
          kept_on start.looking.hears c.args.reader.now c.read_piece.new.reader read.drawn.1.events drawn.1.events bytes
          c.args.piece.now c.read_piece.new.hearing.listener.other c.replace-kept.result c.kept_after.result
          read.drawn.1.read drawn.1.read (drawn.1.taken.1.1 taken)
          (rw c.replace-kept.ensures.value (read.suffices taken kept)) c.kept_after.ensures;
    }
