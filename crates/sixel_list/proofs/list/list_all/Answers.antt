use Rattle.std.proofs.Common.{◌∙◌, ◌++◌, [], take, sym, arith, length-append, refl}
use Rattle.std.proofs.KnownBytes.{Consumes-nil}
use Rattle.std.proofs.lemmas.List.{length-take}
use Rattle.std.proofs.lemmas.Result.{err_from_is_err_and}
use Rattle.sixel_grammar.proofs.SourceLemmas.{consumes-then}
use Rattle.sixel_list.proofs.ListingLemmas.{lists-nothing}
use Rattle.sixel_list.proofs.OutputLemmas.{all-written, ended-early, ended-well, halt-same, halt-writes, no-memory}
use Rattle.sixel_list.proofs.OutputLemmas.{no-read, stopped, unread}
use Rattle.sixel_list.proofs.list.list_all.Goals as goal

pub loop-count-init : goal.loop-count-init
loop-count-init g c = record {
  followed = (
    [],
    record {
      events = [];
      read = c.new-reader.ensures;
      taken = lists-nothing g.K.Sink.state c.args.listing.now;
    },
    Consumes-nil (g.S.Source.state c.args.input.now).remaining,
  );
  drained = c.requires;
  reads = refl;
}

-- ---- a failure of the source

pub returns-in-Err-clause-wrote : goal.returns-in-Err-clause-wrote
returns-in-Err-clause-wrote g c =
    let i = c.loop-count.invariant in
    let a = i.followed.1 in
    unread _ (g.S.Source.state c.loop-count.input).remaining (g.S.Source.state c.fill.new.self).remaining _ _
    i.followed.0 a.events c.loop-count.reader i.followed.2 c.in-Err.ensures.bytes a.read
    (all-written g.K.Sink.state c.args.listing.now c.loop-count.listing a.events c.requires i.drained a.taken)

pub returns-in-Err-clause-writes : goal.returns-in-Err-clause-writes
returns-in-Err-clause-writes g c = c.loop-count.invariant.followed.1.taken.put.failures

pub returns-in-Err-clause-same_out : goal.returns-in-Err-clause-same_out
returns-in-Err-clause-same_out g c = c.loop-count.invariant.followed.1.taken.same_out

-- ---- the end of the bytes

pub returns-in-Ok-finish-clause-wrote : goal.returns-in-Ok-finish-clause-wrote
returns-in-Ok-finish-clause-wrote g c =
    let i = c.loop-count.invariant in
    let a = i.followed.1 in
    let read = c.in-Ok.ensures.bytes in
    ended-well _ (g.S.Source.state c.loop-count.input).remaining (g.S.Source.state c.fill.new.self).remaining _ _
    i.followed.0 c.fill.new.piece c.in-Ok.count a.events i.followed.2 read.0 c.if-count-eq0.true
    (read.1 c.if-count-eq0.true (omega arith)) (c.in-Ok-finish.ensures.answer a.events i.followed.0 a.read)
    (all-written g.K.Sink.state c.args.listing.now c.loop-count.listing a.events c.requires i.drained a.taken)

pub returns-in-Ok-finish-clause-reads : goal.returns-in-Ok-finish-clause-reads
returns-in-Ok-finish-clause-reads g c = c.in-Ok.ensures.failures ∙ c.loop-count.invariant.reads

pub returns-in-Ok-finish-clause-writes : goal.returns-in-Ok-finish-clause-writes
returns-in-Ok-finish-clause-writes g c = c.loop-count.invariant.followed.1.taken.put.failures

pub returns-in-Ok-finish-clause-same_out : goal.returns-in-Ok-finish-clause-same_out
returns-in-Ok-finish-clause-same_out g c = c.loop-count.invariant.followed.1.taken.same_out

pub returns-in-Err-finish-clause-wrote : goal.returns-in-Err-finish-clause-wrote
returns-in-Err-finish-clause-wrote g c =
    let i = c.loop-count.invariant in
    let a = i.followed.1 in
    let read = c.in-Ok.ensures.bytes in
    let fault = c.in-Err-finish.ensures.answer a.events i.followed.0 a.read in
    ended-early _ (g.S.Source.state c.loop-count.input).remaining (g.S.Source.state c.fill.new.self).remaining _ _
    i.followed.0 c.fill.new.piece c.in-Ok.count a.events c.loop-count.reader c.in-Err-finish.fault i.followed.2 read.0
    c.if-count-eq0.true (read.1 c.if-count-eq0.true (omega arith)) a.read fault.0 fault.1
    (all-written g.K.Sink.state c.args.listing.now c.loop-count.listing a.events c.requires i.drained a.taken)

pub returns-in-Err-finish-clause-writes : goal.returns-in-Err-finish-clause-writes
returns-in-Err-finish-clause-writes g c = c.loop-count.invariant.followed.1.taken.put.failures

pub returns-in-Err-finish-clause-same_out : goal.returns-in-Err-finish-clause-same_out
returns-in-Err-finish-clause-same_out g c = c.loop-count.invariant.followed.1.taken.same_out

-- ---- the bytes of a piece

pub list_piece-requires : goal.list_piece-requires
list_piece-requires g c =
    let f = c.loop-count.invariant.followed in
    (c.args.listing.now, f.0, f.1)

pub returns-in_err-list_piece-clause-wrote : goal.returns-in_err-list_piece-clause-wrote
returns-in_err-list_piece-clause-wrote g c =
    let f = c.loop-count.invariant.followed in
    let failed = err_from_is_err_and c.from_residual.result c.from_residual.ensures.1 in
    rw (failed.1, failed.2)
    (stopped g.K.Sink.state c.args.listing.now c.loop-count.listing c.list_piece.new.listing c.loop-count.reader
    c.list_piece.new.reader _ (g.S.Source.state c.loop-count.input).remaining
    (g.S.Source.state c.fill.new.self).remaining f.0 (take c.in-Ok.count c.fill.new.piece)
    c.in_err-list_piece.field-0.0 f.2 c.in-Ok.ensures.bytes.0 c.requires f.1 c.in_err-list_piece.ensures.halted
    c.in_err-list_piece.ensures.drained)

pub returns-in_err-list_piece-clause-memory : goal.returns-in_err-list_piece-clause-memory
returns-in_err-list_piece-clause-memory g c =
    let failed = err_from_is_err_and c.from_residual.result c.from_residual.ensures.1 in
    rw (failed.1, failed.2) (no-memory c.in_err-list_piece.field-0.0)

pub returns-in_err-list_piece-clause-reads : goal.returns-in_err-list_piece-clause-reads
returns-in_err-list_piece-clause-reads g c =
    let failed = err_from_is_err_and c.from_residual.result c.from_residual.ensures.1 in
    rw (failed.1, failed.2)
    (c.in-Ok.ensures.failures ∙ c.loop-count.invariant.reads ∙ sym (no-read c.in_err-list_piece.field-0.0 _))

pub returns-in_err-list_piece-clause-writes : goal.returns-in_err-list_piece-clause-writes
returns-in_err-list_piece-clause-writes g c =
    let f = c.loop-count.invariant.followed in
    let failed = err_from_is_err_and c.from_residual.result c.from_residual.ensures.1 in
    rw (failed.1, failed.2)
    (halt-writes g.K.Sink.state c.args.listing.now c.loop-count.listing c.list_piece.new.listing c.loop-count.reader
    c.list_piece.new.reader f.0 (take c.in-Ok.count c.fill.new.piece) c.in_err-list_piece.field-0.0 f.1
    c.in_err-list_piece.ensures.halted)

pub returns-in_err-list_piece-clause-same_out : goal.returns-in_err-list_piece-clause-same_out
returns-in_err-list_piece-clause-same_out g c =
    let f = c.loop-count.invariant.followed in
    halt-same g.K.Sink.state c.args.listing.now c.loop-count.listing c.list_piece.new.listing c.loop-count.reader
    c.list_piece.new.reader f.0 (take c.in-Ok.count c.fill.new.piece) c.in_err-list_piece.field-0.0 f.1
    c.in_err-list_piece.ensures.halted

pub loop-count-smaller : goal.loop-count-smaller
loop-count-smaller g c =
    let f = c.loop-count.invariant.followed in
    let new = c.in_ok-list_piece.ensures.followed c.args.listing.now f.0 f.1 in
    omega (
      arith,
      f.1.read.left,
      new.read.left,
      length-append f.0 (take c.in-Ok.count c.fill.new.piece),
      length-take c.in-Ok.count c.fill.new.piece,
      c.in-Ok.ensures.bound,
      c.if-count-eq0.false,
    )

pub loop-count-preserved : goal.loop-count-preserved
loop-count-preserved g c =
    let i = c.loop-count.invariant in
    let f = i.followed in
    let more = take c.in-Ok.count c.fill.new.piece in
    record {
      followed = (
        f.0 ++ more,
        c.in_ok-list_piece.ensures.followed c.args.listing.now f.0 f.1,
        consumes-then _ (g.S.Source.state c.loop-count.input).remaining _ f.0 more f.2 c.in-Ok.ensures.bytes.0,
      );
      drained = c.in_ok-list_piece.ensures.drained;
      reads = c.in-Ok.ensures.failures ∙ i.reads;
    }
