use Rattle.std.proofs.Common.{◌≡◌, ◌<◌, ◌++◌, length, take, sym, ap, subst, ◌∙◌, arith}
use Rattle.std.proofs.lemmas.List.{append-nil}
use Rattle.std.proofs.lemmas.Result.{err_from_is_err_and}
use Rattle.sixel_grammar.specs.Faults.{IsFaultOf}
use Rattle.sixel_grammar.specs.Reading.{Explains}
use Rattle.sixel_grammar.specs.declared.fault.InputFault.TheVariants.{Grammar}
use Rattle.sixel_grammar.proofs.SourceLemmas.{consumes-then, all_read, no_fault_before, refused_early, take_none}
use Rattle.sixel_grammar.proofs.reading.read_all.Goals as goal

pub returns-in_err-finish-clause-refused : goal.returns-in_err-finish-clause-refused
returns-in_err-finish-clause-refused g c =
    let i = c.loop-events.invariant in
    let b = c.in_ok-count.ensures.bytes in
    let z : c.in_ok-count.count ≡ 0 = omega arith in
    let none = take_none c.in_ok-count.count c.fill.new.piece z in
    let some : 0 < length c.fill.new.piece = omega arith in
    let failed = err_from_is_err_and c.from_residual-in_err-finish.result c.from_residual-in_err-finish.ensures.1 in
    rw (failed.1, failed.2)
    (all_read _ _ (i.0 ++ take c.in_ok-count.count c.fill.new.piece)
    (Explains (Grammar c.in_err-finish.field-0.0))
    (consumes-then _ _ _ i.0 (take c.in_ok-count.count c.fill.new.piece) i.2 b.0) (b.1 z some)
    (subst (λ t. IsFaultOf t c.in_err-finish.field-0.0) (sym (ap (λ t. i.0 ++ t) none ∙ append-nil i.0))
    (c.in_err-finish.ensures.answer c.loop-events.events.items i.0 i.1).0))

pub returns-in_err-count-clause-unread : goal.returns-in_err-count-clause-unread
returns-in_err-count-clause-unread g c = λ is.
    let i = c.loop-events.invariant in
    no_fault_before _ _ _ c.loop-events.reader c.loop-events.events.items i.0 i.1 i.2 c.in_err-count.ensures.bytes

pub returns-in_err-read_piece-clause-refused : goal.returns-in_err-read_piece-clause-refused
returns-in_err-read_piece-clause-refused g c =
    let i = c.loop-events.invariant in
    let exit = c.from_residual-in_err-read_piece in
    let failed = err_from_is_err_and exit.result exit.ensures.1 in
    rw (failed.1, failed.2)
    (refused_early _ _ _ (i.0 ++ take c.in_ok-count.count c.fill.new.piece)
    (consumes-then _ _ _ i.0 (take c.in_ok-count.count c.fill.new.piece) i.2 c.in_ok-count.ensures.bytes.0)
    (c.in_err-read_piece.ensures.refused i.0 i.1))

pub loop-events-preserved : goal.loop-events-preserved
loop-events-preserved g c =
    let i = c.loop-events.invariant in (
      i.0 ++ take c.in_ok-count.count c.fill.new.piece,
      c.in_ok-read_piece.ensures.read i.0 i.1,
      consumes-then _ _ _ i.0 (take c.in_ok-count.count c.fill.new.piece) i.2 c.in_ok-count.ensures.bytes.0,
      cc (c.in_ok-count.ensures.failures, i.3),
    )

pub returns-then-count-eq0-clause-failures : goal.returns-then-count-eq0-clause-failures
returns-then-count-eq0-clause-failures g c = cc (c.in_ok-count.ensures.failures, c.loop-events.invariant.3)
