use Rattle.std.proofs.Common.{drop, arith}
use Rattle.std.proofs.lemmas.List.{take_all}
use Rattle.std.proofs.lemmas.Result.{err_from_is_err_and}
use Rattle.sixel_io.proofs.SinkLemmas.{through-done, through-next, through-none, through-stopped, through-whole}
use Rattle.sixel_encode.proofs.LineLemmas.{part_next, part_cut}
use Rattle.sixel_encode.proofs.parts.put_by_parts.Goals as goal

pub loop-from-init : goal.loop-from-init
loop-from-init g c = record { put = through-none; within = omega arith }

pub loop-from-preserved : goal.loop-from-preserved
loop-from-preserved g c = record {
  put = through-next (part_next c.loop-from.from c.part_end-end.result _ c.args.columns.now (omega arith))
      c.loop-from.invariant.put (through-whole _ c.in_ok-put.ensures);
  within = c.part_end-end.ensures.within;
}

pub returns-in_err-put : goal.returns-in_err-put
returns-in_err-put g c =
    let failed = err_from_is_err_and c.from_residual.result c.from_residual.ensures.1 in
    rw failed.1
    (through-stopped (drop c.part_end-end.result c.args.columns.now)
    (part_cut c.loop-from.from c.part_end-end.result _ c.args.columns.now (omega arith))
    c.loop-from.invariant.put (through-whole _ c.in_err-put.ensures))

pub returns : goal.returns
returns g c = through-done (take_all c.loop-from.from c.args.columns.now (omega arith)) c.loop-from.invariant.put
