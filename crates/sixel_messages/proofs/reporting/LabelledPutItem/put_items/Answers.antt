use Rattle.std.proofs.lemmas.Result.{err_from_is_err_and}
use Rattle.std.specs.Prelude.{option_copied}
use Rattle.sixel_io.proofs.SinkLemmas.{writes-done, writes-next, writes-stopped}
use Rattle.sixel_report.proofs.ItemLemmas.{written_all, written_more}
use Rattle.sixel_messages.specs.Reports.{written_for}
use Rattle.sixel_messages.proofs.reporting.LabelledPutItem.put_items.Goals as goal

pub loop-said-preserved : goal.loop-said-preserved
loop-said-preserved g c =
    writes-done
    (written_more (written_for c.args.self.now.lines (option_copied c.args.self.now.label)) c.args.items.now
    c.loop-said.said-index _ c.loop-said-test.true)
    (writes-next c.loop-said.invariant c.in_ok-put_item.ensures)

pub returns-in_err-put_item : goal.returns-in_err-put_item
returns-in_err-put_item g c =
    let failed = err_from_is_err_and c.from_residual.result c.from_residual.ensures.1 in
    rw failed.1
    (writes-stopped _
    (written_all (written_for c.args.self.now.lines (option_copied c.args.self.now.label)) c.args.items.now
    c.loop-said.said-index _ c.loop-said-test.true)
    c.loop-said.invariant c.in_err-put_item.ensures)
