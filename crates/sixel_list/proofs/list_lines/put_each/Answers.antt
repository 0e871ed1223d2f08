use Rattle.std.proofs.Common.{ap, arith}
use Rattle.std.proofs.lemmas.List.{take_all}
use Rattle.std.proofs.lemmas.Result.{err_from_is_err_and}
use Rattle.sixel_grammar.specs.Stretches.{sixels_from}
use Rattle.sixel_io.proofs.SinkLemmas.{through-done, through-next, through-none, through-stopped}
use Rattle.sixel_report.specs.Texts.{list_text}
use Rattle.sixel_list.proofs.ListingLemmas.{sixels-cut, sixels-then}
use Rattle.sixel_list.proofs.list_lines.put_each.Goals as goal

pub loop-index-init : goal.loop-index-init
loop-index-init g c = through-none

pub loop-index-preserved : goal.loop-index-preserved
loop-index-preserved g c =
    through-next (sixels-then c.args.place c.loop-index.index c.args.bytes.now c.loop-index-test.true)
    c.loop-index.invariant c.in_ok-put_command.ensures

pub returns-in_err-put_command : goal.returns-in_err-put_command
returns-in_err-put_command g c =
    let failed = err_from_is_err_and c.from_residual.result c.from_residual.ensures.1 in
    let cut = sixels-cut c.args.place c.loop-index.index c.args.bytes.now c.loop-index-test.true in
    rw failed.1 (through-stopped cut.0 cut.1 c.loop-index.invariant c.in_err-put_command.ensures)

pub returns : goal.returns
returns g c =
    through-done
    (ap (λ t. list_text (sixels_from c.args.place t)) (take_all c.loop-index.index c.args.bytes.now (omega arith)))
    c.loop-index.invariant
