use Rattle.std.proofs.Common.{ap, arith}
use Rattle.std.proofs.lemmas.List.{take_all}
use Rattle.std.proofs.lemmas.Result.{err_from_is_err_and}
use Rattle.sixel_grammar.specs.Stretches.{sixels_from}
use Rattle.sixel_io.proofs.SinkLemmas.{through-done, through-next, through-none, through-stopped}
use Rattle.sixel_report.specs.Texts.{list_text}
use Rattle.sixel_list.proofs.ListingLemmas.{sixels-part, sixels-parts}
use Rattle.sixel_list.proofs.list_lines.put_sixels.Goals as goal

pub loop-done-init : goal.loop-done-init
loop-done-init g c = through-none

pub loop-done-preserved : goal.loop-done-preserved
loop-done-preserved g c =
    through-next (sixels-part c.args.place c.loop-done.done c.min-end.result c.args.bytes.now (omega arith))
    c.loop-done.invariant c.in_ok-put_few.ensures

pub returns-in_err-put_few : goal.returns-in_err-put_few
returns-in_err-put_few g c =
    let failed = err_from_is_err_and c.from_residual.result c.from_residual.ensures.1 in
    let cut = sixels-parts c.args.place c.loop-done.done c.min-end.result c.args.bytes.now (omega arith) in
    rw failed.1 (through-stopped cut.0 cut.1 c.loop-done.invariant c.in_err-put_few.ensures)

pub returns : goal.returns
returns g c =
    through-done
    (ap (λ t. list_text (sixels_from c.args.place t)) (take_all c.loop-done.done c.args.bytes.now (omega arith)))
    c.loop-done.invariant
