use Rattle.std.proofs.Common.{◌+◌, ◌<◌, ◌∙◌, true, false, length, refl, sym}
use Rattle.sixel_report.proofs.FirstAskedLemmas.{first_more}
use Rattle.sixel_report.proofs.first_finding.first_asked.Goals as goal
use Rattle.sixel_report.proofs.first_finding.first_asked.Goals.{then-is_before, else-is_before}

pub loop-entry-preserved : goal.loop-entry-preserved
loop-entry-preserved c =
    let i = c.loop-entry.entry-index in
    let entries = c.args.entries.now in
    let lt : i < length entries = c.loop-entry-test.true in
    elim c.if-is_before.branch [
      | then-is_before w ↦
          rw w.first-is
          (first_more entries i (i + 1) _ c.loop-entry.first true lt refl
          (sym c.is_before.ensures ∙ w.if-is_before.true) c.loop-entry.invariant)
      | else-is_before w ↦
          rw w.first-is
          (first_more entries i (i + 1) _ c.loop-entry.first false lt refl
          (sym c.is_before.ensures ∙ w.if-is_before.false) c.loop-entry.invariant)
    ]
