use Rattle.std.proofs.Common.{append_assoc}
use Rattle.std.proofs.lemmas.List.{append-nil}
use Rattle.sixel_report.proofs.lines.push_reason.Goals as goal

pub returns-clause-items : goal.returns-clause-items
returns-clause-items c =
    rw (c.push_number.ensures.items, c.push_all-2.ensures.items, c.push_all.ensures.items, c.as_bytes.ensures.value)
    (simp (append_assoc, append-nil))
