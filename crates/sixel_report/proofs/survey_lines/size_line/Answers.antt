use Rattle.std.proofs.lemmas.List.{append-nil}
use Rattle.sixel_report.proofs.survey_lines.size_line.Goals as goal

pub returns : goal.returns
returns c =
    rw (
      c.push.ensures.items,
      c.push_number-2.ensures.items,
      c.push_number.ensures.items,
      c.push_all.ensures.items,
      c.new-line.ensures,
    )
    (simp append-nil)
