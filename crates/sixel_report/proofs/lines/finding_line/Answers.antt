use Rattle.std.proofs.Common.{append_assoc}
use Rattle.sixel_report.proofs.lines.finding_line.Goals as goal

pub returns : goal.returns
returns c =
    rw (
      c.push.ensures.items,
      c.push_pixel.ensures.items,
      c.push_number.ensures.items,
      c.push_all-2.ensures.items,
      c.as_bytes.ensures.value,
      c.rule_name.ensures.text,
      c.push_all.ensures.items,
      c.new-line.ensures,
    )
    (simp append_assoc)
