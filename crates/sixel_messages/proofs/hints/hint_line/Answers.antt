use Rattle.std.proofs.Common.{append_assoc}
use Rattle.sixel_messages.proofs.hints.hint_line.Goals as goal

pub returns : goal.returns
returns c =
    rw (
      c.push.ensures.items,
      c.push_all-4.ensures.items,
      c.as_bytes-2.ensures.value,
      c.option_hint.ensures.text,
      c.push_all-3.ensures.items,
      c.push_all-2.ensures.items,
      c.as_bytes.ensures.value,
      c.cause_name.ensures.text,
      c.push_all.ensures.items,
      c.new-line.ensures,
    )
    (simp append_assoc)
