use Rattle.sixel_xterm.proofs.XTermLemmas.{xterm_push}
use Rattle.sixel_xterm.proofs.xterm.XTerm.after.Goals as goal

pub returns : goal.returns
returns c = λ before s.
    rw (
      c.after.ensures,
      c.is_past_rows.ensures before s,
      c.max.ensures,
      c.max-2.ensures,
      c.width_of.ensures,
      c.height_of.ensures,
      c.unwrap_or.ensures,
      c.second_of.ensures,
      c.is_data_command.ensures,
      c.rows_after.ensures,
    )
    (xterm_push c.args.event.now s)
