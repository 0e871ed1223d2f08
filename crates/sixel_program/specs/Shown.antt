-- Which messages come last.
use Rattle.std.specs.Prelude.{Bool, not}
use Rattle.sixel_report.specs.declared.wanted_lines.Lines.{Lines}
use Rattle.sixel_messages.specs.declared.shown.Shown.{Shown}
use Rattle.sixel_program.specs.declared.terminals.Terminals.{Terminals}
use Rattle.sixel_report.specs.Lines.{is_quiet}

-- which messages come last in a request with these lines at these terminals, which asks for hints or doesn't
abbrev pub shown_at : Terminals → Lines → Bool → Shown
shown_at terminals lines explains =
    record { is_terminal = terminals.errors; explains = explains; notes = not (is_quiet lines) }
