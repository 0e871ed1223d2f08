-- The last line of a check of several files: how many of them failed.
use Rattle.std.specs.Prelude.{◌&&◌, ◌||◌, ◌∷◌, ◌==◌, ℕ, Bool, true, false, [], codes, decimal, if◌then◌else◌, nat_lt}
use Rattle.std.specs.Prelude.{Result, Ok}
use Rattle.sixel_report.specs.declared.wanted_lines.Lines.{Lines}
use Rattle.sixel_report.specs.declared.wanted_lines.Lines.TheVariants.{Json, Nothing, Plain}
use Rattle.sixel_report.specs.declared.fault.RunFault.{RunFault}
use Rattle.sixel_report.specs.declared.task.Status.{Status}
use Rattle.sixel_report.specs.declared.task.Status.TheVariants.{Done, Noted}
use Rattle.sixel_report.specs.declared.task.Task.{Task}
use Rattle.sixel_report.specs.declared.task.Task.TheVariants.{Check, Survey}
use Rattle.sixel_report.specs.Texts.{Text, line}

-- whether an input with this answer isn't portable: a rule is broken, or it is refused
abbrev pub has_failed : Result Status RunFault → Bool
has_failed (Ok Done) = false
has_failed (Ok (Noted note)) = false
has_failed answer = true

-- whether a last line counts the files: if messages are shown or only failures are wanted, but not after a quiet check
abbrev pub is_counted : Lines → Bool → Bool
is_counted (Nothing json) is_shown = false
is_counted (Plain only_failed) is_shown = only_failed || is_shown
is_counted (Json only_failed) is_shown = only_failed || is_shown

-- whether only the lines of failures are wanted
abbrev pub wants_failures : Lines → Bool
wants_failures (Nothing json) = false
wants_failures (Plain only_failed) = only_failed
wants_failures (Json only_failed) = only_failed

-- what follows the numbers in the line of so many failed files
abbrev pub count_words : ℕ → Text
count_words failed = if failed == 1 then codes "files isn't portable" else codes "files aren't portable"

-- the line that says how many of the files failed
abbrev pub count_line : ℕ → ℕ → Text
count_line failed all =
    line (codes "sixel:") (decimal failed ∷ codes "of" ∷ decimal all ∷ count_words failed ∷ [])

-- the line of a task over so many inputs, of which so many failed: only a check of two or more has one, and a survey of
-- which only the failures are wanted
abbrev pub count_of : Task → Lines → Bool → ℕ → ℕ → Text
count_of (Check profile named) lines is_shown failed all =
    if nat_lt 1 all && is_counted lines is_shown then count_line failed all else []
count_of (Survey profile named) lines is_shown failed all =
    if nat_lt 1 all && wants_failures lines then count_line failed all else []
count_of t lines is_shown failed all = []
