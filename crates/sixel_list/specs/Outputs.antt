-- What `list` writes and answers.
use Rattle.std.specs.Prelude.{◌≡◌, ℕ, List, ◌≤◌, length, take, Option, Some, Result, Ok, Err}
use Rattle.std.specs.Io.KnownBytes.{Appends, Consumes}
use Rattle.sixel_grammar.specs.declared.command.Placed.{Placed}
use Rattle.sixel_grammar.specs.Document.{Document, most_bytes}
use Rattle.sixel_grammar.specs.Prefixes.{CompleteIn}
use Rattle.sixel_grammar.specs.Faults.{IsFaultOf}
use Rattle.sixel_report.specs.declared.fault.RunFault.{RunFault}
use Rattle.sixel_report.specs.declared.fault.RunFault.TheVariants.{Grammar}
use Rattle.sixel_report.specs.declared.task.Status.{Status}
use Rattle.sixel_report.specs.declared.task.Status.TheVariants.{Done}
use Rattle.sixel_report.specs.Texts.{Text, list_text}

-- the lines of the events that are complete in the bytes
abbrev pub ListsPrefix : List ℕ → Text → Type 0
ListsPrefix bytes text = (events : List Placed) × CompleteIn events bytes × (text ≡ list_text events)

-- for a document the lines of its events; for other bytes their fault, and the lines of the events complete before it
abbrev pub ListGives : List ℕ → Text → Result Status RunFault → Type 0
ListGives bytes text (Ok status) = (status ≡ Done)
    × ((events : List Placed) × Document events bytes × (text ≡ list_text events))
ListGives bytes text (Err (Grammar fault)) = IsFaultOf bytes fault × ListsPrefix (take fault.place bytes) text
ListGives bytes text (Err fault) = ⊥

-- the lines of the events that are complete in the bytes given so far, those before `left`, were appended; these bytes
-- are viable and within the length limit
abbrev pub ListsUnread : List ℕ → Option (List ℕ) → Option (List ℕ) → Option (List ℕ) → Type 0
ListsUnread bytes left had has =
    (given : List ℕ) × (text : Text) × Consumes (Some bytes) left given
    × ((length given ≤ most_bytes) × ListsPrefix given text) × Appends had has text
