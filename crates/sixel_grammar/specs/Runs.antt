-- Columns that a reader takes at once, perhaps after a select; or a select that stays open.
use Rattle.std.specs.Prelude.{◌≡◌, ◌≢◌, ℕ, ◌+◌, ◌-◌, ◌<◌, ◌≤◌, true, false, List, [], ◌∷◌, ◌++◌, length, slice_index}
use Rattle.std.specs.Prelude.{take, drop, Option, Some, None}
use Rattle.sixel_grammar.specs.Bytes.{is_data, is_digit}
use Rattle.sixel_grammar.specs.Document.{most_bytes}
use Rattle.sixel_grammar.specs.Faults.{Form, NoCommand, ColourFields, RepeatNumber, EndsIn, is_idle}
use Rattle.sixel_grammar.specs.Next.{number_next, within}
use Rattle.sixel_grammar.specs.declared.command.Columns.{Columns}
use Rattle.sixel_grammar.specs.declared.command.Columns.TheVariants as columns
use Rattle.sixel_grammar.specs.declared.command.Command.TheVariants.{Repeat, Select}
use Rattle.sixel_grammar.specs.declared.command.Event.TheVariants.{Step}
use Rattle.sixel_grammar.specs.declared.command.Placed.{Placed}
use Rattle.sixel_grammar.specs.declared.command.Run.{Run}
use Rattle.sixel_grammar.specs.declared.command.TwoCommands.{TwoCommands}
use Rattle.sixel_grammar.specs.declared.reader.Reader.{Reader}
use Rattle.sixel_grammar.specs.Standing.{StandsAfter}
use Rattle.sixel_grammar.specs.Stretches.{sixels_from}

-- the bytes of the columns, if the run is at the beginning of the piece
abbrev pub columns_in : Run → List ℕ → List ℕ
columns_in run piece = take (run.length - run.start) (drop run.start piece)

-- a select at this offset, if there is one
abbrev pub select_events : ℕ → Option ℕ → List Placed
select_events place None = []
select_events place (Some register) = record { place = place; event = Step (Select register) } ∷ []

-- the sixels of these bytes, the repeat, or nothing; the first byte has this offset
abbrev pub column_events : ℕ → Columns → List ℕ → List Placed
column_events place columns.Missing bytes = []
column_events place columns.Sixels bytes = sixels_from place bytes
column_events place (columns.Repeat count bits) bytes = record { place = place; event = Step (Repeat count bits) } ∷ []

-- the events of a run at the beginning of the piece
abbrev pub events_of_run : Run → List ℕ → List Placed
events_of_run run piece = select_events run.place run.select
    ++ column_events (run.place + run.start) run.columns (columns_in run piece)

-- whatever the reader had read, its next byte has the run's offset, and it has read the run too
abbrev pub TakesRun : Reader → Reader → Run → List ℕ → Type 0
TakesRun old new run piece =
    (events : List Placed) (bytes : List ℕ) → StandsAfter old events bytes →
    (run.place ≡ length bytes) × StandsAfter new (events ++ events_of_run run piece) (bytes ++ take run.length piece)

-- whatever the reader had read: if no command is open then, and a byte may come, the piece begins with no sixel and no
-- select; if with `!`, no reader can take a part of the piece and complete a repeat
abbrev pub IsNoRun : Reader → List ℕ → Type 0
IsNoRun old piece =
    (events : List Placed) (bytes : List ℕ) → StandsAfter old events bytes → EndsIn NoCommand events (length bytes) bytes
    → length bytes < most_bytes → 0 < length piece →
    (is_data (slice_index piece 0) ≡ false) × (slice_index piece 0 ≢ 35)
    × (slice_index piece 0 ≡ 33 → (after : Reader) (k place count bits : ℕ)
    → StandsAfter after (events ++ record { place = place; event = Step (Repeat count bits) } ∷ []) (bytes ++ take k piece)
    → ⊥)

abbrev pub two_commands : TwoCommands → List Placed
two_commands two =
    record { place = two.place; event = Step two.ended }
    ∷ record { place = two.own_place; event = Step two.own } ∷ []

-- ---- only contracts of private functions cite the rest

-- the run of a select that is open after these many bytes, the first at this offset
abbrev pub open_run : ℕ → ℕ → Run
open_run place count =
    record { place = place; select = None; start = 0; length = count; columns = columns.Missing }

-- if no command is open before the piece, and its first byte has the offset `place`: after the first k bytes this is
-- open, it began at `opened`, and these events are complete
abbrev pub LeadsTo : ℕ → List ℕ → ℕ → Form → List Placed → ℕ → Type 0
LeadsTo place piece k form done opened =
    (events : List Placed) (bytes : List ℕ) → place ≡ length bytes → EndsIn NoCommand events place bytes
    → EndsIn form (events ++ done) opened (bytes ++ take k piece)

-- forms with an open number
abbrev pub HasNumber : (ℕ → Form) → Type 0
HasNumber form = (n b : ℕ) → (is_digit b ≡ true → within (form n) b ≡ number_next form n b) × (is_idle (form n) ≡ false)

-- wherever a number has no digits yet, these bytes of the piece make it this value
abbrev pub ReadsNumber : List ℕ → ℕ → ℕ → ℕ → Type 0
ReadsNumber piece from end value =
    (place opened : ℕ) (done : List Placed) (form : ℕ → Form) → HasNumber form
    → LeadsTo place piece from (form 0) done opened → LeadsTo place piece end (form value) done opened

-- what is open after a select, and where it began; without one nothing is, and the next byte has the index `from`
abbrev pub selected : Option ℕ → Form
selected None = NoCommand
selected (Some register) = ColourFields [] register

abbrev pub selected_at : ℕ → ℕ → Option ℕ → ℕ
selected_at place from None = place + from
selected_at place from (Some register) = place

-- the piece begins with this select, if any, which is open still
abbrev pub ReadsSelect : List ℕ → ℕ → Option ℕ → Type 0
ReadsSelect piece end select =
    (place : ℕ) → LeadsTo place piece end (selected select) [] (selected_at place end select)

-- wherever no command or only a select is open, these bytes of the piece end it and are the columns
abbrev pub ReadsColumns : List ℕ → ℕ → ℕ → Columns → Type 0
ReadsColumns piece from end cols =
    (place : ℕ) (select : Option ℕ) → LeadsTo place piece from (selected select) [] (selected_at place from select)
    → LeadsTo place piece end NoCommand
    (select_events place select ++ column_events (place + from) cols (take (end - from) (drop from piece)))
    (place + end)

-- the introducer at this index has no repeat behind it: its digits end the piece, or what follows them can't
abbrev pub EndsNoRepeat : List ℕ → ℕ → Type 0
EndsNoRepeat piece from =
    (end : ℕ) × (value : ℕ) × (from < end) × (end ≤ length piece) × ReadsNumber piece (from + 1) end value
    × (end < length piece → within (RepeatNumber value) (slice_index piece end) ≡ None)

-- the piece begins with the run
abbrev pub IsRun : Run → List ℕ → Type 0
IsRun run piece = LeadsTo run.place piece run.length NoCommand (events_of_run run piece) (run.place + run.length)
