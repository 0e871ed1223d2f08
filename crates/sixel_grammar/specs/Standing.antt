-- What a reader has read. Other crates use `StandsAfter` as a whole: they look neither into it nor at a reader's
-- fields.
use Rattle.std.specs.Prelude.{◌≡◌, ℕ, ◌+◌, List, [], ◌∷◌, ◌++◌, length, Option, Some, None, Bool, true, false}
use Rattle.std.specs.Prelude.{if◌then◌else◌}
use Rattle.std.specs.Option.{option_to_list}
use Rattle.sixel_grammar.specs.declared.command.Command.TheVariants.{Sixel, Repeat}
use Rattle.sixel_grammar.specs.declared.command.Event.{Event}
use Rattle.sixel_grammar.specs.declared.command.Event.TheVariants.{Step}
use Rattle.sixel_grammar.specs.declared.command.Placed.{Placed}
use Rattle.sixel_grammar.specs.declared.command.Completed.{Completed}
use Rattle.sixel_grammar.specs.declared.fault.Fault.{Fault}
use Rattle.sixel_grammar.specs.declared.reader.Reader.{Reader}
use Rattle.sixel_grammar.specs.Document.{most_bytes}
use Rattle.sixel_grammar.specs.Faults.{EndsIn, IsFaultOf, is_idle}
use Rattle.sixel_grammar.specs.Pending.{form_of}

-- the events that one byte completed, in order
abbrev pub completions : Completed → List Placed
completions c = option_to_list c.first ++ option_to_list c.second

-- how many more bytes may come
abbrev pub left_of : Reader → ℕ
left_of reader = reader.left

abbrev pub fault_of : Reader → Option Fault
fault_of reader = reader.fault

-- where what is open began, after n bytes; n if nothing is open
abbrev pub opened_after : ℕ → Reader → ℕ
opened_after n reader = if is_idle (form_of reader.pending) then n else reader.opened

-- the reader has no fault, and has read these bytes, in which these events are complete
pub record StandsAfter (reader : Reader) (events : List Placed) (bytes : List ℕ) : Type 0 where
  pub no_fault : reader.fault ≡ None
  pub left : left_of reader + length bytes ≡ most_bytes
  pub ends : EndsIn (form_of reader.pending) events (opened_after (length bytes) reader) bytes

-- whatever the reader had read, it has read one more byte, and the byte completes these events
abbrev pub Takes : Reader → Reader → ℕ → List Placed → Type 0
Takes old new byte done =
    (events : List Placed) (bytes : List ℕ) → StandsAfter old events bytes →
    StandsAfter new (events ++ done) (bytes ++ byte ∷ [])

abbrev pub is_columns : Event → Bool
is_columns (Step (Sixel bits)) = true
is_columns (Step (Repeat count bits)) = true
is_columns _ = false

abbrev pub is_command : Event → Bool
is_command (Step command) = true
is_command _ = false

-- no event, or only a sixel or a repeat
abbrev pub are_plain : List Placed → Bool
are_plain [] = true
are_plain (p ∷ []) = is_columns p.event
are_plain _ = false

-- whatever the reader had read, no reader can take the byte and complete nothing, or only a sixel or a repeat
abbrev pub IsNotPlain : Reader → ℕ → Type 0
IsNotPlain old byte =
    (after : Reader) (events done : List Placed) (bytes : List ℕ) → StandsAfter old events bytes →
    are_plain done ≡ true → StandsAfter after (events ++ done) (bytes ++ byte ∷ []) → ⊥

-- no event, or one command
abbrev pub are_one_command : List Placed → Bool
are_one_command [] = true
are_one_command (p ∷ []) = is_command p.event
are_one_command _ = false

-- whatever the reader had read, no reader can take the byte and complete nothing or one command
abbrev pub IsNotOneCommand : Reader → ℕ → Type 0
IsNotOneCommand old byte =
    (after : Reader) (events done : List Placed) (bytes : List ℕ) → StandsAfter old events bytes →
    are_one_command done ≡ true → StandsAfter after (events ++ done) (bytes ++ byte ∷ []) → ⊥

-- whatever the reader had read, this is the fault of those bytes with the next one.
-- Its offset is that of the next byte, and the reader keeps it
abbrev pub Refuses : Reader → Reader → ℕ → Fault → Type 0
Refuses old new byte fault =
    (events : List Placed) (bytes : List ℕ) → StandsAfter old events bytes →
    IsFaultOf (bytes ++ byte ∷ []) fault × (fault.place ≡ length bytes) × (fault_of new ≡ Some fault)
