-- What a named terminal makes of the events of a string: its reading.
use Rattle.std.specs.Prelude.{◌≡◌, ◌≤◌, ◌<◌, ◌+◌, ◌-◌, ◌&&◌, ◌++◌, ℕ, Bool, true, false, List, [], ◌∷◌, Option, Some}
use Rattle.std.specs.Prelude.{flat_map, length, min, nat_lt, slice_get, take, if◌then◌else◌, ⊤}
use Rattle.std.specs.List.{list_any, range_with_len}
use Rattle.std.specs.Option.{option_map_or}
use Rattle.sixel_grammar.specs.declared.command.Command.TheVariants.{Sixel, Repeat}
use Rattle.sixel_grammar.specs.declared.command.Event.{Event}
use Rattle.sixel_grammar.specs.declared.command.Event.TheVariants.{Start, Step, Finish}
use Rattle.sixel_model.specs.Events.{is_painting}
use Rattle.sixel_terminal.specs.Blanks.{AreBlank}
use Rattle.sixel_terminal.specs.Stretches.{sixels_of}
use Rattle.sixel_emulator.specs.declared.reading.Reads.{Reads}
use Rattle.sixel_emulator.specs.declared.reading.Reads.TheVariants.{Nothing, Draws, DrawsTwo, Stops, Unsaid}

-- what a terminal makes of an event, with the events before it and the one after it
abbrev pub Rule : Type 0
Rule = List Event → Event → Option Event → Reads

-- a model of a terminal: its rule; what it draws before the first event, by all events of the string; and which of the
-- 8-bit controls the model doesn't say
pub record Model : Type 0 where
  pub rule : Rule
  pub opening : List Event → List Event
  pub unsaid_introducer : Bool
  pub unsaid_terminator : Bool

-- it draws nothing before the first event
abbrev pub no_opening : List Event → List Event
no_opening events = []

-- what a plain terminal draws in place of the event
abbrev pub drawn_by : Reads → List Event
drawn_by Nothing = []
drawn_by (Draws command) = Step command ∷ []
drawn_by (DrawsTwo first second) = Step first ∷ Step second ∷ []
drawn_by Stops = []
drawn_by Unsaid = []

-- it draws nothing more, from this event on
abbrev pub is_stop : Reads → Bool
is_stop Nothing = false
is_stop (Draws command) = false
is_stop (DrawsTwo first second) = false
is_stop Stops = true
is_stop Unsaid = false

-- the model says what the terminal does, and it doesn't stop
abbrev pub carries_on : Reads → Bool
carries_on Nothing = true
carries_on (Draws command) = true
carries_on (DrawsTwo first second) = true
carries_on Stops = false
carries_on Unsaid = false

-- what it makes of the event at this position; past the end it draws nothing
abbrev pub read_at : Model → List Event → ℕ → Reads
read_at m events i =
    option_map_or (λ e. m.rule (take i events) e (slice_get events (i + 1))) (slice_get events i) Nothing

-- it stops at no position below n
abbrev pub StopsNowhereBelow : Model → List Event → ℕ → Type 0
StopsNowhereBelow m events n = (k : ℕ) → k < n → is_stop (read_at m events k) ≡ false

-- it draws the next n sixels as they are, whatever follows: so one after fewer than n sixels more
abbrev pub ArePlain : Rule → List Event → ℕ → Type 0
ArePlain rule before n =
    (earlier : List ℕ) → length earlier < n → (bits : ℕ) (next : Option Event)
    → rule (before ++ sixels_of earlier) (Step (Sixel bits)) next ≡ Draws (Sixel bits)

-- it draws the sixels without a set bit that come next as they are, whatever follows: so one after others without
abbrev pub ArePlainBlanks : Rule → List Event → Type 0
ArePlainBlanks rule before =
    (earlier : List ℕ) → list_any is_painting (sixels_of earlier) ≡ false → (bits : ℕ)
    → is_painting (Step (Sixel bits)) ≡ false → (next : Option Event)
    → rule (before ++ sixels_of earlier) (Step (Sixel bits)) next ≡ Draws (Sixel bits)

-- it draws the sixels of these data bytes as they are, if they come next, whatever follows
abbrev pub ArePlainSixels : Rule → List Event → List ℕ → Type 0
ArePlainSixels rule before [] = ⊤
ArePlainSixels rule before (byte ∷ bytes) =
    ((next : Option Event) → rule before (Step (Sixel (byte - 63))) next ≡ Draws (Sixel (byte - 63)))
    × ArePlainSixels rule (before ++ Step (Sixel (byte - 63)) ∷ []) bytes

-- the model goes on at an event, and what a plain terminal draws in place of it are data commands that paint nothing
-- where a repeat of 0 has `zero_columns`; together they have so many columns
pub record IsCut (zero_columns columns : ℕ) (reads : Reads) : Type 0 where
  pub goes : carries_on reads ≡ true
  pub blank : AreBlank zero_columns columns (drawn_by reads)

-- the data commands that come next are cut, whatever follows. n of their columns are kept: each of the first n sixels
-- has one, and those after them none; a repeat that isn't one of 0 has as many as it can
pub record AreCut (rule : Rule) (before : List Event) (zero_columns n : ℕ) : Type 0 where
  pub sixels : (earlier : List ℕ) (bits : ℕ) (next : Option Event)
      → IsCut zero_columns (if nat_lt (length earlier) n then 1 else 0)
      (rule (before ++ sixels_of earlier) (Step (Sixel bits)) next)
  pub repeats : (count bits : ℕ) (next : Option Event) → 0 < count
      → IsCut zero_columns (min count n) (rule before (Step (Repeat count bits)) next)

-- what a plain terminal draws in place of the events: what comes before the first event, then what each gives, up to
-- the first that stops, if there is one
pub record IsReading (m : Model) (events drawing : List Event) : Type 0 where
  pub end : ℕ
  pub within : end ≤ length events
  pub goes_on : StopsNowhereBelow m events end
  pub stops : end < length events → is_stop (read_at m events end) ≡ true
  pub drawing_is : drawing ≡ m.opening events ++ flat_map (λ i. drawn_by (read_at m events i)) (range_with_len 0 end)

-- what a plain terminal draws in place of the events below n, after what comes before the first event
abbrev pub reading_below : Model → List Event → ℕ → List Event
reading_below m events n =
    m.opening events ++ flat_map (λ i. drawn_by (read_at m events i)) (range_with_len 0 n)

-- the event is an 8-bit control that the model doesn't say
abbrev pub is_unsaid_control : Model → Event → Bool
is_unsaid_control m (Start eight parameters) = eight && m.unsaid_introducer
is_unsaid_control m (Step command) = false
is_unsaid_control m (Finish eight) = eight && m.unsaid_terminator

-- the model doesn't say what the terminal does at this position: there is such a control, even behind an event that
-- stops; or no event before stops, and the rule doesn't say what this one does
pub data IsUnsaid (m : Model) (events : List Event) (i : ℕ) : Type 0 where
  Control : (e : Event) → slice_get events i ≡ Some e → is_unsaid_control m e ≡ true → IsUnsaid m events i
  Behaviour : StopsNowhereBelow m events i → read_at m events i ≡ Unsaid → IsUnsaid m events i

-- the model ends at this position: it says what the terminal does at each position before
pub record EndsAt (m : Model) (events : List Event) (i : ℕ) : Type 0 where
  pub within : i < length events
  pub unsaid : IsUnsaid m events i
  pub first : (k : ℕ) → k < i → ¬ IsUnsaid m events k

-- the model says all
abbrev pub IsSaid : Model → List Event → Type 0
IsSaid m events = (i : ℕ) → i < length events → ¬ IsUnsaid m events i
