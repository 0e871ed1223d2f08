-- The named terminals: the model of each, the plain terminal that draws what its reading gives, and what is shown.
use Rattle.std.specs.Prelude.{◌≡◌, ℕ, List, [], Result, Ok, Err, ⊤, max}
use Rattle.std.specs.Option.{option_map_or}
use Rattle.sixel_grammar.specs.declared.command.Event.{Event}
use Rattle.sixel_grammar.specs.declared.command.Placed.{Placed}
use Rattle.sixel_grammar.specs.Document.{Document, events_of}
use Rattle.sixel_grammar.specs.Faults.{IsFaultOf}
use Rattle.sixel_model.specs.declared.colour.Parts.{Parts}
use Rattle.sixel_model.specs.Events.{Attributes, raster_of}
use Rattle.sixel_model.specs.Positions.{latest}
use Rattle.sixel_terminal.specs.Displays.{Display}
use Rattle.sixel_terminal.specs.Screens.{IsScreenAfter, Shown}
use Rattle.sixel_named_terminals.specs.declared.named.Named.{Named}
use Rattle.sixel_named_terminals.specs.declared.named.Named.TheVariants.{XTerm, MlTerm, Foot, Konsole}
use Rattle.sixel_named_terminals.specs.declared.showing.ShowFault.{ShowFault}
use Rattle.sixel_named_terminals.specs.declared.showing.ShowFault.TheVariants.{Grammar, Unmodelled, OutOfMemory}
use Rattle.sixel_foot.specs.Foot.{foot_model}
use Rattle.sixel_konsole.specs.Konsole.{konsole_model}
use Rattle.sixel_mlterm.specs.MlTerm.{mlterm_model}
use Rattle.sixel_xterm.specs.XTerm.{xterm_model}
use Rattle.sixel_emulator.specs.declared.hearing.Hears.{Hears}
use Rattle.sixel_emulator.specs.declared.hearing.Hears.TheVariants.{Boxes, Events, Selects, SelectsAndRasters}
use Rattle.sixel_emulator.specs.Heard.{heard_in}
use Rattle.sixel_emulator.specs.Modelled.{EndsAtPlace}
use Rattle.sixel_emulator.specs.Readings.{IsReading, IsSaid, Model}
use Rattle.sixel_foot.specs.Settings.{foot_display}
use Rattle.sixel_konsole.specs.Settings.{konsole_display}
use Rattle.sixel_mlterm.specs.Settings.{mlterm_display}
use Rattle.sixel_xterm.specs.Settings.{xterm_display}

abbrev pub model_of : Named → Model
model_of XTerm = xterm_model
model_of MlTerm = mlterm_model
model_of Foot = foot_model
model_of Konsole = konsole_model

-- what the terminal hears that the events don't say
abbrev pub hears_on : Named → Hears
hears_on XTerm = SelectsAndRasters
hears_on MlTerm = Selects
hears_on Foot = Events
hears_on Konsole = Boxes

-- the events of the document of these bytes, as the terminal hears them
abbrev pub heard_on : Named → List ℕ → List Placed → List Placed
heard_on named bytes placed = heard_in (hears_on named) bytes placed

-- the height of a sixel pixel that raster attributes among these events give, those that are drawn before the first
-- event of a string; it is at least 1, and 1 without any
abbrev pub tall_in : List Event → ℕ
tall_in opening = max 1 (option_map_or (λ (a : Attributes). a.pan) (latest raster_of opening) 1)

-- the plain terminal that draws what the terminal's reading gives, after these openings, on a screen of the background
-- with this width and height
abbrev pub terminal_on : Named → Parts → List Event → ℕ × ℕ → Display
terminal_on XTerm background opening sides = xterm_display background sides.0 sides.1
terminal_on MlTerm background opening sides = mlterm_display background sides.0 sides.1
terminal_on Foot background opening sides = foot_display background sides.0 sides.1
terminal_on Konsole background opening sides = konsole_display background (tall_in opening) sides.0 sides.1

-- the screen is that of the named terminal after the events: its model says all, and the screen is that of the plain
-- terminal after what stands in place of the events
pub record IsScreenOn (named : Named) (background : Parts) (sides : ℕ × ℕ) (events : List Event) (screen : Shown)
    : Type 0 where
  pub said : IsSaid (model_of named) events
  pub drawing : List Event
  pub is_reading : IsReading (model_of named) events drawing
  pub after : IsScreenAfter (terminal_on named background ((model_of named).opening events) sides) screen drawing

-- what is shown of these bytes, if `opening` is what the model draws before the first event. Grammar: the fault of
-- bytes that are no document; Unmodelled: the offset of the event at which the model ends
abbrev pub ShowsOn : Named → Parts → ℕ × ℕ → List Event → List ℕ → Result Shown ShowFault → Type 0
ShowsOn named background sides opening bytes (Ok screen) =
    (placed : List Placed) × Document placed bytes
    × (opening ≡ (model_of named).opening (events_of (heard_on named bytes placed))
    → IsScreenOn named background sides (events_of (heard_on named bytes placed)) screen)
ShowsOn named background sides opening bytes (Err (Grammar fault)) = IsFaultOf bytes fault
ShowsOn named background sides opening bytes (Err (Unmodelled place)) =
    (placed : List Placed) × Document placed bytes
    × EndsAtPlace (model_of named) (heard_on named bytes placed) place
ShowsOn named background sides opening bytes (Err OutOfMemory) = ⊤

-- what is shown of the document of these bytes. There is one: so they have no fault
abbrev pub ShowsDocument : Named → Parts → ℕ × ℕ → List ℕ → Result Shown ShowFault → Type 0
ShowsDocument named background sides bytes (Ok screen) =
    (placed : List Placed) × Document placed bytes
    × IsScreenOn named background sides (events_of (heard_on named bytes placed)) screen
ShowsDocument named background sides bytes (Err (Grammar fault)) = ⊥
ShowsDocument named background sides bytes (Err (Unmodelled place)) =
    (placed : List Placed) × Document placed bytes
    × EndsAtPlace (model_of named) (heard_on named bytes placed) place
ShowsDocument named background sides bytes (Err OutOfMemory) = ⊤

-- the terminal's model draws nothing before the first event
abbrev pub DrawsNothingFirst : Named → Type 0
DrawsNothingFirst named = (events : List Event) → (model_of named).opening events ≡ []

-- what is given of the document of these bytes: its screen, or the offset of the event at which the model ends
abbrev pub GivesScreen : Named → Parts → ℕ × ℕ → List ℕ → Result Shown ℕ → Type 0
GivesScreen named background sides bytes (Ok screen) =
    (placed : List Placed) × Document placed bytes
    × IsScreenOn named background sides (events_of (heard_on named bytes placed)) screen
GivesScreen named background sides bytes (Err place) =
    (placed : List Placed) × Document placed bytes
    × EndsAtPlace (model_of named) (heard_on named bytes placed) place
