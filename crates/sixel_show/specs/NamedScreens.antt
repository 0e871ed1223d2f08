-- Measuring a document before a named terminal's screen is drawn. Only contracts of private functions cite these.
use Rattle.std.specs.Prelude.{◌≡◌, ◌++◌, ℕ, List, [], Some, None, Result, Ok, Err, ⊤}
use Rattle.sixel_grammar.specs.declared.command.Event.{Event}
use Rattle.sixel_grammar.specs.declared.command.Placed.{Placed}
use Rattle.sixel_grammar.specs.declared.reader.Reader.{Reader}
use Rattle.sixel_grammar.specs.Document.{Document, events_of}
use Rattle.sixel_grammar.specs.Faults.{IsFaultOf}
use Rattle.sixel_grammar.specs.Standing.{StandsAfter}
use Rattle.sixel_model.specs.declared.colour.Parts.{Parts}
use Rattle.sixel_grammar.specs.declared.both.Both.{Both}
use Rattle.sixel_konsole.specs.declared.konsole.Konsole.{Konsole as KonsoleReading}
use Rattle.sixel_konsole.specs.declared.measuring.Measuring.{Measuring}
use Rattle.sixel_emulator.specs.declared.modelled.Modelled.{Modelled}
use Rattle.sixel_named_terminals.specs.declared.named.Named.{Named}
use Rattle.sixel_named_terminals.specs.declared.named.Named.TheVariants.{Konsole}
use Rattle.sixel_konsole.specs.Konsole.{StaysLow, konsole_model}
use Rattle.sixel_konsole.specs.KonsoleSeen.{HasSeenKonsole}
use Rattle.sixel_konsole.specs.Measuring.{HasTakenAll, HasTakenOn}
use Rattle.sixel_emulator.specs.declared.hearing.Hearing.{Hearing}
use Rattle.sixel_emulator.specs.Heard.{heard, omitted_in}
use Rattle.sixel_emulator.specs.Looking.{HasHeardPieces}
use Rattle.sixel_emulator.specs.Modelled.{EndsAtPlace, HasFollowed, HasFollowedOn}
use Rattle.sixel_named_terminals.specs.Named.{IsScreenOn, heard_on, model_of}
use Rattle.sixel_emulator.specs.Readings.{IsSaid}
use Rattle.sixel_terminal.specs.Screens.{Shown}
use Rattle.sixel_report.specs.declared.fault.RunFault.{RunFault}
use Rattle.sixel_report.specs.declared.fault.RunFault.TheVariants.{Grammar, NoBox, OutOfMemory, Read, Unmodelled}
use Rattle.sixel_show.specs.declared.on_konsole.Kept.{Kept}
use Rattle.sixel_show.specs.declared.on_konsole.KonsoleBytes.{KonsoleBytes}
use Rattle.sixel_show.specs.declared.on_konsole.Kept.TheVariants.{Bytes, Needless, Lost}
use Rattle.sixel_report.specs.declared.task.Area.{Area}
use Rattle.sixel_show.specs.Outputs.{sides_in}

-- a document may begin with these bytes: a reader has found no fault in them
abbrev pub HaveNoFault : List ℕ → Type 0
HaveNoFault bytes = (reader : Reader) × (events : List Placed) × StandsAfter reader events bytes

-- in each document that begins with these bytes the screen has these sides
abbrev pub HasSidesAfter : Area → List ℕ → ℕ × ℕ → Type 0
HasSidesAfter area first sides =
    (placed : List Placed) (rest : List ℕ) → Document placed (first ++ rest)
    → sides_in area (events_of placed) ≡ Some sides

-- the named terminal's screen after the document, or why there is none: the fault of bytes that are no document; the
-- offset of the event at which the model ends; NoBox, if the model says all, and no screen has the sides
abbrev pub ShowsIn : Named → Parts → Area → List ℕ → Result Shown RunFault → Type 0
ShowsIn named background area bytes (Ok screen) =
    (placed : List Placed) × Document placed bytes
    × ((sides : ℕ × ℕ) × (sides_in area (events_of placed) ≡ Some sides)
    × IsScreenOn named background sides (events_of (heard_on named bytes placed)) screen)
ShowsIn named background area bytes (Err (Unmodelled place)) =
    (placed : List Placed) × Document placed bytes × EndsAtPlace (model_of named) (heard_on named bytes placed) place
ShowsIn named background area bytes (Err NoBox) =
    (placed : List Placed) × Document placed bytes × IsSaid (model_of named) (events_of (heard_on named bytes placed))
    × (sides_in area (events_of placed) ≡ None)
ShowsIn named background area bytes (Err (Grammar fault)) = IsFaultOf bytes fault
ShowsIn named background area bytes (Err OutOfMemory) = ⊤
ShowsIn named background area bytes (Err fault) = ⊥

-- the same, if the source could be read
abbrev pub ShowsRead : Named → Parts → Area → List ℕ → Result Shown RunFault → Type 0
ShowsRead named background area bytes (Err Read) = ⊤
ShowsRead named background area bytes result = ShowsIn named background area bytes result

-- ---- a document that konsole draws while it is read

-- what is kept suffices to show a document of these bytes and events on konsole. Bytes: they are all. Needless: sixel
-- pixels are one pixel high
abbrev pub Suffices : Kept → List ℕ → List Event → Type 0
Suffices (Bytes kept) bytes events = kept.items ≡ bytes
Suffices Needless bytes events = StaysLow events
Suffices Lost bytes events = ⊤

abbrev pub OnKonsole : Type 0
OnKonsole = Both (Modelled KonsoleReading) Measuring

-- what was `first` before these events is `now` after them
abbrev pub HasTakenOnKonsole : OnKonsole → OnKonsole → List Placed → Type 0
HasTakenOnKonsole first now seen =
    HasFollowedOn konsole_model HasSeenKonsole first.one now.one seen × HasTakenOn first.other now.other seen

-- the events that are complete in these bytes are drawn and measured, and what is kept suffices to show them
pub record HasDrawnPieces (first : Hearing OnKonsole) (start : KonsoleBytes) (reader : Reader)
    (konsole : Hearing OnKonsole) (now : KonsoleBytes) (bytes : List ℕ) : Type 0 where
  pub drawn : HasHeardPieces HasTakenOnKonsole first start.looking reader konsole now.looking bytes
  pub suffices : HasTakenAll first.listener.other [] → Suffices start.kept [] []
      → Suffices now.kept bytes (events_of (heard (omitted_in start.looking.hears bytes) drawn.1.events))

-- a document of these bytes is drawn and measured, and what is kept suffices to show it
pub record IsDrawnOf (w : OnKonsole) (kept : Kept) (bytes : List ℕ) : Type 0 where
  pub placed : List Placed
  pub document : Document placed bytes
  pub followed : HasFollowed konsole_model HasSeenKonsole w.one [] (heard_on Konsole bytes placed)
  pub measured : HasTakenAll w.other (events_of (heard_on Konsole bytes placed))
  pub suffices : Suffices kept bytes (events_of (heard_on Konsole bytes placed))
