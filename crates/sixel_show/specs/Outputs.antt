-- What `show` writes and answers.
use Rattle.std.specs.Prelude.{◌≡◌, ℕ, List, [], Option, Some, None, IsTrue, IsFalse, Result, Ok, Err}
use Rattle.sixel_grammar.specs.declared.command.Event.{Event}
use Rattle.sixel_grammar.specs.declared.command.Placed.{Placed}
use Rattle.sixel_grammar.specs.Document.{Document, events_of}
use Rattle.sixel_grammar.specs.Faults.{IsFaultOf}
use Rattle.sixel_model.specs.declared.colour.Parts.{Parts}
use Rattle.sixel_model.specs.declared.profile.Profile.{Profile}
use Rattle.sixel_ppm.specs.Ppm.{are_rgb, ppm_text}
use Rattle.sixel_terminal.specs.Displays.{Display}
use Rattle.sixel_terminal.specs.Drawing.{screen_on}
use Rattle.sixel_terminal.specs.Screens.{Shown}
use Rattle.sixel_named_terminals.specs.declared.named.Named.{Named}
use Rattle.sixel_emulator.specs.Modelled.{EndsAtPlace}
use Rattle.sixel_named_terminals.specs.Named.{IsScreenOn, heard_on, model_of}
use Rattle.sixel_emulator.specs.Readings.{IsSaid}
use Rattle.sixel_report.specs.declared.fault.RunFault.{RunFault}
use Rattle.sixel_report.specs.declared.fault.RunFault.TheVariants.{Grammar, NotRgb, NoBox, Unmodelled}
use Rattle.sixel_report.specs.declared.task.Area.{Area}
use Rattle.sixel_report.specs.declared.task.Area.TheVariants.{Box, Sides}
use Rattle.sixel_report.specs.declared.task.Status.{Status}
use Rattle.sixel_report.specs.declared.task.Status.TheVariants.{Done}
use Rattle.sixel_show.specs.Notes.{shown_status}
use Rattle.sixel_show.specs.Screens.{declared_screen, screen_text}
use Rattle.sixel_report.specs.Texts.{Text}

-- ---- screens

-- for a document the PPM of the terminal's screen after it, and the status of its show in the profile, or NotRgb and no
-- text if some colour on the screen isn't RGB; for other bytes their fault, and no text
abbrev pub ShowGives : Profile → Display → List ℕ → Text → Result Status RunFault → Type 0
ShowGives profile t bytes text (Ok status) =
    (events : List Placed) × Document events bytes × IsTrue (are_rgb (screen_on t (events_of events)))
    × (text ≡ screen_text t (events_of events)) × (status ≡ shown_status profile (events_of events))
ShowGives profile t bytes text (Err NotRgb) = (text ≡ [])
    × ((events : List Placed) × Document events bytes × IsFalse (are_rgb (screen_on t (events_of events))))
ShowGives profile t bytes text (Err (Grammar fault)) = (text ≡ []) × IsFaultOf bytes fault
ShowGives profile t bytes text (Err fault) = ⊥

-- for a document what the terminal with a screen of the size of the declared box gives; NoBox and no text if no box is
-- declared, or no screen can have its size; for other bytes their fault, and no text
abbrev pub ShowBoxGives : Profile → (ℕ × ℕ → Display) → List ℕ → Text → Result Status RunFault → Type 0
ShowBoxGives profile terminal bytes text (Err NoBox) = (text ≡ [])
    × ((events : List Placed) × Document events bytes × (declared_screen (events_of events) ≡ None))
ShowBoxGives profile terminal bytes text (Err (Grammar fault)) = (text ≡ []) × IsFaultOf bytes fault
ShowBoxGives profile terminal bytes text answer =
    (events : List Placed) × Document events bytes
    × ((sides : ℕ × ℕ) × (declared_screen (events_of events) ≡ Some sides)
    × ShowGives profile (terminal sides) bytes text answer)

-- ---- screens of named terminals

-- the sides of the screen: those that are given, or those of the declared box if a screen can have them
abbrev pub sides_in : Area → List Event → Option (ℕ × ℕ)
sides_in Box events = declared_screen events
sides_in (Sides width height) events = Some (width, height)

-- for a document the PPM of the named terminal's screen after it, or NotRgb and no text if some colour on the screen
-- isn't RGB; Unmodelled, the offset of the event at which the terminal's model ends, and no text; NoBox and no text if
-- the model says all, and no screen has the sides; for other bytes their fault, and no text
abbrev pub ShowOnGives : Named → Parts → Area → List ℕ → Text → Result Status RunFault → Type 0
ShowOnGives named background area bytes text (Ok status) =
    (placed : List Placed) × Document placed bytes
    × ((sides : ℕ × ℕ) × (sides_in area (events_of placed) ≡ Some sides)
    × ((screen : Shown) × IsScreenOn named background sides (events_of (heard_on named bytes placed)) screen
    × IsTrue (are_rgb screen.colours) × (text ≡ ppm_text sides.0 sides.1 screen.colours) × (status ≡ Done)))
ShowOnGives named background area bytes text (Err NotRgb) = (text ≡ [])
    × ((placed : List Placed) × Document placed bytes
    × ((sides : ℕ × ℕ) × (sides_in area (events_of placed) ≡ Some sides)
    × ((screen : Shown) × IsScreenOn named background sides (events_of (heard_on named bytes placed)) screen
    × IsFalse (are_rgb screen.colours))))
ShowOnGives named background area bytes text (Err (Unmodelled place)) = (text ≡ [])
    × ((placed : List Placed) × Document placed bytes × EndsAtPlace (model_of named) (heard_on named bytes placed) place)
ShowOnGives named background area bytes text (Err NoBox) = (text ≡ [])
    × ((placed : List Placed) × Document placed bytes × IsSaid (model_of named) (events_of (heard_on named bytes placed))
    × (sides_in area (events_of placed) ≡ None))
ShowOnGives named background area bytes text (Err (Grammar fault)) = (text ≡ []) × IsFaultOf bytes fault
ShowOnGives named background area bytes text (Err fault) = ⊥
