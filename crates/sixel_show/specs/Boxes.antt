-- Reading a document whose declared box gives the sides of the screen. Only contracts of private functions cite these.
use Rattle.std.specs.Option.{option_or}
use Rattle.std.specs.Prelude.{◌≡◌, ◌++◌, ℕ, List, Option, Some, None, IfSome, IsSome, option_map}
use Rattle.std.proofs.Common.{◌∙◌, ap, append_assoc}
use Rattle.std.specs.declared.alloc.AllocError.{AllocError}
use Rattle.sixel_grammar.specs.declared.command.Event.{Event}
use Rattle.sixel_grammar.specs.declared.command.Placed.{Placed}
use Rattle.sixel_grammar.specs.declared.fault.InputFault.TheVariants.{Grammar}
use Rattle.sixel_grammar.specs.declared.halt.Halt.{Halt}
use Rattle.sixel_grammar.specs.declared.halt.Halt.TheVariants.{Refused, Stopped}
use Rattle.sixel_grammar.specs.declared.reader.Reader.{Reader}
use Rattle.sixel_grammar.specs.Document.{events_of}
use Rattle.sixel_grammar.specs.Following.{AreFollowed}
use Rattle.sixel_grammar.specs.Reading.{ExplainsAlways}
use Rattle.sixel_model.specs.declared.profile.Profile.{Profile}
use Rattle.sixel_model.specs.Events.{Attributes}
use Rattle.sixel_model.specs.Rules.{raster_before}
use Rattle.sixel_terminal.specs.Displays.{Display}
use Rattle.sixel_show.specs.declared.box_finder.BoxFinder.{BoxFinder}
use Rattle.sixel_show.specs.declared.show_box.InBox.{InBox}
use Rattle.sixel_show.specs.declared.show_box.Kind.{Kind}
use Rattle.sixel_show.specs.declared.show_box.Stage.{Stage}
use Rattle.sixel_show.specs.declared.show_box.Stage.TheVariants.{Undeclared, Drawn, Unshowable}
use Rattle.sixel_show.specs.declared.screen.Shown.{Shown}
use Rattle.sixel_show.specs.declared.watched.Watched.{Watched}
use Rattle.sixel_show.specs.Screens.{DeclareScreenIn, declared_screen, screen_terminal}
use Rattle.sixel_show.specs.Watching.{HasWatched, IsShownAfter}

-- the terminal of this kind with a screen of these sides
abbrev pub terminal_of_kind : Kind → ℕ × ℕ → Display
terminal_of_kind kind = screen_terminal kind.profile kind.showing kind.fill kind.selects

-- the declared box, that of the first raster attributes: its width and its height
unfoldable pub box_in : List Event → Option (ℕ × ℕ)
box_in events = option_map (λ (a : Attributes). (a.width, a.height)) (raster_before events)

-- the finder has found the first box: the one that it had at first, or else that of these events
abbrev pub HasFound : BoxFinder → BoxFinder → List Placed → Type 0
HasFound first finder seen = finder.found ≡ option_or first.found (box_in (events_of seen))

-- the events are drawn on the terminal whose screen has the sides of the box that they declare
pub record IsDrawnInBox (terminal : ℕ × ℕ → Display) (w : Watched) (events : List Event) : Type 0 where
  pub sides : ℕ × ℕ
  pub declared : declared_screen events ≡ Some sides
  pub on : w.drawing.terminal ≡ terminal sides
  pub watched : HasWatched w events

-- the stage after these bytes, in which these events are complete
abbrev pub IsStageAfter : (ℕ × ℕ → Display) → Stage → List Event → List ℕ → Type 0
IsStageAfter terminal (Undeclared kept) events bytes = IfSome kept (λ k. k.items ≡ bytes) × (box_in events ≡ None)
IsStageAfter terminal (Drawn w) events bytes = IsDrawnInBox terminal w events
IsStageAfter terminal Unshowable events bytes = IsSome (box_in events) × (declared_screen events ≡ None)

-- the reader has read these bytes, and the stage is the one after them
abbrev pub HasRead : (ℕ × ℕ → Display) → Reader → Stage → List ℕ → Type 0
HasRead terminal reader stage bytes =
    AreFollowed (λ (now : Stage) (seen : List Placed). IsStageAfter terminal now (events_of seen) bytes)
    reader stage bytes

-- the same, on a terminal of the kind that it was at first
abbrev pub HasReadInBox : Unit {0} → InBox → Reader → Unit {0} → InBox → List ℕ → Type 0
HasReadInBox first start reader nothing now bytes =
    (now.kind ≡ start.kind) × HasRead (terminal_of_kind now.kind) reader now.stage bytes

-- why there is no stage after this piece. Refused: it is the fault of any bytes that begin so. Stopped: they declare a
-- box of a screen's size
abbrev pub EndsStage : (ℕ × ℕ → Display) → Reader → Stage → List ℕ → Halt AllocError → Type 0
EndsStage terminal reader stage piece (Refused fault) =
    (bytes : List ℕ) → HasRead terminal reader stage bytes → ExplainsAlways (Grammar fault) (bytes ++ piece)
EndsStage terminal reader stage piece (Stopped stop) =
    (bytes : List ℕ) → HasRead terminal reader stage bytes → DeclareScreenIn (bytes ++ piece)

-- what is shown of a document with these events, or none if no screen can have the sides of its declared box
abbrev pub IsShownInBox : Profile → (ℕ × ℕ → Display) → Option Shown → List Event → Type 0
IsShownInBox profile terminal None events = declared_screen events ≡ None
IsShownInBox profile terminal (Some shown) events =
    (sides : ℕ × ℕ) × (declared_screen events ≡ Some sides) × IsShownAfter profile (terminal sides) shown events

-- what bytes declare, those with more behind them do
pub declared_longer : (bytes more : List ℕ) → DeclareScreenIn bytes → DeclareScreenIn (bytes ++ more)
declared_longer bytes more d = record {
  prefix = d.prefix;
  rest = d.rest ++ more;
  bytes_are = ap (λ (t : List ℕ). t ++ more) d.bytes_are ∙ append_assoc d.prefix d.rest more;
  events = d.events;
  complete = d.complete;
  declares = d.declares;
}
