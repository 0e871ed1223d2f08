-- A drawing whose registers are watched. Only contracts of private functions cite these.
use Rattle.std.specs.Prelude.{◌≡◌, List}
use Rattle.sixel_grammar.specs.declared.command.Event.{Event}
use Rattle.sixel_grammar.specs.declared.command.Placed.{Placed}
use Rattle.sixel_grammar.specs.Document.{events_of}
use Rattle.sixel_model.specs.declared.profile.Profile.{Profile}
use Rattle.sixel_terminal.specs.Displays.{Display}
use Rattle.sixel_terminal.specs.Drawings.{HasDrawn}
use Rattle.sixel_terminal.specs.Screens.{IsScreenAfter}
use Rattle.sixel_show.specs.declared.screen.Shown.{Shown}
use Rattle.sixel_show.specs.declared.watched.Watched.{Watched}
use Rattle.sixel_show.specs.Notes.{has_high_register, shown_status}

-- the drawing has come to the end of these events, and it is known whether one of them names a register above 15
pub record HasWatched (w : Watched) (events : List Event) : Type 0 where
  pub drawn : HasDrawn w.drawing events
  pub high : w.has_high_register ≡ has_high_register events

-- the same, on the terminal that the drawing had at first
abbrev pub HasWatchedOn : Watched → Watched → List Placed → Type 0
HasWatchedOn first now seen =
    (now.drawing.terminal ≡ first.drawing.terminal) × HasWatched now (events_of seen)

-- the screen is that of the terminal after the events, and the status that of their show
pub record IsShownAfter (profile : Profile) (t : Display) (shown : Shown) (events : List Event) : Type 0 where
  pub screen : IsScreenAfter t shown.screen events
  pub status : shown.status ≡ shown_status profile events
