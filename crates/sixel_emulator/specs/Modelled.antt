-- A drawing of what a model makes of a document.
use Rattle.std.specs.Prelude.{◌≡◌, ◌≤◌, ◌<◌, ◌-◌, ◌++◌, ◌∷◌, ℕ, true, List, [], Option, Some, Result, Ok, Err, flat_map}
use Rattle.std.specs.Prelude.{length}
use Rattle.std.specs.Prelude.{slice_get, slice_index}
use Rattle.std.specs.List.{range_with_len}
use Rattle.std.specs.Option.{option_map, option_to_list}
use Rattle.sixel_grammar.specs.declared.command.Command.{Command}
use Rattle.sixel_grammar.specs.declared.command.Command.TheVariants.{Sixel}
use Rattle.sixel_grammar.specs.declared.command.Event.{Event}
use Rattle.sixel_grammar.specs.declared.command.Event.TheVariants.{Step}
use Rattle.sixel_grammar.specs.declared.command.Placed.{Placed}
use Rattle.sixel_grammar.specs.Document.{events_of}
use Rattle.sixel_terminal.specs.Drawings.{Drawn, HasDrawn}
use Rattle.sixel_emulator.specs.declared.course.Course.{Course}
use Rattle.sixel_emulator.specs.declared.course.Course.TheVariants.{Goes, Stopped, Ended}
use Rattle.sixel_emulator.specs.declared.modelled.Modelled.{Modelled}
use Rattle.sixel_emulator.specs.declared.modelled.UnsaidControls.{UnsaidControls}
use Rattle.sixel_emulator.specs.declared.progress.Progress.{Progress}
use Rattle.sixel_emulator.specs.Courses.{HasEnded, IsCourse}
use Rattle.sixel_emulator.specs.Readings.{EndsAt, IsReading, IsSaid, Model, StopsNowhereBelow, drawn_by, is_stop}
use Rattle.sixel_emulator.specs.Readings.{read_at}

-- the event at this position has this offset
abbrev pub HasPlace : List Placed → ℕ → ℕ → Type 0
HasPlace placed i place = option_map (λ (p : Placed). p.place) (slice_get placed i) ≡ Some place

-- ---- what a drawing by a model gives of a document

-- the model says all, and what was drawn is `opening`, and then what a plain terminal draws in place of the events
pub record IsDrawingOf (m : Model) (opening events : List Event) (d : Drawn) : Type 0 where
  pub said : IsSaid m events
  pub drawing : List Event
  pub is_reading : IsReading m events (m.opening events ++ drawing)
  pub drawn : HasDrawn d (opening ++ drawing)

-- the model ends at the event with this offset
pub record EndsAtPlace (m : Model) (placed : List Placed) (place : ℕ) : Type 0 where
  pub at : ℕ
  pub ends : EndsAt m (events_of placed) at
  pub has_place : HasPlace placed at place

-- a drawing of the events, or the offset of the event at which the model ends
abbrev pub ModelGives : Model → List Event → List Placed → Result Drawn ℕ → Type 0
ModelGives m opening placed (Ok d) = IsDrawingOf m opening (events_of placed) d
ModelGives m opening placed (Err place) = EndsAtPlace m placed place

-- ---- how far it has come

-- what a plain terminal draws in place of the first n events, if none of them stops
abbrev pub drawn_below : Model → List Event → ℕ → List Event
drawn_below m events n = flat_map (λ i. drawn_by (read_at m events i)) (range_with_len 0 n)

-- what a plain terminal draws in place of the first n events, up to the first that stops, is drawn, after `opening`
pub record HasDrawnBelow (m : Model) (opening events : List Event) (n : ℕ) (d : Drawn) : Type 0 where
  pub end : ℕ
  pub within : end ≤ n
  pub goes_on : StopsNowhereBelow m events end
  pub stops : end < n → is_stop (read_at m events end) ≡ true
  pub drawn : HasDrawn d (opening ++ drawn_below m events end)

-- the model has ended below n, at the event with this offset
pub record HasEndedAt (m : Model) (placed : List Placed) (n place : ℕ) : Type 0 where
  pub ended : HasEnded m (events_of placed) n
  pub has_place : HasPlace placed ended.at place

-- the course is that of the first n events; they are drawn, or the model has ended, at the event with the offset `end`
abbrev pub ComesBy : Model → List Event → List Placed → ℕ → Course → ℕ → Drawn → Type 0
ComesBy m opening placed n Goes end d =
    IsCourse m (events_of placed) n Goes × HasDrawnBelow m opening (events_of placed) n d
ComesBy m opening placed n Stopped end d =
    IsCourse m (events_of placed) n Stopped × HasDrawnBelow m opening (events_of placed) n d
ComesBy m opening placed n Ended end d = HasEndedAt m placed n end

abbrev pub HasCome : Model → List Event → List Placed → ℕ → Progress → Type 0
HasCome m opening placed n p = ComesBy m opening placed n p.course p.end p.drawing

-- ---- what was followed

-- these are the 8-bit controls that the model doesn't say
pub record AreUnsaidBy (m : Model) (c : UnsaidControls) : Type 0 where
  pub introducer_is : c.introducer ≡ m.unsaid_introducer
  pub terminator_is : c.terminator ≡ m.unsaid_terminator

abbrev pub placed_at : ℕ → Event → Placed
placed_at place e = record { place = place; event = e }

-- the event that waits for the next one, with its offset
abbrev pub waiting_in : {R : Type 0} → Modelled R → List Placed
waiting_in w = option_to_list (option_map (placed_at w.place) w.waiting.pending)

-- the same, but this event waits, with this offset
abbrev pub with_waiting : {R : Type 0} → Modelled R → ℕ → Event → Modelled R
with_waiting w place e = record w { waiting = record w.waiting { pending = Some e }; place = place }

-- the first sixel of these data bytes, and the same, but it waits
abbrev pub first_sixel : List ℕ → Event
first_sixel bytes = Step (Sixel (slice_index bytes 0 - 63))

abbrev pub first_at : ℕ → List ℕ → List Placed
first_at place bytes = placed_at place (first_sixel bytes) ∷ []

abbrev pub with_first : {R : Type 0} → Modelled R → ℕ → List ℕ → Modelled R
with_first w place bytes = with_waiting w place (first_sixel bytes)

-- these events were taken, and `opening` was drawn first: those before the one that waits were read, and the model has
-- come to their end, whatever comes later
pub record HasFollowed {R : Type 0} (m : Model) (has_seen : R → List Event → Type 0) (w : Modelled R)
    (opening : List Event) (placed : List Placed) : Type 0 where
  pub controls : AreUnsaidBy m w.controls
  pub read : List Placed
  pub are : placed ≡ read ++ waiting_in w
  pub seen : has_seen w.waiting.reading (events_of read)
  pub come : (later : List Placed) → HasCome m opening (placed ++ later) (length read) w.progress

-- what was `first` before any event is `now` after these, on the same terminal, and after the same opening
abbrev pub HasFollowedOn : {R : Type 0} → Model → (R → List Event → Type 0) → Modelled R → Modelled R → List Placed
    → Type 0
HasFollowedOn m has_seen first now seen =
    (now.progress.drawing.terminal ≡ first.progress.drawing.terminal)
    × ((opening : List Event) → HasFollowed m has_seen first opening [] → HasFollowed m has_seen now opening seen)

-- a command as a list of events, if there is one
abbrev pub opening_of : Option Command → List Event
opening_of command = option_to_list (option_map Step command)
