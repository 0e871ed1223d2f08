-- How far a model has come in a string.
use Rattle.std.specs.Prelude.{◌≡◌, ◌<◌, ◌-◌, ◌++◌, ℕ, suc, Bool, true, List, [], ◌∷◌, Some, slice_get, if◌then◌else◌, ⊤}
use Rattle.sixel_grammar.specs.declared.command.Command.TheVariants.{Sixel}
use Rattle.sixel_grammar.specs.declared.command.Event.{Event}
use Rattle.sixel_grammar.specs.declared.command.Event.TheVariants.{Step}
use Rattle.sixel_emulator.specs.declared.course.Course.{Course}
use Rattle.sixel_emulator.specs.declared.course.Course.TheVariants.{Goes, Stopped, Ended}
use Rattle.sixel_emulator.specs.declared.reading.Reads.{Reads}
use Rattle.sixel_emulator.specs.declared.reading.Reads.TheVariants.{Nothing, Draws, DrawsTwo, Stops, Unsaid}
use Rattle.sixel_emulator.specs.Readings.{IsUnsaid, Model, StopsNowhereBelow, carries_on, drawn_by, is_stop, read_at}

-- the model says what the terminal does at each position below n
abbrev pub SaidBelow : Model → List Event → ℕ → Type 0
SaidBelow m events n = (k : ℕ) → k < n → ¬ IsUnsaid m events k

-- the first position that stops is below n, and the model says all below n
pub record HasStopped (m : Model) (events : List Event) (n : ℕ) : Type 0 where
  pub end : ℕ
  pub within : end < n
  pub goes_on : StopsNowhereBelow m events end
  pub stops : is_stop (read_at m events end) ≡ true
  pub said : SaidBelow m events n

-- the first position of which it doesn't say what the terminal does is below n
pub record HasEnded (m : Model) (events : List Event) (n : ℕ) : Type 0 where
  pub at : ℕ
  pub within : at < n
  pub unsaid : IsUnsaid m events at
  pub said : SaidBelow m events at

-- the course is that of the first n events
abbrev pub IsCourse : Model → List Event → ℕ → Course → Type 0
IsCourse m events n Goes = StopsNowhereBelow m events n × SaidBelow m events n
IsCourse m events n Stopped = HasStopped m events n
IsCourse m events n Ended = HasEnded m events n

-- the event at position n is this one, and the terminal makes this of it
pub record IsAt (m : Model) (events : List Event) (n : ℕ) (e : Event) (reads : Reads) : Type 0 where
  pub here : slice_get events n ≡ Some e
  pub reads_are : reads ≡ read_at m events n

-- the terminal draws these sixels as they are, at the positions from n on
abbrev pub AreDrawn : Model → List Event → ℕ → List ℕ → Type 0
AreDrawn m events n [] = ⊤
AreDrawn m events n (byte ∷ bytes) =
    IsAt m events n (Step (Sixel (byte - 63))) (Draws (Sixel (byte - 63))) × AreDrawn m events (suc n) bytes

-- these sixels are the events at the positions from n on
abbrev pub AreSixels : List Event → ℕ → List ℕ → Type 0
AreSixels events n [] = ⊤
AreSixels events n (byte ∷ bytes) =
    (slice_get events n ≡ Some (Step (Sixel (byte - 63)))) × AreSixels events (suc n) bytes

-- these sixels are the events at the positions from n on; at each of them the model goes on, and `drawn` is what a plain
-- terminal draws in place of them all
abbrev pub AreDrawnAs : Model → List Event → ℕ → List ℕ → List Event → Type 0
AreDrawnAs m events n [] drawn = drawn ≡ []
AreDrawnAs m events n (byte ∷ bytes) drawn =
    (slice_get events n ≡ Some (Step (Sixel (byte - 63)))) × (carries_on (read_at m events n) ≡ true)
    × (others : List Event) × (drawn ≡ drawn_by (read_at m events n) ++ others)
    × AreDrawnAs m events (suc n) bytes others

-- ---- the course with one more event. Only the contract of a private function cites these

abbrev pub course_by : Reads → Course
course_by Nothing = Goes
course_by (Draws command) = Goes
course_by (DrawsTwo first second) = Goes
course_by Stops = Stopped
course_by Unsaid = Ended

-- `is_unsaid` tells whether the event is a control that the model doesn't say
abbrev pub next_course : Course → Bool → Reads → Course
next_course Ended is_unsaid reads = Ended
next_course Stopped is_unsaid reads = if is_unsaid then Ended else Stopped
next_course Goes is_unsaid reads = if is_unsaid then Ended else course_by reads
