-- The course of a model with one more event.
use Rattle.std.proofs.Common.{length, ◌≡◌, ℕ, suc, ◌<◌, ◌≤◌, inl, inr, Bool}
use Rattle.std.proofs.Common.{true, false, List, Some, refl, sym, ap, subst, ◌∙◌, arith}
use Rattle.std.specs.Prelude.{slice_get}
use Rattle.std.proofs.Math.Nat.{eq-or-lt_of_le}
use Rattle.sixel_grammar.specs.declared.command.Event.{Event}
use Rattle.sixel_emulator.specs.declared.course.Course.{Course}
use Rattle.sixel_emulator.specs.declared.course.Course.TheVariants.{Goes, Stopped, Ended}
use Rattle.sixel_emulator.specs.declared.reading.Reads.{Reads}
use Rattle.sixel_emulator.specs.declared.reading.Reads.TheVariants.{Nothing, Draws, DrawsTwo, Stops, Unsaid}
use Rattle.sixel_emulator.specs.Courses.{HasEnded, HasStopped, IsAt, IsCourse, SaidBelow, next_course}
use Rattle.sixel_emulator.specs.Readings.{IsUnsaid, Model, StopsNowhereBelow, is_stop, is_unsaid_control, read_at}
use Rattle.sixel_emulator.specs.Readings.{EndsAt, IsReading, IsSaid}
use Rattle.sixel_emulator.specs.Readings.{reading_below}
use Rattle.sixel_emulator.specs.Readings.IsUnsaid.{Control, Behaviour}

-- what holds below n and at n holds below n + 1
one_more : (P : ℕ → Type 0) (n : ℕ) → ((k : ℕ) → k < n → P k) → P n → (k : ℕ) → k < suc n → P k
one_more P n below here k lt =
    let le : k ≤ n = omega arith in
    elim (eq-or-lt_of_le le) [
      | inl e ↦ subst P (sym e) here
      | inr l ↦ below k l
    ]

-- a control
pub unsaid_control : (m : Model) (events : List Event) (n : ℕ) (e : Event) (reads : Reads) → IsAt m events n e reads
    → is_unsaid_control m e ≡ true → IsUnsaid m events n
unsaid_control m events n e reads at control = Control e at.here control

-- no control, and the event isn't unsaid: it says what the terminal does
not_unsaid : (m : Model) (events : List Event) (n : ℕ) (e : Event) → slice_get events n ≡ Some e
    → is_unsaid_control m e ≡ false → (StopsNowhereBelow m events n → read_at m events n ≡ Unsaid → ⊥)
    → ¬ IsUnsaid m events n
not_unsaid m events n e here plain other (Control d there control) =
    let same : d ≡ e = some_same d e (sym there ∙ here) in
    both (is_unsaid_control m d) control (ap (is_unsaid_control m) same ∙ plain)
  where
    some_same : (a b : Event) → Some a ≡ Some b → a ≡ b
    some_same a b h = cc

    both : (b : Bool) → b ≡ true → b ≡ false → ⊥
    both true h k = cc
    both false h k = cc
not_unsaid m events n e here plain other (Behaviour goes is) = other goes is

pub ends_at : (m : Model) (events : List Event) (n : ℕ) → IsUnsaid m events n → SaidBelow m events n
    → HasEnded m events (suc n)
ends_at m events n unsaid said = record { at = n; within = omega arith; unsaid = unsaid; said = said }

pub stays_ended : {m : Model} {events : List Event} {n : ℕ} → HasEnded m events n → HasEnded m events (suc n)
stays_ended s = record { at = s.at; within = omega (arith, s.within); unsaid = s.unsaid; said = s.said }

stops_not : (m : Model) (events : List Event) (n : ℕ) → HasStopped m events n → StopsNowhereBelow m events n → ⊥
stops_not m events n s goes =
    both (is_stop (read_at m events s.end)) s.stops (goes s.end s.within)
  where
    both : (b : Bool) → b ≡ true → b ≡ false → ⊥
    both true h k = cc
    both false h k = cc

pub stays_stopped : {m : Model} {events : List Event} {n : ℕ} (e : Event) (reads : Reads) → IsAt m events n e reads
    → is_unsaid_control m e ≡ false → HasStopped m events n → HasStopped m events (suc n)
stays_stopped {m} {events} {n} e reads at plain s = record {
  end = s.end;
  within = omega (arith, s.within);
  goes_on = s.goes_on;
  stops = s.stops;
  said = one_more (λ k. ¬ IsUnsaid m events k) n s.said
      (not_unsaid m events n e at.here plain (λ goes is. stops_not m events n s goes));
}

-- an event that is read, and doesn't stop
goes_on : (m : Model) (events : List Event) (n : ℕ) (e : Event) (reads : Reads) → IsAt m events n e reads
    → is_unsaid_control m e ≡ false → is_stop reads ≡ false → (reads ≡ Unsaid → ⊥)
    → StopsNowhereBelow m events n → SaidBelow m events n
    → StopsNowhereBelow m events (suc n) × SaidBelow m events (suc n)
goes_on m events n e reads at plain stops said goes below = (
  one_more (λ k. is_stop (read_at m events k) ≡ false) n goes (ap is_stop (sym at.reads_are) ∙ stops),
  one_more (λ k. ¬ IsUnsaid m events k) n below
      (not_unsaid m events n e at.here plain (λ _ is. said (at.reads_are ∙ is))),
)

stops_here : (m : Model) (events : List Event) (n : ℕ) (e : Event) → IsAt m events n e Stops
    → is_unsaid_control m e ≡ false → StopsNowhereBelow m events n → SaidBelow m events n
    → HasStopped m events (suc n)
stops_here m events n e at plain goes below = record {
  end = n;
  within = omega arith;
  goes_on = goes;
  stops = ap is_stop (sym at.reads_are);
  said = one_more (λ k. ¬ IsUnsaid m events k) n below
      (not_unsaid m events n e at.here plain (λ _ is. stop_is_said (at.reads_are ∙ is)));
}
  where
    stop_is_said : Stops ≡ Unsaid → ⊥
    stop_is_said h = cc

pub course_push : (m : Model) (events : List Event) (n : ℕ) (e : Event) (c : Course) (b : Bool) (reads : Reads)
    → IsAt m events n e reads → b ≡ is_unsaid_control m e → IsCourse m events n c
    → IsCourse m events (suc n) (next_course c b reads)
course_push m events n e Ended b reads at is s = stays_ended s
course_push m events n e Stopped true reads at is s =
    ends_at m events n (unsaid_control m events n e reads at (sym is)) (stopped_said s)
  where
    stopped_said : HasStopped m events n → SaidBelow m events n
    stopped_said t = t.said
course_push m events n e Stopped false reads at is s = stays_stopped e reads at (sym is) s
course_push m events n e Goes true reads at is s =
    ends_at m events n (unsaid_control m events n e reads at (sym is)) s.1
course_push m events n e Goes false Nothing at is s =
    goes_on m events n e Nothing at (sym is) refl (λ h. cc) s.0 s.1
course_push m events n e Goes false (Draws command) at is s =
    goes_on m events n e (Draws command) at (sym is) refl (λ h. cc) s.0 s.1
course_push m events n e Goes false (DrawsTwo first second) at is s =
    goes_on m events n e (DrawsTwo first second) at (sym is) refl (λ h. cc) s.0 s.1
course_push m events n e Goes false Stops at is s = stops_here m events n e at (sym is) s.0 s.1
course_push m events n e Goes false Unsaid at is s =
    ends_at m events n (Behaviour s.0 (sym at.reads_are)) s.1

pub course_start : (m : Model) (events : List Event) → IsCourse m events 0 Goes
course_start m events = (λ k lt. absurd (omega arith), λ k lt. absurd (omega arith))

-- ---- at the end

pub goes_to_end : (m : Model) (events : List Event) → IsCourse m events (length events) Goes
    → IsSaid m events × IsReading m events (reading_below m events (length events))
goes_to_end m events s = (
  s.1,
  record {
    end = length events;
    within = omega arith;
    goes_on = s.0;
    stops = λ lt. absurd (omega arith);
    drawing_is = refl;
  },
)

pub stops_before_end : (m : Model) (events : List Event) → IsCourse m events (length events) Stopped
    → IsSaid m events × ((n : ℕ) × IsReading m events (reading_below m events n))
stops_before_end m events s = (
  s.said,
  (
    s.end,
    record {
      end = s.end;
      within = omega (arith, s.within);
      goes_on = s.goes_on;
      stops = λ lt. s.stops;
      drawing_is = refl;
    },
  ),
)

pub ends_before_end : (m : Model) (events : List Event) → IsCourse m events (length events) Ended
    → (i : ℕ) × EndsAt m events i
ends_before_end m events s = (s.at, record { within = s.within; unsaid = s.unsaid; first = s.said })
