-- How far a drawing by a model has come.
use Rattle.std.proofs.Common.{length, ◌≡◌, ℕ, zero, suc, ◌+◌, ◌≤◌, inl, inr, Bool, true, false, List, [], ◌∷◌}
use Rattle.std.proofs.Common.{◌-◌, ◌++◌, refl, sym, ap, subst, ◌∙◌, arith, append_assoc}
use Rattle.std.specs.Prelude.{Some, flat_map, slice_get}
use Rattle.std.specs.List.{range_with_len}
use Rattle.std.proofs.Math.Nat.{eq-or-lt_of_le}
use Rattle.std.proofs.lemmas.List.{append-nil, length-map}
use Rattle.std.proofs.lemmas.List.Concat.{flat_map-append}
use Rattle.sixel_grammar.specs.declared.command.Command.TheVariants.{Sixel}
use Rattle.sixel_grammar.specs.declared.command.Event.{Event}
use Rattle.sixel_grammar.specs.declared.command.Event.TheVariants.{Step}
use Rattle.sixel_grammar.specs.declared.command.Placed.{Placed}
use Rattle.sixel_grammar.specs.Document.{events_of}
use Rattle.sixel_terminal.specs.Drawings.{Drawn, HasDrawn}
use Rattle.sixel_emulator.specs.declared.course.Course.{Course}
use Rattle.sixel_emulator.specs.declared.course.Course.TheVariants.{Goes, Stopped, Ended}
use Rattle.sixel_emulator.specs.declared.reading.Reads.{Reads}
use Rattle.sixel_emulator.specs.declared.reading.Reads.TheVariants.{Nothing, Draws, DrawsTwo, Stops, Unsaid}
use Rattle.sixel_terminal.specs.Stretches.{sixels_of}
use Rattle.sixel_emulator.proofs.CourseLemmas.{course_push, stays_stopped}
use Rattle.sixel_emulator.specs.Courses.{AreDrawn, AreDrawnAs, AreSixels, HasEnded, HasStopped, IsAt, IsCourse}
use Rattle.sixel_emulator.specs.Courses.{SaidBelow, next_course}
use Rattle.sixel_emulator.specs.Modelled.{ComesBy, EndsAtPlace, HasDrawnBelow, HasEndedAt, HasPlace, IsDrawingOf}
use Rattle.sixel_emulator.specs.Modelled.{drawn_below}
use Rattle.sixel_emulator.specs.Readings.{IsSaid, Model, StopsNowhereBelow, carries_on, drawn_by, is_stop}
use Rattle.sixel_emulator.specs.Readings.{is_unsaid_control, read_at}

-- ---- before any event

pub come_start : (m : Model) (opening : List Event) (placed : List Placed) (c : Course) (end : ℕ) (d : Drawn)
    → ((events : List Event) → IsCourse m events 0 c) → HasDrawn d opening → ComesBy m opening placed 0 c end d
come_start m opening placed Goes end d s drawn = (
  s (events_of placed),
  record {
    end = 0;
    within = omega arith;
    goes_on = λ k lt. absurd (omega arith);
    stops = λ lt. absurd (omega arith);
    drawn = subst (HasDrawn d) (sym (append-nil opening)) drawn;
  },
)
come_start m opening placed Stopped end d s drawn = absurd (none_below (s (events_of placed)))
  where
    none_below : HasStopped m (events_of placed) 0 → ⊥
    none_below t = omega (arith, t.within)
come_start m opening placed Ended end d s drawn = absurd (none_below (s (events_of placed)))
  where
    none_below : HasEnded m (events_of placed) 0 → ⊥
    none_below t = omega (arith, t.within)

-- ---- one more event

not_both : (b : Bool) → b ≡ true → b ≡ false → ⊥
not_both true h k = cc
not_both false h k = cc

range_more : (a n : ℕ) → range_with_len a (suc n) ≡ range_with_len a n ++ (a + n) ∷ []
range_more a zero = ap (λ (k : ℕ). k ∷ []) (omega arith)
range_more a (suc n) =
    let same : a + 1 + n ≡ a + suc n = omega arith in
    ap (λ (ks : List ℕ). a ∷ ks)
    (range_more (a + 1) n ∙ ap (λ (k : ℕ). range_with_len (a + 1) n ++ k ∷ []) same)

below_more : (m : Model) (opening events : List Event) (n : ℕ) (reads : Reads) → reads ≡ read_at m events n
    → (opening ++ drawn_below m events n) ++ drawn_by reads
    ≡ opening ++ drawn_below m events (suc n)
below_more m opening events n reads is =
    let f : ℕ → List Event = λ i. drawn_by (read_at m events i) in
    let here : 0 + n ≡ n = omega arith in
    let last : flat_map f ((0 + n) ∷ []) ≡ drawn_by reads =
    ap (λ (k : ℕ). flat_map f (k ∷ [])) here ∙ (append-nil (f n) ∙ ap drawn_by (sym is)) in
    append_assoc opening (flat_map f (range_with_len 0 n)) (drawn_by reads)
    ∙ ap (λ (es : List Event). opening ++ es)
    (ap (λ (es : List Event). flat_map f (range_with_len 0 n) ++ es) (sym last)
    ∙ (sym (flat_map-append f (range_with_len 0 n) ((0 + n) ∷ []))
    ∙ ap (flat_map f) (sym (range_more 0 n))))

-- if it stops nowhere below n, all below n is drawn
all_below : {m : Model} {opening events : List Event} {n : ℕ} {d : Drawn} → StopsNowhereBelow m events n
    → (h : HasDrawnBelow m opening events n d) → h.end ≡ n
all_below {m} {opening} {events} {n} {d} goes h =
    elim (eq-or-lt_of_le h.within) [
      | inl e ↦ e
      | inr lt ↦ absurd (not_both _ (h.stops lt) (goes h.end lt))
    ]

draws_on : (m : Model) (opening events : List Event) (n : ℕ) (reads : Reads) (d after : Drawn)
    → reads ≡ read_at m events n → StopsNowhereBelow m events (suc n)
    → ((before : List Event) → HasDrawn d before → HasDrawn after (before ++ drawn_by reads))
    → HasDrawnBelow m opening events n d → HasDrawnBelow m opening events (suc n) after
draws_on m opening events n reads d after is goes draws h =
    let all : h.end ≡ n = all_below (λ k lt. goes k (omega (arith, lt))) h in
    record {
      end = suc n;
      within = omega arith;
      goes_on = goes;
      stops = λ lt. absurd (omega (arith, lt));
      drawn = subst (HasDrawn after)
          (ap (λ (k : ℕ). (opening ++ drawn_below m events k) ++ drawn_by reads) all
          ∙ below_more m opening events n reads is)
          (draws _ h.drawn);
    }

stops_on : (m : Model) (opening events : List Event) (n : ℕ) (d : Drawn) → HasStopped m events (suc n)
    → HasDrawnBelow m opening events n d → HasDrawnBelow m opening events (suc n) d
stops_on m opening events n d s h = record {
  end = h.end;
  within = omega (arith, h.within);
  goes_on = h.goes_on;
  stops = λ lt. elim (eq-or-lt_of_le h.within) [
    | inl e ↦ at_end e
    | inr less ↦ h.stops less
  ];
  drawn = h.drawn;
}
  where
    at_end : h.end ≡ n → is_stop (read_at m events h.end) ≡ true
    at_end e =
        let le : s.end ≤ n = omega (arith, s.within) in
        elim (eq-or-lt_of_le le) [
          | inl at ↦ subst (λ (k : ℕ). is_stop (read_at m events k) ≡ true) (at ∙ sym e) s.stops
          | inr lt ↦ absurd (not_both _ s.stops (h.goes_on s.end (omega (arith, lt, e))))
        ]

ends_on : (m : Model) (placed : List Placed) (n place : ℕ) → HasPlace placed n place
    → SaidBelow m (events_of placed) n → HasEnded m (events_of placed) (suc n) → HasEndedAt m placed (suc n) place
ends_on m placed n place has said s =
    let le : s.at ≤ n = omega (arith, s.within) in
    elim (eq-or-lt_of_le le) [
      | inl e ↦ record { ended = s; has_place = subst (λ (k : ℕ). HasPlace placed k place) (sym e) has }
      | inr lt ↦ absurd (said s.at lt s.unsaid)
    ]

not_drawn : (m : Model) (opening events : List Event) (n : ℕ) (d drawing : Drawn)
    → ((before : List Event) → HasDrawn d before → HasDrawn drawing before) → HasStopped m events (suc n)
    → HasDrawnBelow m opening events n d → HasDrawnBelow m opening events (suc n) drawing
not_drawn m opening events n d drawing keeps s h =
    let more : HasDrawnBelow m opening events (suc n) d = stops_on m opening events n d s h in
    record {
      end = more.end;
      within = more.within;
      goes_on = more.goes_on;
      stops = more.stops;
      drawn = keeps _ more.drawn;
    }

pub come_on : (m : Model) (opening : List Event) (placed : List Placed) (n : ℕ) (e : Event) (reads : Reads)
    (c after : Course) (end place : ℕ) (d drawing : Drawn) → (c ≡ Ended → ⊥) → IsAt m (events_of placed) n e reads
    → HasPlace placed n place → (IsCourse m (events_of placed) n c → IsCourse m (events_of placed) (suc n) after)
    → (after ≡ Goes → (before : List Event) → HasDrawn d before → HasDrawn drawing (before ++ drawn_by reads))
    → ((after ≡ Goes → ⊥) → (before : List Event) → HasDrawn d before → HasDrawn drawing before)
    → ComesBy m opening placed n c end d
    → ComesBy m opening placed (suc n) after place drawing
come_on m opening placed n e reads Goes Goes end place d drawing goes at has course draws keeps come = (
  course come.0,
  draws_on m opening (events_of placed) n reads d drawing at.reads_are (course come.0).0 (draws refl) come.1,
)
come_on m opening placed n e reads Goes Stopped end place d drawing goes at has course draws keeps come = (
  course come.0,
  not_drawn m opening (events_of placed) n d drawing (keeps (λ h. cc)) (course come.0) come.1,
)
come_on m opening placed n e reads Goes Ended end place d drawing goes at has course draws keeps come =
    ends_on m placed n place has come.0.1 (course come.0)
come_on m opening placed n e reads Stopped Goes end place d drawing goes at has course draws keeps come = (
  course come.0,
  draws_on m opening (events_of placed) n reads d drawing at.reads_are (course come.0).0 (draws refl) come.1,
)
come_on m opening placed n e reads Stopped Stopped end place d drawing goes at has course draws keeps come = (
  course come.0,
  not_drawn m opening (events_of placed) n d drawing (keeps (λ h. cc)) (course come.0) come.1,
)
come_on m opening placed n e reads Stopped Ended end place d drawing goes at has course draws keeps come =
    ends_on m placed n place has (said come.0) (course come.0)
  where
    said : HasStopped m (events_of placed) n → SaidBelow m (events_of placed) n
    said s = s.said
come_on m opening placed n e reads Ended after end place d drawing goes at has course draws keeps come =
    absurd (goes refl)

pub come_ended : (m : Model) (opening : List Event) (placed : List Placed) (n : ℕ) (c : Course) (end : ℕ) (d : Drawn)
    → c ≡ Ended → ComesBy m opening placed n c end d → ComesBy m opening placed (suc n) c end d
come_ended m opening placed n Ended end d is s = record {
  ended = record {
    at = s.ended.at;
    within = omega (arith, s.ended.within);
    unsaid = s.ended.unsaid;
    said = s.ended.said;
  };
  has_place = s.has_place;
}
come_ended m opening placed n Goes end d is s = absurd cc
come_ended m opening placed n Stopped end d is s = absurd cc

-- ---- sixels behind a stop

further : (P : ℕ → Type 0) (n k : ℕ) → P (suc n + k) → P (n + suc k)
further P n k h = subst P (omega arith) h

not_further : (P : ℕ → Type 0) (n : ℕ) → P n → P (n + 0)
not_further P n h = subst P (omega arith) h

at_sixel : (m : Model) (events : List Event) (n b : ℕ) → slice_get events n ≡ Some (Step (Sixel (b - 63)))
    → IsAt m events n (Step (Sixel (b - 63))) (read_at m events n)
at_sixel m events n b here = record { here = here; reads_are = refl }

stopped_past : (m : Model) (opening events : List Event) (n : ℕ) (bytes : List ℕ) (d : Drawn)
    → AreSixels events n bytes → HasStopped m events n → HasDrawnBelow m opening events n d
    → HasStopped m events (n + length bytes) × HasDrawnBelow m opening events (n + length bytes) d
stopped_past m opening events n [] d are s h = (
  not_further (λ k. HasStopped m events k) n s,
  not_further (λ k. HasDrawnBelow m opening events k d) n h,
)
stopped_past m opening events n (b ∷ bs) d are s h =
    let next : HasStopped m events (suc n) =
    stays_stopped (Step (Sixel (b - 63))) (read_at m events n) (at_sixel m events n b are.0) refl s in
    further (λ k. HasStopped m events k × HasDrawnBelow m opening events k d) n (length bs)
    (stopped_past m opening events (suc n) bs d are.1 next (stops_on m opening events n d next h))

pub come_past : (m : Model) (opening : List Event) (placed : List Placed) (n : ℕ) (bytes : List ℕ) (c : Course)
    (end : ℕ) (d : Drawn) → (c ≡ Goes → ⊥) → AreSixels (events_of placed) n bytes → ComesBy m opening placed n c end d
    → ComesBy m opening placed (n + length bytes) c end d
come_past m opening placed n bytes Goes end d over are come = absurd (over refl)
come_past m opening placed n bytes Stopped end d over are come =
    stopped_past m opening (events_of placed) n bytes d are come.0 come.1
come_past m opening placed n bytes Ended end d over are come = record {
  ended = record {
    at = come.ended.at;
    within = omega (arith, come.ended.within);
    unsaid = come.ended.unsaid;
    said = come.ended.said;
  };
  has_place = come.has_place;
}

-- ---- an event at which the model goes on

same_course : (c : Course) (reads : Reads) → carries_on reads ≡ true → next_course c false reads ≡ c
same_course Goes Nothing is = refl
same_course Goes (Draws command) is = refl
same_course Goes (DrawsTwo first second) is = refl
same_course Goes Stops is = cc
same_course Goes Unsaid is = cc
same_course Stopped reads is = refl
same_course Ended reads is = refl

course_kept : (m : Model) (events : List Event) (n : ℕ) (e : Event) (reads : Reads) (c : Course)
    → IsAt m events n e reads → is_unsaid_control m e ≡ false → carries_on reads ≡ true → IsCourse m events n c
    → IsCourse m events (suc n) c
course_kept m events n e reads c at said goes s =
    subst (IsCourse m events (suc n)) (same_course c reads goes)
    (course_push m events n e c false reads at (sym said) s)

pub come_one : (m : Model) (opening : List Event) (placed : List Placed) (n : ℕ) (e : Event) (reads : Reads)
    (c : Course) (end : ℕ) (d after : Drawn) → IsAt m (events_of placed) n e reads → is_unsaid_control m e ≡ false
    → carries_on reads ≡ true
    → (c ≡ Goes → (before : List Event) → HasDrawn d before → HasDrawn after (before ++ drawn_by reads))
    → ((c ≡ Goes → ⊥) → after ≡ d) → ComesBy m opening placed n c end d → ComesBy m opening placed (suc n) c end after
come_one m opening placed n e reads Goes end d after at said goes draws keeps come =
    let course = course_kept m (events_of placed) n e reads Goes at said goes come.0 in (
      course,
      draws_on m opening (events_of placed) n reads d after at.reads_are course.0 (draws refl) come.1,
    )
come_one m opening placed n e reads Stopped end d after at said goes draws keeps come =
    let course = course_kept m (events_of placed) n e reads Stopped at said goes come.0 in (
      course,
      subst (HasDrawnBelow m opening (events_of placed) (suc n)) (sym (keeps (λ h. cc)))
          (stops_on m opening (events_of placed) n d course come.1),
    )
come_one m opening placed n e reads Ended end d after at said goes draws keeps come =
    come_ended m opening placed n Ended end d refl come

-- ---- sixels of which this is drawn

course_drawn : (m : Model) (events : List Event) (n : ℕ) (bytes : List ℕ) (drawn : List Event)
    → AreDrawnAs m events n bytes drawn → IsCourse m events n Goes → IsCourse m events (n + length bytes) Goes
course_drawn m events n [] drawn are s = not_further (λ k. IsCourse m events k Goes) n s
course_drawn m events n (b ∷ bs) drawn are s =
    further (λ k. IsCourse m events k Goes) n (length bs)
    (course_drawn m events (suc n) bs are.2 are.4
    (course_kept m events n (Step (Sixel (b - 63))) (read_at m events n) Goes (at_sixel m events n b are.0) refl are.1 s))

drawn_further : (m : Model) (opening events : List Event) (n : ℕ) (bytes : List ℕ) (drawn : List Event)
    → AreDrawnAs m events n bytes drawn
    → (opening ++ drawn_below m events n) ++ drawn ≡ opening ++ drawn_below m events (n + length bytes)
drawn_further m opening events n [] drawn are =
    let same : n ≡ n + 0 = omega arith in
    ap (λ (es : List Event). (opening ++ drawn_below m events n) ++ es) are
    ∙ (append-nil (opening ++ drawn_below m events n) ∙ ap (λ (k : ℕ). opening ++ drawn_below m events k) same)
drawn_further m opening events n (b ∷ bs) drawn are =
    let same : suc n + length bs ≡ n + suc (length bs) = omega arith in
    let here : List Event = drawn_by (read_at m events n) in
    ap (λ (es : List Event). (opening ++ drawn_below m events n) ++ es) are.3
    ∙ (sym (append_assoc (opening ++ drawn_below m events n) here are.2)
    ∙ (ap (λ (es : List Event). es ++ are.2) (below_more m opening events n (read_at m events n) refl)
    ∙ (drawn_further m opening events (suc n) bs are.2 are.4
    ∙ ap (λ (k : ℕ). opening ++ drawn_below m events k) same)))

are_there : (m : Model) (events : List Event) (n : ℕ) (bytes : List ℕ) (drawn : List Event)
    → AreDrawnAs m events n bytes drawn → AreSixels events n bytes
are_there m events n [] drawn are = tt
are_there m events n (b ∷ bs) drawn are = (are.0, are_there m events (suc n) bs are.2 are.4)

pub come_drawn : (m : Model) (opening : List Event) (placed : List Placed) (n : ℕ) (bytes : List ℕ)
    (drawn : List Event) (c : Course) (end : ℕ) (d after : Drawn) → AreDrawnAs m (events_of placed) n bytes drawn
    → (c ≡ Goes → (before : List Event) → HasDrawn d before → HasDrawn after (before ++ drawn))
    → ((c ≡ Goes → ⊥) → after ≡ d) → ComesBy m opening placed n c end d
    → ComesBy m opening placed (n + length bytes) c end after
come_drawn m opening placed n bytes drawn Goes end d after are draws keeps come =
    let goes = course_drawn m (events_of placed) n bytes drawn are come.0 in
    let all : come.1.end ≡ n = all_below come.0.0 come.1 in (
      goes,
      record {
        end = n + length bytes;
        within = omega arith;
        goes_on = goes.0;
        stops = λ lt. absurd (omega (arith, lt));
        drawn = subst (HasDrawn after)
            (ap (λ (k : ℕ). (opening ++ drawn_below m (events_of placed) k) ++ drawn) all
            ∙ drawn_further m opening (events_of placed) n bytes drawn are)
            (draws refl _ come.1.drawn);
      },
    )
come_drawn m opening placed n bytes drawn Stopped end d after are draws keeps come =
    subst (ComesBy m opening placed (n + length bytes) Stopped end) (sym (keeps (λ h. cc)))
    (come_past m opening placed n bytes Stopped end d (λ h. cc) (are_there m (events_of placed) n bytes drawn are) come)
come_drawn m opening placed n bytes drawn Ended end d after are draws keeps come =
    come_past m opening placed n bytes Ended end d (λ h. cc) (are_there m (events_of placed) n bytes drawn are) come

-- ---- sixels that are drawn as they are

as_they_are : (m : Model) (events : List Event) (n : ℕ) (bytes : List ℕ) → AreDrawn m events n bytes
    → AreDrawnAs m events n bytes (sixels_of bytes)
as_they_are m events n [] drawn = refl
as_they_are m events n (b ∷ bs) drawn =
    let is : read_at m events n ≡ Draws (Sixel (b - 63)) = sym drawn.0.reads_are in (
      drawn.0.here,
      ap carries_on is,
      sixels_of bs,
      ap (λ (reads : Reads). drawn_by reads ++ sixels_of bs) (sym is),
      as_they_are m events (suc n) bs drawn.1,
    )

pub come_sixels : (m : Model) (opening : List Event) (placed : List Placed) (n : ℕ) (bytes : List ℕ) (c : Course)
    (end : ℕ) (d after : Drawn) → AreDrawn m (events_of placed) n bytes
    → (c ≡ Goes → (before : List Event) → HasDrawn d before → HasDrawn after (before ++ sixels_of bytes))
    → ((c ≡ Goes → ⊥) → after ≡ d) → ComesBy m opening placed n c end d
    → ComesBy m opening placed (n + length bytes) c end after
come_sixels m opening placed n bytes c end d after drawn draws keeps come =
    come_drawn m opening placed n bytes (sixels_of bytes) c end d after
    (as_they_are m (events_of placed) n bytes drawn) draws keeps come

-- ---- at the end

-- what is drawn below the end is what a plain terminal draws in place of all events
is_drawing : (m : Model) (opening : List Event) (placed : List Placed) (d : Drawn) → IsSaid m (events_of placed)
    → HasDrawnBelow m opening (events_of placed) (length (events_of placed)) d
    → IsDrawingOf m opening (events_of placed) d
is_drawing m opening placed d said h = record {
  said = said;
  drawing = drawn_below m (events_of placed) h.end;
  is_reading = record {
    end = h.end;
    within = h.within;
    goes_on = h.goes_on;
    stops = h.stops;
    drawing_is = refl;
  };
  drawn = h.drawn;
}

same_length : (placed : List Placed) → length placed ≡ length (events_of placed)
same_length placed = sym (length-map placed (λ (p : Placed). p.event))

to_end : (m : Model) (opening : List Event) (placed : List Placed) (c : Course) (end : ℕ) (d : Drawn)
    → ComesBy m opening placed (length placed) c end d
    → ComesBy m opening placed (length (events_of placed)) c end d
to_end m opening placed c end d s =
    subst (λ (n : ℕ). ComesBy m opening placed n c end d) (same_length placed) s

drawn_to_end : (m : Model) (opening : List Event) (placed : List Placed) (c : Course) (end : ℕ) (d : Drawn)
    → (c ≡ Ended → ⊥) → ComesBy m opening placed (length (events_of placed)) c end d
    → IsDrawingOf m opening (events_of placed) d
drawn_to_end m opening placed Goes end d goes s = is_drawing m opening placed d s.0.1 s.1
drawn_to_end m opening placed Stopped end d goes s = is_drawing m opening placed d (said s.0) s.1
  where
    said : HasStopped m (events_of placed) (length (events_of placed)) → IsSaid m (events_of placed)
    said t = t.said
drawn_to_end m opening placed Ended end d goes s = absurd (goes refl)

ended_at_end : (m : Model) (opening : List Event) (placed : List Placed) (c : Course) (end : ℕ) (d : Drawn)
    → c ≡ Ended → ComesBy m opening placed (length (events_of placed)) c end d → EndsAtPlace m placed end
ended_at_end m opening placed Ended end d is s = record {
  at = s.ended.at;
  ends = record { within = s.ended.within; unsaid = s.ended.unsaid; first = s.ended.said };
  has_place = s.has_place;
}
ended_at_end m opening placed Goes end d is s = absurd cc
ended_at_end m opening placed Stopped end d is s = absurd cc

pub goes_not_ended : {c : Course} → c ≡ Goes → c ≡ Ended → ⊥
goes_not_ended h k = cc

pub stopped_not_ended : {c : Course} → c ≡ Stopped → c ≡ Ended → ⊥
stopped_not_ended h k = cc

pub gives_drawing : (m : Model) (opening : List Event) (placed : List Placed) (c : Course) (end : ℕ) (d : Drawn)
    → (c ≡ Ended → ⊥) → ComesBy m opening placed (length placed) c end d → IsDrawingOf m opening (events_of placed) d
gives_drawing m opening placed c end d goes s =
    drawn_to_end m opening placed c end d goes (to_end m opening placed c end d s)

pub gives_place : (m : Model) (opening : List Event) (placed : List Placed) (c : Course) (end : ℕ) (d : Drawn)
    → c ≡ Ended → ComesBy m opening placed (length placed) c end d → EndsAtPlace m placed end
gives_place m opening placed c end d is s =
    ended_at_end m opening placed c end d is (to_end m opening placed c end d s)
