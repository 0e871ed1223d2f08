-- mlterm shows the picture that a list leaves, if no rule is broken, nor those that mlterm asks for.
use Rattle.std.proofs.Common.{◌≡◌, ℕ, ◌≤◌, Option, Some, None, List, [], ◌∷◌, ◌++◌}
use Rattle.std.proofs.Common.{length, refl, sym, ap, subst, ◌∙◌, take, arith}
use Rattle.std.specs.Prelude.{unwrap_or, IsSome}
use Rattle.std.proofs.lemmas.List.FromFn.{length-map-range_with_len}
use Rattle.sixel_grammar.specs.declared.command.Command.TheVariants.{Sixel}
use Rattle.sixel_grammar.specs.declared.command.Event.{Event}
use Rattle.sixel_grammar.specs.declared.command.Event.TheVariants.{Start, Step, Finish}
use Rattle.sixel_grammar.specs.Document.{AreWhole}
use Rattle.sixel_model.specs.declared.colour.Parts.{Parts}
use Rattle.sixel_model.specs.declared.rule.Rule.TheVariants.{Uncovered}
use Rattle.sixel_model.specs.Events.{Attributes}
use Rattle.sixel_model.specs.Geometry.{falls}
use Rattle.sixel_model.specs.Positions.{last_at}
use Rattle.sixel_model.specs.Rules.{BreaksNone, picture_left, raster_before}
use Rattle.sixel_model.proofs.PositionLemmas.{and_false}
use Rattle.sixel_model.proofs.RuleLemmas.{Keeps, keeps_at, none_drawn}
use Rattle.sixel_terminal.specs.Drawing.{IsPainted, inked_on, map_on, selected_on, shown_on, stood_on}
use Rattle.sixel_named_terminals.specs.declared.named.Named.TheVariants.{MlTerm}
use Rattle.sixel_mlterm.specs.MlTerm.{mlterm, mlterm_model}
use Rattle.sixel_mlterm.specs.Settings.{mlterm_colours, mlterm_display, mlterm_start}
use Rattle.sixel_judge.specs.Portable.{Shows}
use Rattle.sixel_judge.proofs.CoverLemmas.{box_there}
use Rattle.sixel_judge.proofs.OptionLemmas.{some_value}
use Rattle.sixel_emulator_rules_laws.proofs.AskedForms.{BreaksFor, BreaksNoneFor, none_for}
use Rattle.sixel_emulator_rules_laws.specs.Laws.{ShowsPortable}
use Rattle.sixel_emulator_rules_laws.proofs.InkLemmas.{inked_painted, last_at_same, last_ink, map_if, painted_inked}
use Rattle.sixel_emulator_rules_laws.proofs.AskedLemmas.{by_events, fresh_at, taken_events}
use Rattle.sixel_emulator_rules_laws.proofs.MlTermBufferLemmas.{IsBuffered, buffered_none, buffered_push}
use Rattle.sixel_emulator_rules_laws.proofs.MlTermFollowLemmas.{IsAlong, along_none, along_push}
use Rattle.sixel_emulator_rules_laws.proofs.MlTermMissedLemmas.{IsMissed, missed_push, missed_taken, not_missed}
use Rattle.sixel_emulator_rules_laws.proofs.MlTermReadLemmas.{mlterm_draws, mlterm_reads, not_far}
use Rattle.sixel_emulator_rules_laws.proofs.PlainLemmas.{IsBare, last_inked}
use Rattle.sixel_emulator_rules_laws.proofs.PlainShownLemmas.{IsLike, painted_inside, shows_like}
use Rattle.sixel_emulator_rules_laws.proofs.ReadingLemmas.{IsClear, IsRead, SaysControls, by_none, by_push}
use Rattle.sixel_emulator_rules_laws.proofs.ReadingLemmas.{clear_reading, clear_said}
use Rattle.sixel_emulator_rules_laws.proofs.ReadingLemmas.{drawing_by}

-- ---- what mlterm reads

abbrev IsBufferedNow : List Event → Type 0
IsBufferedNow before = IsBuffered before (raster_before before)

-- the box's first row isn't missed
abbrev IsReached : List Event → Type 0
IsReached before = ¬ IsMissed before

reached_before : (before : List Event) (e : Event) → IsReached (before ++ e ∷ []) → IsReached before
reached_before before e reached missed = reached (missed_push before e missed)

buffered : (n : ℕ) (events : List Event) → BreaksNone n Uncovered events → BreaksNoneFor MlTerm events
    → IsReached events → IsBufferedNow events
buffered n events none fresh =
    by_events MlTerm n (λ before. IsReached before → IsBufferedNow before) (λ reached. buffered_none)
    (λ before e unbroken k new b reached.
    buffered_push n before e k (not_far before e new) reached (b (reached_before before e reached))) events none fresh

-- the reading doesn't depend on the event after
alone : (before : List Event) (e : Event) (next : Option Event) → mlterm before e next ≡ mlterm before e None
alone before (Start eight parameters) next = refl
alone before (Finish eight) next = refl
alone before (Step (Sixel bits)) next = refl
alone before (Step _) next = refl

clear : (n : ℕ) (events : List Event) → n ≤ 256 → BreaksNone n Uncovered events → BreaksNoneFor MlTerm events
    → IsReached events → IsClear mlterm_model events
clear n events few none fresh reached = record {
  opens = refl;
  alone = alone;
  on = λ i e here.
      let before = taken_events MlTerm n events i none fresh in
      (mlterm_reads n (take i events) e few before.0 (keeps_at n events none i e here)
      (fresh_at MlTerm events i e fresh here)
      (buffered n (take i events) before.0 before.1 (λ missed. reached (missed_taken events i missed)))).goes_on;
}

says_controls : (events : List Event) → SaysControls mlterm_model events
says_controls events i (Start eight parameters) here = and_false eight
says_controls events i (Step command) here = refl
says_controls events i (Finish eight) here = and_false eight

-- ---- what it draws

abbrev IsFollowed : Parts → ℕ → ℕ → List Event → Type 0
IsFollowed background w h before = IsAlong background w h before (drawing_by mlterm before)

followed_push : (background : Parts) (w h n : ℕ) (before : List Event) (e : Event) → n ≤ 256
    → BreaksNone n Uncovered before → Keeps n before e → ¬ BreaksFor MlTerm before e → IsReached (before ++ e ∷ [])
    → IsBufferedNow before × IsFollowed background w h before
    → IsBufferedNow (before ++ e ∷ []) × IsFollowed background w h (before ++ e ∷ [])
followed_push background w h n before e few none k new reached (b, f) =
    let r : IsRead (mlterm before e None) (mlterm_draws e) = mlterm_reads n before e few none k new b in (
      buffered_push n before e k (not_far before e new) reached b,
      subst (IsAlong background w h (before ++ e ∷ []))
          (sym (by_push mlterm before e ∙ ap (λ (es : List Event). drawing_by mlterm before ++ es) r.drawn_is))
          (along_push e k f),
    )

followed : (background : Parts) (w h n : ℕ) (events : List Event) → n ≤ 256 → BreaksNone n Uncovered events
    → BreaksNoneFor MlTerm events → IsReached events → IsFollowed background w h events
followed background w h n events few none fresh reached =
    (by_events MlTerm n (λ before. IsReached before → IsBufferedNow before × IsFollowed background w h before)
    (λ kept. (buffered_none, subst (IsAlong background w h []) (sym (by_none mlterm)) (along_none background w h)))
    (λ before e unbroken k new f kept.
    followed_push background w h n before e few unbroken k new kept (f (reached_before before e kept)))
    events none fresh reached).1

-- ---- what is shown

bare : (background : Parts) (w h : ℕ) → IsBare (mlterm_display background w h)
bare background w h =
    record { zero = refl; tall = refl; whole = refl; eight_bit = refl; left = refl; top = refl }

inked_last : (background : Parts) (w h : ℕ) (events : List Event) (x y : ℕ)
    → last_at (inked_on (mlterm_display background w h) events x y) events
    ≡ last_ink (mlterm_display background w h) events x y
inked_last background w h events x y =
    let t = mlterm_display background w h in
    last_inked t events x y (bare background w h)
    ∙ last_at_same _ _ events (λ before e. map_if (map_on t before) (falls before e x y) (selected_on t before))

same_inked : (background : Parts) (w h : ℕ) (events : List Event) (x y : ℕ) → IsFollowed background w h events
    → last_at (inked_on (mlterm_display background w h) (drawing_by mlterm events) x y) (drawing_by mlterm events)
    ≡ last_at (inked_on (mlterm_display background w h) events x y) events
same_inked background w h events x y f =
    inked_last background w h (drawing_by mlterm events) x y
    ∙ (f.inks_are x y ∙ sym (inked_last background w h events x y))

same_shown : (background : Parts) (w h : ℕ) (events : List Event) (x y : ℕ) → IsFollowed background w h events
    → shown_on (mlterm_display background w h) (drawing_by mlterm events) x y
    ≡ shown_on (mlterm_display background w h) events x y
unfolding shown_on
same_shown background w h events x y f =
    ap (λ (o : Option Parts). unwrap_or o (stood_on (mlterm_display background w h) x y))
    (same_inked background w h events x y f)

painted_too : (background : Parts) (w h : ℕ) (events : List Event) (x y : ℕ) → IsFollowed background w h events
    → IsPainted (mlterm_display background w h) (drawing_by mlterm events) x y
    → IsPainted (mlterm_display background w h) events x y
painted_too background w h events x y f painted =
    let t = mlterm_display background w h in
    inked_painted t events x y
    (subst (λ (o : Option Parts). IsSome o) (same_inked background w h events x y f)
    (painted_inked t (drawing_by mlterm events) x y painted))

count : (background : Parts) → length (mlterm_colours background) ≡ 1024
unfolding mlterm_colours
count background = length-map-range_with_len (mlterm_start background) 0 1024

box_shown : (background : Parts) (w h n : ℕ) (events : List Event) (a : Attributes) → n ≤ 256 → AreWhole events
    → BreaksNone n Uncovered events → raster_before events ≡ Some a → IsFollowed background w h events
    → Shows (mlterm_display background w h) (drawing_by mlterm events) (picture_left n events)
box_shown background w h n events a few whole none box f =
    let t = mlterm_display background w h in
    let many : length (mlterm_colours background) ≡ 1024 = count background in
    let like : IsLike t t a events (drawing_by mlterm events) = record {
      inside = λ x y right below. same_shown background w h events x y f;
      outside = λ x y painted. painted_inside n t events a x y (bare background w h) none box
          (painted_too background w h events x y f painted);
    } in
    shows_like n t t events (drawing_by mlterm events) a (bare background w h) (bare background w h)
    (omega (arith, few, many)) whole none box like

-- for counts of registers whose starting colours mlterm says
pub mlterm_shows : (n : ℕ) → n ≤ 256 → ShowsPortable MlTerm n
mlterm_shows n few background width height events whole none unasked across down =
    let fresh : BreaksNoneFor MlTerm events = none_for MlTerm events unasked in
    let drawn : BreaksNone n Uncovered events = none_drawn n events none in
    let a = some_value (raster_before events) (box_there n events whole drawn) in
    let reached : IsReached events = not_missed n events whole drawn in
    let reads : IsClear mlterm_model events = clear n events few drawn fresh reached in
    record {
      said = clear_said mlterm_model events reads (says_controls events);
      drawing = drawing_by mlterm events;
      is_reading = clear_reading mlterm_model events reads;
      shows = box_shown background width height n events a.0 few whole drawn a.1
          (followed background width height n events few drawn fresh reached);
    }
