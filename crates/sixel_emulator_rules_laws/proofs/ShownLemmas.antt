-- foot shows the picture that a list leaves, if no rule is broken and no command is stale.
use Rattle.std.proofs.Common.{◌≡◌, ℕ, ◌+◌, ◌<◌, ◌≤◌, true, Option, Some, List, [], ◌∷◌, ◌++◌, length, replicate}
use Rattle.std.proofs.Common.{refl, sym, ap, subst, ◌∙◌, arith}
use Rattle.std.specs.Prelude.{unwrap_or, IsSome}
use Rattle.std.proofs.lemmas.List.{length-replicate}
use Rattle.sixel_grammar.specs.declared.command.Event.{Event}
use Rattle.sixel_grammar.specs.Document.{AreWhole}
use Rattle.sixel_model.specs.declared.colour.Parts.{Parts}
use Rattle.sixel_model.specs.declared.rule.Rule.TheVariants.{Uncovered}
use Rattle.sixel_model.specs.Events.{Attributes}
use Rattle.sixel_model.specs.Positions.{last_at, last_below, latest}
use Rattle.sixel_model.specs.Rules.{BreaksNone, picture_left, raster_before}
use Rattle.sixel_model.proofs.RuleLemmas.{Keeps, none_drawn}
use Rattle.sixel_terminal.specs.Drawing.{IsPainted, inked_on, is_seen_on, shown_on, stood_on}
use Rattle.sixel_foot.specs.Settings.{foot_colours, foot_display}
use Rattle.sixel_judge.specs.Portable.{Shows}
use Rattle.sixel_judge.proofs.CoverLemmas.{box_there}
use Rattle.sixel_judge.proofs.OptionLemmas.{some_value}
use Rattle.sixel_judge.proofs.ShownLemmas.{shows_left, size_left}
use Rattle.sixel_judge.proofs.WithinLemmas.{none_painted_outside}
use Rattle.sixel_named_terminals.specs.declared.named.Named.TheVariants.{Foot}
use Rattle.sixel_emulator_rules_laws.specs.Laws.{ShowsPortable}
use Rattle.sixel_emulator_rules.specs.Stale.{IsStale}
use Rattle.sixel_emulator_rules_laws.specs.Stale.{NoneIsStale}
use Rattle.sixel_emulator_rules_laws.proofs.AskedForms.{BreaksNoneFor, none_for}
use Rattle.sixel_emulator_rules_laws.proofs.AskedLemmas.{by_events}
use Rattle.sixel_emulator_rules_laws.proofs.DrawingLemmas.{drawing_is_reading, drawing_none, drawing_push, foot_drawing}
use Rattle.sixel_emulator_rules_laws.proofs.FollowLemmas.{HasPen, Moves, beside}
use Rattle.sixel_emulator_rules_laws.proofs.InkLemmas.{inked_painted, last_inked, painted_inked}
use Rattle.sixel_emulator_rules_laws.proofs.SaidLemmas.{all_is_said, sized_start}
use Rattle.sixel_emulator_rules_laws.proofs.SizeLemmas.{IsSized, sized_push}
use Rattle.sixel_emulator_rules_laws.proofs.StepLemmas.{IsNext, moves_push, pen_push}

-- ---- what is drawn

-- foot's drawing paints what the events paint
record IsFollowed (background : Parts) (w h : ℕ) (before : List Event) : Type 0 where
  pub moves : Moves background w h before (foot_drawing before)
  pub has : HasPen background w h before (foot_drawing before)
  pub sized : IsSized before (raster_before before)

followed_none : (background : Parts) (w h : ℕ) → IsFollowed background w h []
unfolding latest last_at last_below
followed_none background w h = record {
  moves = rw drawing_none (record { line = refl; left = refl; inks_are = λ x y. refl });
  has = λ r c last at. cc;
  sized = sized_start;
}

followed_push : (background : Parts) (w h n : ℕ) (before : List Event) (e : Event) → n ≤ 1024
    → BreaksNone n Uncovered before → Keeps n before e → ¬ IsStale before e
    → IsFollowed background w h before → IsFollowed background w h (before ++ e ∷ [])
followed_push background w h n before e few none k fresh f =
    let i : IsNext background w h n before (foot_drawing before) e = record {
      few = few;
      unbroken = none;
      keeps = k;
      sized = f.sized;
      fresh = fresh;
      moves = f.moves;
      has = f.has;
    } in
    record {
      moves = rw (drawing_push before e) (moves_push e i);
      has = rw (drawing_push before e) (pen_push e i);
      sized = sized_push n before e k f.sized;
    }

followed : (background : Parts) (w h n : ℕ) (events : List Event) → n ≤ 1024 → BreaksNone n Uncovered events
    → NoneIsStale events → IsFollowed background w h events
followed background w h n events few none fresh =
    by_events Foot n (IsFollowed background w h) (followed_none background w h)
    (λ before e unbroken k new f. followed_push background w h n before e few unbroken k new f) events none fresh

-- ---- what is shown

same_inked : (background : Parts) (w h : ℕ) (events : List Event) (x y : ℕ) → IsFollowed background w h events
    → last_at (inked_on (foot_display background w h) (foot_drawing events) (0 + x) (0 + y)) (foot_drawing events)
    ≡ last_at (inked_on (beside background w h) events (0 + x) (0 + y)) events
same_inked background w h events x y f =
    last_inked (foot_colours background) background w h (foot_drawing events) x y
    ∙ ((f.moves).inks_are x y ∙ sym (last_inked (replicate 1024 background) background w h events x y))

same_shown : (background : Parts) (w h : ℕ) (events : List Event) (x y : ℕ) → IsFollowed background w h events
    → shown_on (foot_display background w h) (foot_drawing events) (0 + x) (0 + y)
    ≡ shown_on (beside background w h) events (0 + x) (0 + y)
unfolding shown_on
same_shown background w h events x y f =
    ap (λ (o : Option Parts). unwrap_or o (stood_on (foot_display background w h) (0 + x) (0 + y)))
    (same_inked background w h events x y f)

-- a pixel that foot paints, the terminal of the class paints
painted_too : (background : Parts) (w h : ℕ) (events : List Event) (x y : ℕ) → IsFollowed background w h events
    → IsPainted (foot_display background w h) (foot_drawing events) x y
    → IsPainted (beside background w h) events (0 + x) (0 + y)
painted_too background w h events x y f painted =
    let across : x ≡ 0 + x = omega arith in
    let down : y ≡ 0 + y = omega arith in
    let there : IsPainted (foot_display background w h) (foot_drawing events) (0 + x) (0 + y) =
    subst (λ (u : ℕ). IsPainted (foot_display background w h) (foot_drawing events) u (0 + y)) across
    (subst (λ (v : ℕ). IsPainted (foot_display background w h) (foot_drawing events) x v) down painted) in
    inked_painted (beside background w h) events (0 + x) (0 + y)
    (subst (λ (o : Option Parts). IsSome o) (same_inked background w h events x y f)
    (painted_inked (foot_display background w h) (foot_drawing events) (0 + x) (0 + y) there))

seen : (background : Parts) (w h : ℕ) (events : List Event) → is_seen_on (beside background w h) events ≡ true
unfolding is_seen_on
seen background w h events = refl

box_shown : (background : Parts) (w h n : ℕ) (events : List Event) (a : Attributes) → n ≤ 1024 → AreWhole events
    → BreaksNone n Uncovered events → raster_before events ≡ Some a → IsFollowed background w h events
    → Shows (foot_display background w h) (foot_drawing events) (picture_left n events)
box_shown background w h n events a few whole none box f =
    let size = size_left n events a box in
    let width : (picture_left n events).width ≡ a.width = size.0 in
    let height : (picture_left n events).height ≡ a.height = size.1 in
    let many : length (replicate 1024 background) ≡ 1024 = length-replicate 1024 background in
    record {
      inside = λ x y right below.
          shows_left n (beside background w h) events a x y whole none (seen background w h events)
          (omega (arith, few, many)) box (omega (arith, right, width)) (omega (arith, below, height))
          ∙ ap (λ (c : Parts). Some c) (sym (same_shown background w h events x y f));
      outside = λ x y out painted.
          none_painted_outside n (beside background w h) events a (0 + x) (0 + y) none box
          (λ b. out (record {
            left = omega arith;
            top = omega arith;
            right = let right : 0 + x < 0 + a.width = b.right in omega (arith, right, width);
            bottom = let bottom : 0 + y < 0 + a.height = b.bottom in omega (arith, bottom, height);
          })) (painted_too background w h events x y f painted);
    }

-- for counts of registers that foot has
pub foot_shows : (n : ℕ) → n ≤ 1024 → ShowsPortable Foot n
foot_shows n few background width height events whole none unasked across down =
    let fresh : BreaksNoneFor Foot events = none_for Foot events unasked in
    let drawn : BreaksNone n Uncovered events = none_drawn n events none in
    let a = some_value (raster_before events) (box_there n events whole drawn) in
    record {
      said = all_is_said n events none;
      drawing = foot_drawing events;
      is_reading = drawing_is_reading events;
      shows = box_shown background width height n events a.0 few whole drawn a.1
          (followed background width height n events few drawn fresh);
    }
