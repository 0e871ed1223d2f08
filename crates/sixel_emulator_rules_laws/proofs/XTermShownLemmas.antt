-- xterm shows the picture that a list leaves, if no rule is broken, nor those that xterm asks for.
use Rattle.std.proofs.Common.{◌≡◌, ℕ, ◌≤◌, Bool, true, false, ◌||◌, Option, Some, None, List, [], ◌∷◌, ◌++◌}
use Rattle.std.proofs.Common.{length, refl, sym, ap, subst, ◌∙◌, take, arith}
use Rattle.std.specs.Prelude.{is_some, slice_index_or, unwrap_or, IsSome, if◌then◌else◌}
use Rattle.std.specs.Option.{option_map, option_or}
use Rattle.std.proofs.lemmas.Bool.{and_from, lt-ltb, or_parts}
use Rattle.std.proofs.lemmas.List.FromFn.{length-map-range_with_len}
use Rattle.sixel_grammar.specs.declared.command.Event.{Event}
use Rattle.sixel_grammar.specs.declared.command.Event.TheVariants.{Start, Step, Finish}
use Rattle.sixel_grammar.specs.Document.{AreWhole}
use Rattle.sixel_model.specs.declared.colour.Parts.{Parts}
use Rattle.sixel_model.specs.declared.colour.Parts.TheVariants.{Rgb}
use Rattle.sixel_model.specs.declared.rule.Rule.TheVariants.{Uncovered}
use Rattle.sixel_model.specs.Events.{Attributes, is_eight_bit, is_in_box}
use Rattle.sixel_model.specs.Geometry.{falls}
use Rattle.sixel_model.specs.Positions.{any_at, any_below, last_at, last_below}
use Rattle.sixel_model.specs.Rules.{BreaksNone, is_covered, last_rule, picture_left, raster_before}
use Rattle.sixel_model.proofs.PositionLemmas.{last_at_push}
use Rattle.sixel_model.proofs.RuleLemmas.{Keeps, is_false, keeps_at, none_drawn, seven_bits_at}
use Rattle.sixel_model.proofs.StepLemmas.{covered_push}
use Rattle.sixel_terminal.specs.declared.choices.Ground.TheVariants.{Kept}
use Rattle.sixel_terminal.specs.Displays.{Display}
use Rattle.sixel_terminal.specs.Drawing.{IsPainted, inked_on, map_on, selected_on, shown_on, stood_on}
use Rattle.sixel_terminal.specs.Limits.{display_of, plain_screen}
use Rattle.sixel_named_terminals.specs.declared.named.Named.TheVariants.{XTerm}
use Rattle.sixel_emulator.specs.Readings.{is_unsaid_control}
use Rattle.sixel_emulator.specs.Settings.{plain_choices}
use Rattle.sixel_xterm.specs.Settings.{xterm_colours, xterm_display, xterm_start}
use Rattle.sixel_xterm.specs.XTerm.{xterm, xterm_model}
use Rattle.sixel_judge.specs.Portable.{Shows}
use Rattle.sixel_judge.proofs.CoverLemmas.{all_covered, box_there}
use Rattle.sixel_judge.proofs.OptionLemmas.{some_value}
use Rattle.sixel_emulator_rules.specs.Asked.{breaks_hue, breaks_introducer, breaks_large}
use Rattle.sixel_emulator_rules_laws.proofs.AskedForms.{BreaksFor, BreaksNoneFor, none_for}
use Rattle.sixel_emulator_rules_laws.specs.Laws.{ShowsPortable}
use Rattle.sixel_emulator_rules_laws.proofs.InkLemmas.{painted_inked}
use Rattle.sixel_emulator_rules_laws.proofs.AskedLemmas.{by_events, fresh_at, taken_events}
use Rattle.sixel_emulator_rules_laws.proofs.PlainLemmas.{IsBare, last_inked, last_map, paint_of}
use Rattle.sixel_emulator_rules_laws.proofs.PlainShownLemmas.{IsLike, shows_like}
use Rattle.sixel_emulator_rules_laws.proofs.ReadingLemmas.{IsClear, IsRead, SaysControls, by_none, by_push}
use Rattle.sixel_emulator_rules_laws.proofs.ReadingLemmas.{clear_reading, clear_said}
use Rattle.sixel_emulator_rules_laws.proofs.ReadingLemmas.{drawing_by}
use Rattle.sixel_emulator_rules_laws.proofs.StaleLemmas.{by_pushes}
use Rattle.sixel_emulator_rules_laws.proofs.XTermFollowLemmas.{IsAlong, IsInside, along_none, data_of, last_data}
use Rattle.sixel_emulator_rules_laws.proofs.XTermFollowLemmas.{last_paint}
use Rattle.sixel_emulator_rules_laws.proofs.XTermReadLemmas.{xterm_draws, xterm_read}
use Rattle.sixel_emulator_rules_laws.proofs.XTermRoomLemmas.{IsRoomy, roomy_none, roomy_push}
use Rattle.sixel_emulator_rules_laws.proofs.XTermSidesLemmas.{IsSided, sided_none, sided_push}
use Rattle.sixel_emulator_rules_laws.proofs.XTermStepLemmas.{along_push}

-- ---- what xterm reads

-- the reading doesn't depend on the event after
alone : (before : List Event) (e : Event) (next : Option Event) → xterm before e next ≡ xterm before e None
alone before e next = refl

-- the box, and room for what comes
record IsGoing (before : List Event) : Type 0 where
  pub sided : IsSided before (raster_before before)
  pub roomy : IsRoomy before

going : (n : ℕ) (events : List Event) → BreaksNone n Uncovered events → BreaksNoneFor XTerm events → IsGoing events
going n events none fresh =
    by_events XTerm n IsGoing (record { sided = sided_none; roomy = roomy_none })
    (λ before e unbroken k new g.
    let parts = or_parts (breaks_large e) (breaks_hue e || breaks_introducer e) (is_false _ new) in
    record {
      sided = sided_push n before e k parts.0 g.sided;
      roomy = roomy_push n before e k g.sided g.roomy;
    }) events none fresh

clear : (n : ℕ) (events : List Event) → n ≤ 256 → BreaksNone n Uncovered events → BreaksNoneFor XTerm events
    → IsClear xterm_model events
clear n events few none fresh = record {
  opens = refl;
  alone = alone;
  on = λ i e here.
      let before = taken_events XTerm n events i none fresh in
      let g : IsGoing (take i events) = going n (take i events) before.0 before.1 in
      (xterm_read n (take i events) e few (keeps_at n events none i e here) (fresh_at XTerm events i e fresh here) g.sided
      g.roomy).goes_on;
}

seven_bits : (e : Event) → is_eight_bit e ≡ false → is_unsaid_control xterm_model e ≡ false
seven_bits (Start true parameters) h = cc
seven_bits (Start false parameters) h = refl
seven_bits (Step command) h = refl
seven_bits (Finish true) h = cc
seven_bits (Finish false) h = refl

says_controls : (n : ℕ) (events : List Event) → BreaksNone n last_rule events → SaysControls xterm_model events
says_controls n events none i e here = seven_bits e (seven_bits_at n events none i e here)

-- ---- what it draws

record IsFollowed (background : Parts) (w h : ℕ) (before : List Event) : Type 0 where
  pub sided : IsSided before (raster_before before)
  pub roomy : IsRoomy before
  pub along : IsAlong background w h before (drawing_by xterm before)

followed_push : (background : Parts) (w h n : ℕ) (before : List Event) (e : Event) → n ≤ 256 → Keeps n before e
    → ¬ BreaksFor XTerm before e → IsFollowed background w h before → IsFollowed background w h (before ++ e ∷ [])
followed_push background w h n before e few k new f =
    let r : IsRead (xterm before e None) (xterm_draws before e) = xterm_read n before e few k new f.sided f.roomy in
    let parts = or_parts (breaks_large e) (breaks_hue e || breaks_introducer e) (is_false _ new) in
    record {
      sided = sided_push n before e k parts.0 f.sided;
      roomy = roomy_push n before e k f.sided f.roomy;
      along = subst (IsAlong background w h (before ++ e ∷ []))
          (sym (by_push xterm before e ∙ ap (λ (es : List Event). drawing_by xterm before ++ es) r.drawn_is))
          (along_push e k f.sided f.along);
    }

followed : (background : Parts) (w h n : ℕ) (events : List Event) → n ≤ 256 → BreaksNone n Uncovered events
    → BreaksNoneFor XTerm events → IsFollowed background w h events
followed background w h n events few none fresh =
    by_events XTerm n (IsFollowed background w h)
    (record {
      sided = sided_none;
      roomy = roomy_none;
      along = subst (IsAlong background w h []) (sym (by_none xterm)) (along_none background w h);
    }) (λ before e unbroken k new f. followed_push background w h n before e few k new f) events none fresh

-- ---- what is shown

-- a terminal like xterm that keeps the ground
abbrev beside : Parts → ℕ → ℕ → Display
beside background w h =
    display_of (plain_choices true Kept 3 w h) xterm_colours (plain_screen (plain_choices true Kept 3 w h) background)

bare : (background : Parts) (w h : ℕ) → IsBare (xterm_display background w h)
bare background w h =
    record { zero = refl; tall = refl; whole = refl; eight_bit = refl; left = refl; top = refl }

beside_bare : (background : Parts) (w h : ℕ) → IsBare (beside background w h)
beside_bare background w h =
    record { zero = refl; tall = refl; whole = refl; eight_bit = refl; left = refl; top = refl }

-- on both, a pixel has the colour of the register in which it was painted last
inked_last : (background : Parts) (w h : ℕ) (drawing : List Event) (x y : ℕ)
    → last_at (inked_on (xterm_display background w h) drawing x y) drawing
    ≡ option_map (map_on (xterm_display background w h) drawing)
    (last_paint (xterm_display background w h) drawing x y)
inked_last background w h drawing x y =
    let t = xterm_display background w h in
    last_inked t drawing x y (bare background w h) ∙ last_map (map_on t drawing) (paint_of t x y) drawing

paint_beside : (background : Parts) (w h : ℕ) (events : List Event) (x y : ℕ)
    → last_at (paint_of (beside background w h) x y) events ≡ last_data (xterm_display background w h) events x y
unfolding selected_on
paint_beside background w h events x y = refl

inked_beside : (background : Parts) (w h : ℕ) (events : List Event) (x y : ℕ)
    → last_at (inked_on (beside background w h) events x y) events
    ≡ option_map (map_on (beside background w h) events) (last_data (xterm_display background w h) events x y)
inked_beside background w h events x y =
    let u = beside background w h in
    last_inked u events x y (beside_bare background w h)
    ∙ (last_map (map_on u events) (paint_of u x y) events
    ∙ ap (option_map (map_on u events)) (paint_beside background w h events x y))

some_or : (b : Bool) (p : ℕ) (o : Option ℕ)
    → is_some (option_or (if b then Some p else None) o) ≡ (b || is_some o)
some_or true p o = refl
some_or false p o = refl

-- a covered pixel is painted
covered_data : (t : Display) (events : List Event) (x y : ℕ)
    → is_some (last_data t events x y) ≡ is_covered events x y
unfolding last_at last_below is_covered any_at any_below
covered_data t events x y =
    by_pushes (λ (b : List Event). is_some (last_data t b x y) ≡ is_covered b x y) [] events
    (λ b e ih.
    ap is_some (last_at_push (data_of t x y) b e)
    ∙ (some_or (falls b e x y) (selected_on t b) (last_data t b x y)
    ∙ (ap (λ (c : Bool). falls b e x y || c) ih ∙ sym (covered_push b e x y)))) refl

map_same : (background : Parts) (w h r : ℕ) (before drawing : List Event) → IsAlong background w h before drawing
    → map_on (xterm_display background w h) drawing r ≡ map_on (beside background w h) before r
unfolding map_on
map_same background w h r before drawing f =
    ap (λ (o : Option Parts). unwrap_or o (slice_index_or xterm_colours r (Rgb 0 0 0))) (f.defines r)

same_inked : (background : Parts) (w h : ℕ) (events : List Event) (x y : ℕ) → IsFollowed background w h events
    → is_covered events x y ≡ true
    → (c : Parts) × (last_at (inked_on (xterm_display background w h) (drawing_by xterm events) x y)
    (drawing_by xterm events) ≡ Some c)
    × (last_at (inked_on (beside background w h) events x y) events ≡ Some c)
same_inked background w h events x y f covered =
    let t = xterm_display background w h in
    let u = beside background w h in
    let drawing = drawing_by xterm events in
    let r = some_value (last_data t events x y) (covered_data t events x y ∙ covered) in (
      map_on u events r.0,
      inked_last background w h drawing x y
          ∙ (ap (option_map (map_on t drawing)) ((f.along).paints x y r.0 r.1)
          ∙ ap (λ (c : Parts). Some c) (map_same background w h r.0 events drawing f.along)),
      inked_beside background w h events x y ∙ ap (option_map (map_on u events)) r.1,
    )

same_shown : (background : Parts) (w h : ℕ) (events : List Event) (x y : ℕ) → IsFollowed background w h events
    → is_covered events x y ≡ true
    → shown_on (xterm_display background w h) (drawing_by xterm events) x y
    ≡ shown_on (beside background w h) events x y
unfolding shown_on
same_shown background w h events x y f covered =
    let c = same_inked background w h events x y f covered in
    ap (λ (o : Option Parts). unwrap_or o (stood_on (xterm_display background w h) x y)) c.1
    ∙ sym (ap (λ (o : Option Parts). unwrap_or o (stood_on (beside background w h) x y)) c.2)

unmapped : {A B : Type 0} (f : A → B) (o : Option A) → IsSome (option_map f o) → IsSome o
unmapped f None h = cc
unmapped f (Some a) h = refl

-- what it paints is in the box
painted_in : (background : Parts) (w h : ℕ) (events : List Event) (a : Attributes) (x y : ℕ)
    → raster_before events ≡ Some a → IsFollowed background w h events
    → IsPainted (xterm_display background w h) (drawing_by xterm events) x y → is_in_box a x y ≡ true
painted_in background w h events a x y box f painted =
    let t = xterm_display background w h in
    let drawing = drawing_by xterm events in
    let some : IsSome (last_paint t drawing x y) =
    unmapped (map_on t drawing) (last_paint t drawing x y)
    (subst (λ (o : Option Parts). IsSome o) (inked_last background w h drawing x y)
    (painted_inked t drawing x y painted)) in
    subst (λ (o : Option Attributes). IsInside o x y) box ((f.along).boxed x y some)

count : length xterm_colours ≡ 1024
unfolding xterm_colours
count = length-map-range_with_len xterm_start 0 1024

box_shown : (background : Parts) (w h n : ℕ) (events : List Event) (a : Attributes) → n ≤ 256 → AreWhole events
    → BreaksNone n Uncovered events → raster_before events ≡ Some a → IsFollowed background w h events
    → Shows (xterm_display background w h) (drawing_by xterm events) (picture_left n events)
box_shown background w h n events a few whole none box f =
    let t = xterm_display background w h in
    let u = beside background w h in
    let many : length xterm_colours ≡ 1024 = count in
    let like : IsLike t u a events (drawing_by xterm events) = record {
      inside = λ x y right below.
          same_shown background w h events x y f
          (all_covered n events a x y whole none box
          (and_from _ _ (lt-ltb x a.width right) (lt-ltb y a.height below)));
      outside = λ x y painted. painted_in background w h events a x y box f painted;
    } in
    shows_like n t u events (drawing_by xterm events) a (bare background w h) (beside_bare background w h)
    (omega (arith, few, many)) whole none box like

-- for counts of registers whose numbers xterm takes as they are
pub xterm_shows : (n : ℕ) → n ≤ 256 → ShowsPortable XTerm n
xterm_shows n few background width height events whole none unasked across down =
    let fresh : BreaksNoneFor XTerm events = none_for XTerm events unasked in
    let drawn : BreaksNone n Uncovered events = none_drawn n events none in
    let a = some_value (raster_before events) (box_there n events whole drawn) in
    let reads : IsClear xterm_model events = clear n events few drawn fresh in
    record {
      said = clear_said xterm_model events reads (says_controls n events none);
      drawing = drawing_by xterm events;
      is_reading = clear_reading xterm_model events reads;
      shows = box_shown background width height n events a.0 few whole drawn a.1
          (followed background width height n events few drawn fresh);
    }
