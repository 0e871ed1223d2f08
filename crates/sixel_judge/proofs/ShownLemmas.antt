-- What terminals show, if no rule is broken: the picture that the events leave.
use Rattle.std.proofs.Common.{◌≡◌, ◌<◌, ◌≤◌, ◌+◌, ◌*◌, ℕ, suc, Bool, true, false, cond, Option, Some, None, List, []}
use Rattle.std.proofs.Common.{◌∷◌, length, take, refl, sym, ap, ◌∙◌, arith}
use Rattle.std.specs.Prelude.{if◌then◌else◌, slice_get, slice_index_or, unwrap_or, IsFalse, IsSome, is_some}
use Rattle.std.specs.List.{list_any}
use Rattle.std.specs.Option.{option_flatten, option_map}
use Rattle.std.proofs.lemmas.Bool.{and_from, lt-ltb}
use Rattle.std.proofs.lemmas.Option.{slice_get_within}
use Rattle.std.proofs.Math.Bool.{or-true}
use Rattle.sixel_grammar.specs.declared.command.Event.{Event}
use Rattle.sixel_grammar.specs.Document.{AreWhole}
use Rattle.sixel_model.specs.declared.colour.Parts.{Parts}
use Rattle.sixel_model.specs.declared.colour.Parts.TheVariants.{Rgb}
use Rattle.sixel_model.specs.declared.rule.Rule.TheVariants.{Uncovered}
use Rattle.sixel_model.specs.Colours.{palette_at}
use Rattle.sixel_model.specs.Events.{Attributes, is_data_command, is_eight_bit, is_in_box, raster_of}
use Rattle.sixel_model.specs.Geometry.{falls}
use Rattle.sixel_model.specs.Pictures.{register_of}
use Rattle.sixel_model.specs.Positions.{HoldsAtPosition, any_at, at_position, last_at, last_below, passes_at}
use Rattle.sixel_model.specs.Rules.{BreaksNone, breaks_unselected, is_covered, known, picture_left, raster_before}
use Rattle.sixel_model.specs.Rules.{last_rule, register_at}
use Rattle.sixel_model.proofs.CoverLemmas.{any_below_at}
use Rattle.sixel_model.proofs.LastLemmas.{IsLast, at_there, is_last, item_there, last_is, passes_there, some_last}
use Rattle.sixel_model.proofs.RuleLemmas.{Keeps, keeps_at, none_drawn, seven_bits_at}
use Rattle.sixel_model.proofs.GridLemmas.{get_rows}
use Rattle.sixel_terminal.specs.Displays.{Display, registers_of}
use Rattle.sixel_terminal.specs.Drawing.{inked_on, is_kept_on, is_seen_on, map_on, paint_at, paints_in, paints_on}
use Rattle.sixel_terminal.specs.Drawing.{selected_on, shown_on, stood_on, touches_on}
use Rattle.sixel_terminal.proofs.ClipLemmas.{at_origin}
use Rattle.sixel_terminal.proofs.PaintLemmas.{none_filled}
use Rattle.sixel_terminal.proofs.PlainLemmas.{same_points_on_each}
use Rattle.sixel_terminal.proofs.SelectLemmas.{known_is_selected}
use Rattle.sixel_judge.specs.Laws.{HasColourLeft, LeftIsPortable}
use Rattle.sixel_judge.specs.Portable.{IsPortable}
use Rattle.sixel_judge.proofs.ColourLemmas.{known_in_range}
use Rattle.sixel_judge.proofs.CoverLemmas.{all_covered, box_at_data, box_later, box_there, filled_first}
use Rattle.sixel_judge.proofs.DrawLemmas.{falls_paints}
use Rattle.sixel_judge.proofs.OptionLemmas.{map_some, some_from, some_value, unwrap_same}
use Rattle.sixel_judge.proofs.SteadyLemmas.{painted_colour_is_left}
use Rattle.sixel_judge.proofs.WithinLemmas.{data_kept, none_painted_outside, plain, touches_data}

-- ---- the last painting of a pixel

-- at a command that paints a point, a register is known
pub falls_known : (n : ℕ) (before : List Event) (e : Event) (x y : ℕ) → Keeps n before e → falls before e x y ≡ true
    → IsSome (known before)
unfolding breaks_unselected
falls_known n before e x y k h = some_from (known before) (rw (falls_paints before e x y h) at k.unselected)

-- the known register, if the event paints the point
abbrev known_where : ℕ → ℕ → List Event → Event → Option (Option ℕ)
known_where x y before e = if falls before e x y then Some (known before) else None

-- the last event that paints the point, and the known register there
pub record IsLastPainting (events : List Event) (x y : ℕ) (o : Option ℕ) : Type 0 where
  pub at : ℕ
  pub event : Event
  pub here : slice_get events at ≡ Some event
  pub fell : falls (take at events) event x y ≡ true
  pub register : known (take at events) ≡ o
  pub after : (j : ℕ) (e : Event) → at < j → slice_get events j ≡ Some e → falls (take j events) e x y ≡ false

fell_if : (b : Bool) (o p : Option ℕ) → cond b (Some o) None ≡ Some p → (b ≡ true) × (o ≡ p)
fell_if true o p h = (refl, (let same : o ≡ p = cc in same))
fell_if false o p h = cc

not_fell : (b : Bool) (o : Option ℕ) → cond b (Some o) None ≡ None → b ≡ false
not_fell true o h = cc
not_fell false o h = refl

last_painting : (events : List Event) (x y : ℕ) (o : Option ℕ)
    → last_below (length events) (at_position (known_where x y) events) ≡ Some o → IsLastPainting events x y o
last_painting events x y o found =
    let l : IsLast (at_position (known_where x y) events) (length events) o
    = last_is (length events) (at_position (known_where x y) events) o found in
    let e : (e : Event) × (slice_get events l.at ≡ Some e) = item_there events l.at l.below in
    let here : slice_get events l.at ≡ Some (e.0) = e.1 in
    let both : (falls (take l.at events) (e.0) x y ≡ true) × (known (take l.at events) ≡ o)
    = fell_if (falls (take l.at events) (e.0) x y) (known (take l.at events)) o
    (sym (at_there (known_where x y) events l.at (e.0) here) ∙ l.gives) in
    record {
      at = l.at;
      event = e.0;
      here = here;
      fell = both.0;
      register = both.1;
      after = λ j d lt is. not_fell (falls (take j events) d x y) (known (take j events))
          (sym (at_there (known_where x y) events j d is) ∙ l.after j lt (slice_get_within events j d is));
    }

flat_some : (o : Option (Option ℕ)) (r : ℕ) → option_flatten o ≡ Some r → o ≡ Some (Some r)
flat_some None r h = cc
flat_some (Some p) r h = ap (λ (q : Option ℕ). Some q) h

pub register_painting : (events : List Event) (x y r : ℕ) → register_at events x y ≡ Some r
    → IsLastPainting events x y (Some r)
unfolding register_at last_at
register_painting events x y r found = last_painting events x y (Some r) (flat_some _ r found)

-- a covered pixel has a register
has_register : (n : ℕ) (events : List Event) (x y : ℕ) → BreaksNone n Uncovered events → is_covered events x y ≡ true
    → IsSome (register_at events x y)
unfolding is_covered any_at register_at last_at
has_register n events x y none covered =
    let q : (o : Option ℕ) × (last_below (length events) (at_position (known_where x y) events) ≡ Some o)
    = some_value _ (some_last (length events) (passes_at (λ earlier e. falls earlier e x y) events)
    (at_position (known_where x y) events) at_each covered) in
    let l : IsLastPainting events x y (q.0) = last_painting events x y (q.0) (q.1) in
    let some : IsSome (known (take l.at events))
    = falls_known n (take l.at events) l.event x y (keeps_at n events none l.at l.event l.here) l.fell in
    rw q.1 (rw l.register at some)
  where
    at_each : (i : ℕ) → i < length events → passes_at (λ earlier e. falls earlier e x y) events i ≡ true
        → IsSome (at_position (known_where x y) events i)
    at_each i lt p =
        let e : (e : Event) × (slice_get events i ≡ Some e) = item_there events i lt in
        let here : slice_get events i ≡ Some (e.0) = e.1 in
        let fell : falls (take i events) (e.0) x y ≡ true
        = sym (passes_there (λ earlier e. falls earlier e x y) events i (e.0) here) ∙ p in
        rw (at_there (known_where x y) events i (e.0) here, fell) refl

-- ---- the pixel on a terminal

falls_data : (before : List Event) (e : Event) (x y : ℕ) → falls before e x y ≡ true → is_data_command e ≡ true
unfolding falls
falls_data before e x y h = touches_data 0 1 before e x y h

-- there is a box before the last event that paints the point
box_at_painting : (n : ℕ) {events : List Event} {x y : ℕ} (r : ℕ) → BreaksNone n Uncovered events
    → (p : IsLastPainting events x y (Some r)) → IsSome (raster_before (take p.at events))
box_at_painting n {events} {x} {y} r none p =
    box_at_data n (take p.at events) p.event (keeps_at n events none p.at p.event p.here)
    (falls_data (take p.at events) p.event x y p.fell)

-- on a terminal, the last painting of a pixel is in the known register
paint_last : (n : ℕ) (t : Display) {events : List Event} {x y : ℕ} (r : ℕ) → BreaksNone n Uncovered events
    → n ≤ registers_of t → (p : IsLastPainting events x y (Some r)) → paint_at t (take p.at events) p.event x y ≡ Some r
paint_last n t {events} {x} {y} r none enough p =
    let same : touches_on t (take p.at events) p.event x y ≡ true
    = same_points_on_each t events p.at p.event x y (plain n events none) p.here
    (box_at_painting n r none p) ∙ p.fell in
    let low : r < n = known_in_range n r p.at events none p.register in
    let selected : selected_on t (take p.at events) ≡ r
    = known_is_selected t (take p.at events) r p.register (omega arith) in
    let kept : is_kept_on t (take p.at events) x y ≡ true = data_kept n t t events p.at p.event x y none p.here same in
    rw (same, kept, selected) refl

-- and no event after it paints the pixel
paint_after : (n : ℕ) (t : Display) {events : List Event} {x y : ℕ} (r : ℕ) → BreaksNone n Uncovered events
    → (p : IsLastPainting events x y (Some r)) (j : ℕ) (e : Event) → p.at < j → slice_get events j ≡ Some e
    → paint_at t (take j events) e x y ≡ None
paint_after n t {events} {x} {y} r none p j e lt here =
    let still : IsSome (raster_before (take j events))
    = box_later p.at j events (omega arith) (box_at_painting n r none p) in
    let same : touches_on t (take j events) e x y ≡ false
    = same_points_on_each t events j e x y (plain n events none) here still ∙ p.after j e lt here in
    let no_raster : raster_of e ≡ None = filled_first n events p.at j p.event e none lt p.here
    (falls_data (take p.at events) p.event x y p.fell) here in
    rw (same, none_filled t.choices.ground e x y no_raster) refl

colour_either : {n : ℕ} {t : Display} {events : List Event} {i r : ℕ} (b : Bool) → HasColourLeft n t events i r
    → palette_at (picture_left n events).palette r ≡ Some (map_on t (if b then events else take i events) r)
colour_either true h = h.at_showing
colour_either false h = h.at_painting

-- if the terminal sees the string, each event paints what it says
in_seen : (t : Display) (events before : List Event) (e : Event) (x y : ℕ) → is_seen_on t events ≡ true
    → paints_in t events before e x y ≡ paints_on t before e x y
in_seen t events before e x y seen = rw seen refl

-- the ink of the pixel at the last painting, and after it
inked_at : (n : ℕ) (t : Display) {events : List Event} {x y : ℕ} (r : ℕ) → BreaksNone n Uncovered events
    → is_seen_on t events ≡ true → n ≤ registers_of t
    → (p : IsLastPainting events x y (Some r))
    → IsLast (at_position (inked_on t events (t.choices.origin_x + x) (t.choices.origin_y + y)) events) (length events)
    (map_on t (if t.choices.binds_at_showing then events else take p.at events) r)
inked_at n t {events} {x} {y} r none seen enough p =
    let f = inked_on t events (t.choices.origin_x + x) (t.choices.origin_y + y) in
    record {
      at = p.at;
      below = slice_get_within events p.at p.event p.here;
      gives = at_there f events p.at p.event p.here
          ∙ ap (option_map (map_on t (if t.choices.binds_at_showing then events else take p.at events)))
          (in_seen t events (take p.at events) p.event _ _ seen
          ∙ at_origin t (take p.at events) p.event x y ∙ paint_last n t r none enough p);
      after = λ j lt le.
          let e : (e : Event) × (slice_get events j ≡ Some e) = item_there events j le in
          at_there f events j (e.0) (e.1)
          ∙ ap (option_map (map_on t (if t.choices.binds_at_showing then events else take j events)))
          (in_seen t events (take j events) (e.0) _ _ seen
          ∙ at_origin t (take j events) (e.0) x y ∙ paint_after n t r none p j (e.0) lt (e.1));
    }

-- a terminal that sees the string shows the colour of the register that painted the pixel last
shown_is : (n : ℕ) (t : Display) (events : List Event) (x y r : ℕ) → BreaksNone n Uncovered events
    → is_seen_on t events ≡ true → n ≤ registers_of t
    → register_at events x y ≡ Some r
    → palette_at (picture_left n events).palette r
    ≡ Some (shown_on t events (t.choices.origin_x + x) (t.choices.origin_y + y))
unfolding shown_on last_at
shown_is n t events x y r none seen enough found =
    let p : IsLastPainting events x y (Some r) = register_painting events x y r found in
    let colours : HasColourLeft n t events p.at r = painted_colour_is_left n t events p.at p.event r enough none p.here
    (falls_paints (take p.at events) p.event x y p.fell) p.register in
    let last = is_last (length events) _ _ (inked_at n t r none seen enough p) in
    colour_either t.choices.binds_at_showing colours
    ∙ sym (ap (λ (o : Option Parts). Some (unwrap_or o (slice_index_or t.screen
    ((t.choices.origin_y + y) * t.choices.screen_width + (t.choices.origin_x + x)) (Rgb 0 0 0)))) last)

-- ---- the picture that the events leave

register_left : (n : ℕ) (events : List Event) (a : Attributes) (x y r : ℕ) → raster_before events ≡ Some a → x < a.width
    → y < a.height → register_at events x y ≡ Some r → register_of (picture_left n events) x y ≡ r
unfolding picture_left
register_left n events a x y r box p q found =
    rw box (get_rows a.width a.height (λ x y. unwrap_or (register_at events x y) 0) x y 0 p q ∙ rw found refl)

-- each terminal with enough registers that sees the string shows it in the box
pub shows_left : (n : ℕ) (t : Display) (events : List Event) (a : Attributes) (x y : ℕ) → AreWhole events
    → BreaksNone n Uncovered events → is_seen_on t events ≡ true → n ≤ registers_of t
    → raster_before events ≡ Some a → x < a.width → y < a.height
    → palette_at (picture_left n events).palette (register_of (picture_left n events) x y)
    ≡ Some (shown_on t events (t.choices.origin_x + x) (t.choices.origin_y + y))
shows_left n t events a x y whole none seen enough box p q =
    let inside : is_in_box a x y ≡ true = and_from _ _ (lt-ltb x a.width p) (lt-ltb y a.height q) in
    let covered : is_covered events x y ≡ true = all_covered n events a x y whole none box inside in
    let r : (r : ℕ) × (register_at events x y ≡ Some r)
    = some_value (register_at events x y) (has_register n events x y none covered) in
    rw (register_left n events a x y (r.0) box p q (r.1)) (shown_is n t events x y (r.0) none seen enough (r.1))

pub size_left : (n : ℕ) (events : List Event) (a : Attributes) → raster_before events ≡ Some a
    → ((picture_left n events).width ≡ a.width) × ((picture_left n events).height ≡ a.height)
unfolding picture_left
size_left n events a box = rw box (refl, refl)

none_of_each : (f : Event → Bool) (events : List Event)
    → ((i : ℕ) (e : Event) → slice_get events i ≡ Some e → IsFalse (f e)) → list_any f events ≡ false
none_of_each f [] h = refl
none_of_each f (e ∷ es) h = rw (h 0 e refl) (none_of_each f es (λ i d here. h (suc i) d here))

-- if no rule is broken, each terminal sees the string
seen_everywhere : (n : ℕ) (t : Display) (events : List Event) → BreaksNone n last_rule events
    → is_seen_on t events ≡ true
unfolding is_seen_on
seen_everywhere n t events none =
    rw (none_of_each is_eight_bit events (seven_bits_at n events none)) (or-true t.choices.eight_bit)

box_is_portable : (n : ℕ) (events : List Event) (a : Attributes) → AreWhole events → BreaksNone n last_rule events
    → raster_before events ≡ Some a → IsPortable n events (picture_left n events)
box_is_portable n events a whole none box =
    let drawn : BreaksNone n Uncovered events = none_drawn n events none in
    let w : (picture_left n events).width ≡ a.width = (size_left n events a box).0 in
    let v : (picture_left n events).height ≡ a.height = (size_left n events a box).1 in
    record {
      size = rw box (w, v);
      shown = λ t class room. record {
        inside = λ x y p q. shows_left n t events a x y whole drawn (seen_everywhere n t events none) class.enough box
            (omega arith) (omega arith);
        outside = λ x y out painted. none_painted_outside n t events a x y drawn box
            (λ b. out (record { left = b.left; top = b.top; right = rw w b.right; bottom = rw v b.bottom })) painted;
      };
    }

pub left_is_portable : (n : ℕ) → LeftIsPortable n
left_is_portable n events whole none =
    let a : (a : Attributes) × (raster_before events ≡ Some a)
    = some_value (raster_before events) (box_there n events whole (none_drawn n events none)) in
    box_is_portable n events (a.0) whole none (a.1)

-- ---- a pixel on two terminals on which the events paint the same

last_some : {X A : Type 0} (g : List X → X → Option A) (xs : List X) (j : ℕ) (x : X) → slice_get xs j ≡ Some x
    → IsSome (g (take j xs) x) → IsSome (last_at g xs)
unfolding last_at
last_some g xs j x here h =
    some_last (length xs) (λ i. is_some (at_position g xs i)) (at_position g xs) (λ i lt p. p)
    (any_below_at (length xs) j (λ i. is_some (at_position g xs i)) (slice_get_within xs j x here)
    (rw (at_there g xs j x here) h))

-- one that an event paints shows the same, whatever the screens showed before
pub painted_shows : (t u : Display) (events : List Event) (x y j : ℕ)
    → last_at (inked_on t events x y) events ≡ last_at (inked_on u events x y) events
    → HoldsAtPosition (λ before e. IsSome (paints_in t events before e x y)) events j
    → shown_on t events x y ≡ shown_on u events x y
unfolding shown_on
painted_shows t u events x y j same at =
    unwrap_same (last_at (inked_on t events x y) events) (stood_on t x y) (stood_on u x y)
    (last_some (inked_on t events x y) events j at.item at.here (map_some _ _ at.holds))
    ∙ ap (λ (o : Option Parts). unwrap_or o (stood_on u x y)) same
