-- What konsole draws of events that begin with raster attributes, if no rule is broken.
use Rattle.std.proofs.Common.{◌≡◌, ℕ, ◌≤◌, ◌==◌, Bool, true, false, ◌&&◌, ◌||◌, not, cond, Option, Some, None, List, []}
use Rattle.std.proofs.Common.{◌∷◌, ◌++◌, length, refl, sym, ap, ap₂, subst, ◌∙◌, append-nil}
use Rattle.std.specs.Prelude.{flat_map, slice_get, if◌then◌else◌}
use Rattle.std.specs.List.{list_any}
use Rattle.std.specs.Option.{option_map_or, option_or}
use Rattle.std.proofs.Math.Bool.{and-true, or-false}
use Rattle.std.proofs.Math.Seq.{take-append_seam}
use Rattle.std.proofs.lemmas.Bool.{not-false, or_left, or_parts, or_right}
use Rattle.std.proofs.lemmas.Grind.{flat_map-append}
use Rattle.sixel_grammar.specs.declared.command.Command.TheVariants.{Raster, Define}
use Rattle.sixel_grammar.specs.declared.command.Event.{Event}
use Rattle.sixel_grammar.specs.declared.command.Event.TheVariants.{Start, Step}
use Rattle.sixel_model.specs.declared.colour.Parts.TheVariants.{Rgb, Hls}
use Rattle.sixel_model.specs.declared.rule.Rule.TheVariants.{Uncovered}
use Rattle.sixel_model.specs.Colours.{is_colour}
use Rattle.sixel_model.specs.Events.{Attributes, is_finish, is_return, raster_of}
use Rattle.sixel_model.specs.Positions.{earliest, latest, since}
use Rattle.sixel_model.specs.Rules.{BreaksNone, breaks_colour_value, raster_before}
use Rattle.sixel_model.proofs.PositionLemmas.{holds_before, holds_within, latest_push}
use Rattle.sixel_model.proofs.PositionLemmas.{since_push}
use Rattle.sixel_model.proofs.RuleLemmas.{Keeps, is_false, keeps_at, none_before}
use Rattle.sixel_model.proofs.StepLemmas.{raster_push}
use Rattle.sixel_named_terminals.specs.declared.named.Named.TheVariants.{Konsole}
use Rattle.sixel_konsole.specs.Konsole.{begins, counting, first_below, first_followed, has_begun, has_late}
use Rattle.sixel_konsole.specs.Konsole.{has_unknown_system, is_stuck, konsole, konsole_drawing, may_count}
use Rattle.sixel_konsole.specs.Konsole.{moves_or_ends}
use Rattle.sixel_emulator.specs.Readings.{drawn_by}
use Rattle.sixel_konsole.proofs.FollowedLemmas.{any_followed_push, first_followed_push}
use Rattle.sixel_konsole.proofs.KonsoleMeasureLemmas.{drawing_push}
use Rattle.sixel_emulator.proofs.WordLemmas.{any_push}
use Rattle.sixel_emulator_rules.specs.Asked.{breaks_dropped, is_droppable}
use Rattle.sixel_emulator_rules_laws.proofs.AskedForms.{BreaksFor, BreaksNoneFor}
use Rattle.sixel_emulator_rules_laws.proofs.KonsoleRuleLemmas.{IsAsked, drawn_plain, drops, plain, raster_draws}

-- what konsole draws in place of the events, if none is dropped
abbrev pub plain_of : List Event → List Event
plain_of events = flat_map plain events

pub plain_push : (before : List Event) (e : Event) → plain_of (before ++ e ∷ []) ≡ plain_of before ++ plain e
plain_push before e =
    flat_map-append plain before (e ∷ []) ∙ ap (λ (es : List Event). plain_of before ++ es) (append-nil (plain e))

-- ---- events that break no rule

-- the events before the end of a string
pub record IsBody (n : ℕ) (events : List Event) : Type 0 where
  pub unbroken : BreaksNone n Uncovered events
  pub asked : BreaksNoneFor Konsole events
  pub unfinished : list_any is_finish events ≡ false

pub asked_before : (before : List Event) (e : Event) → BreaksNoneFor Konsole (before ++ e ∷ [])
    → BreaksNoneFor Konsole before
asked_before before e none i h =
    none i (holds_before (BreaksFor Konsole) before e i (holds_within (BreaksFor Konsole) before i h) h)

get_seam : (before more : List Event) (e : Event) → slice_get (before ++ e ∷ more) (length before) ≡ Some e
get_seam [] more e = refl
get_seam (b ∷ bs) more e = get_seam bs more e

pub keeps_here : (n : ℕ) (before more : List Event) (e : Event) → BreaksNone n Uncovered (before ++ e ∷ more)
    → Keeps n before e
keeps_here n before more e none =
    subst (λ (xs : List Event). Keeps n xs e) (take-append_seam before (e ∷ more))
    (keeps_at n (before ++ e ∷ more) none (length before) e (get_seam before more e))

pub asked_here : (before more : List Event) (e : Event) → BreaksNoneFor Konsole (before ++ e ∷ more) → IsAsked before e
asked_here before more e none =
    let all = is_false _ (λ b. none (length before) (record {
      item = e;
      here = get_seam before more e;
      holds = subst (λ (xs : List Event). BreaksFor Konsole xs e) (sym (take-append_seam before (e ∷ more))) b;
    })) in
    let both = or_parts _ _ all in
    let first = or_parts _ _ both.0 in
    let last = or_parts _ _ both.1 in
    record { raster_late = first.0; dropped = first.1; rows = last.0; past = last.1 }

pub asked_last : (before : List Event) (e : Event) → BreaksNoneFor Konsole (before ++ e ∷ []) → IsAsked before e
asked_last before e none = asked_here before [] e none

pub keeps_last : (n : ℕ) (before : List Event) (e : Event) → BreaksNone n Uncovered (before ++ e ∷ [])
    → Keeps n before e
keeps_last n before e none = keeps_here n before [] e none

pub body_before : (n : ℕ) (before : List Event) (e : Event) → IsBody n (before ++ e ∷ []) → IsBody n before
body_before n before e b = record {
  unbroken = none_before n Uncovered before e b.unbroken;
  asked = asked_before before e b.asked;
  unfinished = (or_parts _ _ (sym (any_push is_finish before e) ∙ b.unfinished)).0;
}

pub goes_on : (n : ℕ) (before : List Event) (e : Event) → IsBody n (before ++ e ∷ []) → is_finish e ≡ false
goes_on n before e b = (or_parts _ _ (sym (any_push is_finish before e) ∙ b.unfinished)).1

-- ---- one more event

stuck_push : (before : List Event) (e : Event)
    → is_stuck (before ++ e ∷ [])
    ≡ list_any has_unknown_system (cond (is_return e) [] (since is_return before ++ e ∷ []))
unfolding is_stuck
stuck_push before e = ap (list_any has_unknown_system) (since_push is_return before e)

begun_push : (before : List Event) (e : Event) (next : Option Event)
    → has_begun (before ++ e ∷ []) next ≡ (begins before e next || has_begun before (Some e))
unfolding has_begun
begun_push before e next = any_followed_push begins before e next

pub begun_after : (before : List Event) (e : Event) (next : Option Event) → has_begun before (Some e) ≡ true
    → has_begun (before ++ e ∷ []) next ≡ true
begun_after before e next begun =
    begun_push before e next ∙ or_right (begins before e next) (has_begun before (Some e)) begun

pub counting_push : (before : List Event) (e : Event) (next : Option Event)
    → counting (before ++ e ∷ []) next ≡ option_or (counting before (Some e)) (may_count before e next)
unfolding counting
counting_push before e next = first_followed_push may_count before e next

known_by : (a b : Bool) (x y z : ℕ)
    → option_map_or is_colour (if a then Some (Hls x y z) else if b then Some (Rgb x y z) else None) false ≡ true
    → (not a && not b) ≡ false
known_by true b x y z h = refl
known_by false true x y z h = refl
known_by false false x y z h = cc

known_system : (n : ℕ) (before : List Event) (e : Event) → Keeps n before e → has_unknown_system e ≡ false
unfolding breaks_colour_value
known_system n before (Step (Define r s x y z)) k = known_by (s == 1) (s == 2) x y z (not-false _ k.colour_value)
known_system n before _ k = refl

calm_by : (returns : Bool) (since : List Event) (e : Event) → list_any has_unknown_system since ≡ false
    → has_unknown_system e ≡ false → list_any has_unknown_system (cond returns [] (since ++ e ∷ [])) ≡ false
calm_by true since e calm known = refl
calm_by false since e calm known = any_push has_unknown_system since e ∙ rw (calm, known) refl

calm_push : (before : List Event) (e : Event) → is_stuck before ≡ false → has_unknown_system e ≡ false
    → is_stuck (before ++ e ∷ []) ≡ false
unfolding is_stuck
calm_push before e calm known = stuck_push before e ∙ calm_by (is_return e) (since is_return before) e calm known

-- ---- what is kept

-- the event after drops the last event
abbrev pub drops_last : Option Event → List Event → Bool
drops_last next events = moves_or_ends next && option_map_or is_droppable (latest (λ (d : Event). Some d) events) false

pub last_push : (before : List Event) (e : Event) (next : Option Event)
    → drops_last next (before ++ e ∷ []) ≡ drops next e
last_push before e next =
    ap (λ (o : Option Event). moves_or_ends next && option_map_or is_droppable o false)
    (latest_push (λ (d : Event). Some d) before e)

-- the events begin with raster attributes, which count, and all is drawn
pub record IsDrawn (a : Attributes) (events : List Event) : Type 0 where
  pub calm : is_stuck events ≡ false
  pub boxed : raster_before events ≡ Some a
  pub begun : (next : Option Event) → drops_last next events ≡ false → has_begun events next ≡ true
  pub counted : (next : Option Event) → drops_last next events ≡ false → counting events next ≡ Some a
  pub drawn : (next : Option Event) → drops_last next events ≡ false → konsole_drawing events next ≡ plain_of events

pub free_next : (before : List Event) (e : Event) → is_finish e ≡ false → breaks_dropped before e ≡ false
    → drops_last (Some e) before ≡ false
unfolding breaks_dropped
free_next before e on kept =
    ap (λ (b : Bool). (is_return e || b) && option_map_or is_droppable (latest (λ (d : Event). Some d) before) false) on
    ∙ (ap (λ (b : Bool). b && option_map_or is_droppable (latest (λ (d : Event). Some d) before) false)
    (or-false (is_return e)) ∙ kept)

pub drawn_push : (n : ℕ) (a : Attributes) (before : List Event) (e : Event) → n ≤ 256 → IsBody n (before ++ e ∷ [])
    → IsDrawn a before → IsDrawn a (before ++ e ∷ [])
drawn_push n a before e few body d =
    let k : Keeps n before e = keeps_last n before e body.unbroken in
    let kept : breaks_dropped before e ≡ false = (asked_last before e body.asked).dropped in
    let free : drops_last (Some e) before ≡ false = free_next before e (goes_on n before e body) kept in
    record {
      calm = calm_push before e d.calm (known_system n before e k);
      boxed = raster_push before e ∙ rw d.boxed refl;
      begun = λ next still. begun_after before e next (d.begun (Some e) free);
      counted = λ next still. counting_push before e next ∙ rw (d.counted (Some e) free) refl;
      drawn = λ next still. drawing_push before e next
          ∙ (ap₂ (λ (xs ys : List Event). xs ++ ys) (d.drawn (Some e) free)
          (drawn_plain n few before e next k d.calm (λ returns. d.begun (Some e) free)
          (sym (last_push before e next) ∙ still))
          ∙ sym (plain_push before e));
    }

-- ---- the first events

abbrev pub is_start : Event → Bool
is_start (Start eight parameters) = true
is_start _ = false

-- a start and raster attributes
abbrev pub front : Event → Attributes → List Event
front start a = start ∷ Step (Raster a.pan a.pad a.width a.height) ∷ []

none_drawn : (next : Option Event) → konsole_drawing [] next ≡ []
unfolding konsole_drawing
none_drawn next = refl

start_calm : (start : Event) → is_start start ≡ true → is_stuck (start ∷ []) ≡ false
unfolding is_stuck since
start_calm (Start eight parameters) h = refl
start_calm _ h = cc

start_late : (start : Event) → is_start start ≡ true → has_late (start ∷ []) ≡ false
unfolding has_late
start_late (Start eight parameters) h = refl
start_late _ h = cc

start_counts : (start : Event) (next : Option Event) → is_start start ≡ true → counting (start ∷ []) next ≡ None
unfolding counting first_followed first_below
start_counts (Start eight parameters) next h = refl
start_counts _ next h = cc

start_draws : (start : Event) (next : Option Event) → is_start start ≡ true → drawn_by (konsole [] start next) ≡ []
start_draws (Start eight parameters) next h = refl
start_draws _ next h = cc

pub start_plain : (start : Event) → is_start start ≡ true → plain start ≡ []
start_plain (Start eight parameters) h = refl
start_plain _ h = cc

pub start_boxed : (start : Event) → is_start start ≡ true → raster_of start ≡ None
start_boxed (Start eight parameters) h = refl
start_boxed _ h = cc

pub front_boxed : (start : Event) (a : Attributes) → is_start start ≡ true → raster_before (front start a) ≡ Some a
unfolding raster_before earliest
front_boxed start a h = rw (start_boxed start h) refl

pub front_plain : (start : Event) (a : Attributes) → is_start start ≡ true → plain_of (front start a) ≡ []
front_plain start a h = rw (start_plain start h) refl

-- the event after the raster attributes doesn't drop them
front_free : (start : Event) (a : Attributes) (next : Option Event) → drops_last next (front start a) ≡ false
    → moves_or_ends next ≡ false
front_free start a next free =
    sym (and-true (moves_or_ends next))
    ∙ (sym (last_push (start ∷ []) (Step (Raster a.pan a.pad a.width a.height)) next) ∙ free)

pub front_drawn : (start : Event) (a : Attributes) → is_start start ≡ true → (a.width == 0) ≡ false
    → IsDrawn a (front start a)
front_drawn start a starts wide =
    let s : List Event = start ∷ [] in
    let e : Event = Step (Raster a.pan a.pad a.width a.height) in
    record {
      calm = calm_push s e (start_calm start starts) refl;
      boxed = front_boxed start a starts;
      begun = λ next free.
          let still : moves_or_ends next ≡ false = front_free start a next free in
          begun_push s e next
          ∙ or_left (begins s e next) (has_begun s (Some e)) (rw (still, wide, start_calm start starts) refl);
      counted = λ next free.
          let still : moves_or_ends next ≡ false = front_free start a next free in
          counting_push s e next
          ∙ rw (start_counts start (Some e) starts, wide, still, start_late start starts) refl;
      drawn = λ next free.
          drawing_push s e next
          ∙ (ap₂ (λ (xs ys : List Event). xs ++ ys)
          (drawing_push [] start (Some e)
          ∙ ap₂ (λ (xs ys : List Event). xs ++ ys) (none_drawn (Some start)) (start_draws start (Some e) starts))
          (raster_draws (is_stuck s) _)
          ∙ sym (front_plain start a starts));
    }
