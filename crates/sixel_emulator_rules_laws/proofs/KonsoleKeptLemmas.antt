-- What konsole keeps of a whole list: all, but for a last select or definition.
use Rattle.std.proofs.Common.{◌≡◌, ℕ, ◌≤◌, ◌%◌, Bool, true, false, Option, Some, None, List, [], ◌∷◌, ◌++◌}
use Rattle.std.proofs.Common.{refl, sym, ap₂, subst, ◌∙◌, append-nil}
use Rattle.std.specs.Prelude.{IsSome}
use Rattle.sixel_grammar.specs.declared.command.Command.TheVariants.{Sixel, Repeat, Raster, Select, Define}
use Rattle.sixel_grammar.specs.declared.command.Event.{Event}
use Rattle.sixel_grammar.specs.declared.command.Event.TheVariants.{Start, Step, Finish}
use Rattle.sixel_grammar.specs.Document.{AreRest, AreWhole}
use Rattle.sixel_model.specs.declared.colour.Parts.{Parts}
use Rattle.sixel_model.specs.declared.rule.Rule.TheVariants.{Uncovered}
use Rattle.sixel_model.specs.Events.{Attributes, is_data_command, is_eight_bit, raster_of}
use Rattle.sixel_model.specs.Geometry.{band, column}
use Rattle.sixel_model.specs.Positions.{since}
use Rattle.sixel_model.specs.Rules.{BreaksNone, BreaksOutside, BreaksUncovered, breaks_box_size, breaks_colour_value}
use Rattle.sixel_model.specs.Rules.{breaks_raster_first, breaks_raster_twice, breaks_ratio, breaks_redefined}
use Rattle.sixel_model.specs.Rules.{breaks_register, breaks_repeat_zero, breaks_undefined, breaks_unselected}
use Rattle.sixel_model.specs.Rules.{raster_before}
use Rattle.sixel_model.proofs.RuleLemmas.{Keeps, none_before, none_push}
use Rattle.sixel_model.proofs.StepLemmas.{covered_push, raster_push}
use Rattle.sixel_konsole.specs.Konsole.{counting, has_begun, konsole, konsole_drawing}
use Rattle.sixel_emulator.specs.Readings.{drawn_by}
use Rattle.sixel_konsole.proofs.KonsoleMeasureLemmas.{drawing_push}
use Rattle.sixel_judge.proofs.CoverLemmas.{one_box}
use Rattle.sixel_emulator_rules.specs.Asked.{is_droppable}
use Rattle.sixel_emulator_rules_laws.proofs.FallLemmas.{falls_nowhere}
use Rattle.sixel_emulator_rules_laws.proofs.FollowLemmas.{beside}
use Rattle.sixel_emulator_rules_laws.proofs.InkLemmas.{ink_still, last_ink}
use Rattle.sixel_emulator_rules_laws.proofs.KonsoleBoxLemmas.{IsHeld, held_push, none_held}
use Rattle.sixel_emulator_rules_laws.proofs.KonsoleDrawingLemmas.{IsBody, IsDrawn, asked_last, begun_after, body_before}
use Rattle.sixel_emulator_rules_laws.proofs.KonsoleDrawingLemmas.{counting_push, drawn_push, drops_last, free_next}
use Rattle.sixel_emulator_rules_laws.proofs.KonsoleDrawingLemmas.{front}
use Rattle.sixel_emulator_rules_laws.proofs.KonsoleDrawingLemmas.{front_drawn}
use Rattle.sixel_emulator_rules_laws.proofs.KonsoleDrawingLemmas.{front_plain, goes_on, is_start, keeps_last, last_push}
use Rattle.sixel_emulator_rules_laws.proofs.KonsoleDrawingLemmas.{plain_of}
use Rattle.sixel_emulator_rules_laws.proofs.KonsoleDrawingLemmas.{plain_push, start_boxed, start_plain}
use Rattle.sixel_emulator_rules_laws.proofs.KonsoleInkLemmas.{IsSame, front_same, same_push}
use Rattle.sixel_emulator_rules_laws.proofs.KonsoleRuleLemmas.{IsBox, not_zero}
use Rattle.sixel_emulator_rules_laws.proofs.StaleLemmas.{by_pushes}

-- ---- events that break no rule, from the raster attributes on

abbrev pub raster : Attributes → Event
raster a = Step (Raster a.pan a.pad a.width a.height)

pub record IsFollowed (background : Parts) (w h : ℕ) (a : Attributes) (events : List Event) : Type 0 where
  pub drawn : IsDrawn a events
  pub held : IsHeld a events
  pub same : IsSame background w h events (raster a ∷ plain_of events)

none_below : (a : Attributes) → band (raster a ∷ []) ≡ 0
unfolding band
none_below a = refl

none_right : (a : Attributes) → column 0 (raster a ∷ []) ≡ 0
unfolding column since
none_right a = refl

followed_front : (background : Parts) (w h : ℕ) (start : Event) (a : Attributes) → is_start start ≡ true → IsBox a
    → IsFollowed background w h a (front start a)
followed_front background w h start a starts box =
    let s : IsSame background w h (front start a) (raster a ∷ []) =
    front_same background w h start a.pan a.pad a.width a.height (start_boxed start starts) (start_plain start starts)
    in
    record {
      drawn = front_drawn start a starts (not_zero a.width box.wide);
      held = none_held a (front start a) (front_plain start a starts) (sym (s.place).line ∙ none_below a)
          (sym (s.place).left ∙ none_right a);
      same = subst (λ (es : List Event). IsSame background w h (front start a) (raster a ∷ es))
          (sym (front_plain start a starts)) s;
    }

is_boxed : (a : Attributes) (o : Option Attributes) → o ≡ Some a → IsSome o
is_boxed a o is = rw is refl

followed_push : (background : Parts) (w h n : ℕ) (a : Attributes) (before : List Event) (e : Event) → n ≤ 256
    → a.height % 6 ≡ 0 → IsBody n (before ++ e ∷ []) → IsFollowed background w h a before
    → IsFollowed background w h a (before ++ e ∷ [])
followed_push background w h n a before e few rows body f =
    let k : Keeps n before e = keeps_last n before e body.unbroken in
    let boxed : raster_before before ≡ Some a = (f.drawn).boxed in
    let bare : raster_of e ≡ None = one_box n before e k (is_boxed a (raster_before before) boxed) in
    record {
      drawn = drawn_push n a before e few body f.drawn;
      held = held_push n a before e body boxed rows f.held;
      same = subst (λ (es : List Event). IsSame background w h (before ++ e ∷ []) (raster a ∷ es))
          (sym (plain_push before e)) (same_push background w h before (raster a ∷ plain_of before) e bare f.same);
    }

pub followed : (background : Parts) (w h n : ℕ) (start : Event) (a : Attributes) (steps : List Event) → n ≤ 256
    → is_start start ≡ true → IsBox a → a.height % 6 ≡ 0 → IsBody n (front start a ++ steps)
    → IsFollowed background w h a (front start a ++ steps)
followed background w h n start a steps few starts box rows body =
    by_pushes (λ (es : List Event). IsBody n es → IsFollowed background w h a es) (front start a) steps
    (λ before e ih b. followed_push background w h n a before e few rows b (ih (body_before n before e b)))
    (λ b. followed_front background w h start a starts box) body

-- ---- the reading of a whole list

pub record IsRead (a : Attributes) (events kept : List Event) : Type 0 where
  pub begun : has_begun events None ≡ true
  pub counted : counting events None ≡ Some a
  pub drawn : konsole_drawing events None ≡ plain_of kept

read_whole : (a : Attributes) (body : List Event) (eight : Bool) → drops_last (Some (Finish eight)) body ≡ false
    → IsDrawn a body → IsRead a (body ++ Finish eight ∷ []) body
read_whole a body eight free d = record {
  begun = begun_after body (Finish eight) None (d.begun (Some (Finish eight)) free);
  counted = counting_push body (Finish eight) None ∙ rw (d.counted (Some (Finish eight)) free) refl;
  drawn = drawing_push body (Finish eight) None
      ∙ (append-nil (konsole_drawing body (Some (Finish eight))) ∙ d.drawn (Some (Finish eight)) free);
}

drops_drawn : (before : List Event) (e : Event) (eight : Bool) → raster_of e ≡ None → is_droppable e ≡ true
    → drawn_by (konsole before e (Some (Finish eight))) ≡ []
drops_drawn before (Step (Raster pan pad w h)) eight bare drop = cc
drops_drawn before (Step (Define r s x y z)) eight bare drop = refl
drops_drawn before (Step (Select r)) eight bare drop = refl
drops_drawn before _ eight bare drop = cc

read_dropped : (n : ℕ) (a : Attributes) (before : List Event) (e : Event) (eight : Bool) → IsBody n (before ++ e ∷ [])
    → raster_of e ≡ None → is_droppable e ≡ true → IsDrawn a before
    → IsRead a ((before ++ e ∷ []) ++ Finish eight ∷ []) before
read_dropped n a before e eight body bare drop d =
    let free : drops_last (Some e) before ≡ false =
    free_next before e (goes_on n before e body) (asked_last before e body.asked).dropped in
    let f : Event = Finish eight in
    record {
      begun = begun_after (before ++ e ∷ []) f None (begun_after before e (Some f) (d.begun (Some e) free));
      counted = counting_push (before ++ e ∷ []) f None
          ∙ rw (counting_push before e (Some f), d.counted (Some e) free) refl;
      drawn = drawing_push (before ++ e ∷ []) f None
          ∙ (append-nil (konsole_drawing (before ++ e ∷ []) (Some f))
          ∙ (drawing_push before e (Some f)
          ∙ (ap₂ (λ (xs ys : List Event). xs ++ ys) (d.drawn (Some e) free) (drops_drawn before e eight bare drop)
          ∙ append-nil (plain_of before))));
    }

-- ---- without the last command

rest_shorter : (steps : List Event) (e : Event) (eight : Bool) → AreRest ((steps ++ e ∷ []) ++ Finish eight ∷ [])
    → AreRest (steps ++ Finish eight ∷ [])
rest_shorter [] e eight h = refl
rest_shorter (Start b p ∷ more) e eight h = absurd h
rest_shorter (Step command ∷ more) e eight h = rest_shorter more e eight h
rest_shorter (Finish b ∷ []) e eight h = cc
rest_shorter (Finish b ∷ d ∷ more) e eight h = cc

pub whole_shorter : (start : Event) (a : Attributes) (steps : List Event) (e : Event) (eight : Bool)
    → is_start start ≡ true → AreWhole (start ∷ raster a ∷ ((steps ++ e ∷ []) ++ Finish eight ∷ []))
    → AreWhole (start ∷ raster a ∷ (steps ++ Finish eight ∷ []))
whole_shorter (Start b p) a steps e eight starts h = rest_shorter steps e eight h
whole_shorter _ a steps e eight starts h = cc

uncovered_shorter : (before : List Event) (e : Event) (eight : Bool) (a : Attributes) → is_data_command e ≡ false
    → raster_before before ≡ Some a → BreaksUncovered before (Finish eight)
    → BreaksUncovered (before ++ e ∷ []) (Finish eight)
unfolding BreaksUncovered
uncovered_shorter before e eight a none boxed u =
    let blank = rw boxed at u.1 in
    let still : raster_before (before ++ e ∷ []) ≡ Some a = raster_push before e ∙ rw boxed refl in (
      refl,
      rw still (
        blank.0,
        blank.1,
        record {
          inside = (blank.2).inside;
          blank = covered_push before e blank.0 blank.1
              ∙ rw (falls_nowhere before e blank.0 blank.1 none) (blank.2).blank;
        },
      ),
    )

falls_inside : (before : List Event) (eight : Bool) (a : Attributes) → raster_before before ≡ Some a
    → ¬ BreaksOutside before (Finish eight)
unfolding BreaksOutside
falls_inside before eight a boxed out =
    let o = rw boxed at out in
    let never : true ≡ false = sym (o.2).painted ∙ falls_nowhere before (Finish eight) o.0 o.1 refl in
    cc

finish_keeps : (n : ℕ) (before : List Event) (e : Event) (eight : Bool) (a : Attributes) → is_data_command e ≡ false
    → raster_before before ≡ Some a → Keeps n (before ++ e ∷ []) (Finish eight) → Keeps n before (Finish eight)
unfolding breaks_raster_first breaks_raster_twice breaks_ratio breaks_box_size breaks_register breaks_colour_value
    breaks_repeat_zero breaks_unselected breaks_undefined breaks_redefined
finish_keeps n before e eight a none boxed k = record {
  raster_first = rw boxed refl;
  raster_twice = rw boxed refl;
  ratio = refl;
  box_size = refl;
  register = refl;
  colour_value = refl;
  repeat_zero = refl;
  unselected = refl;
  undefined = refl;
  redefined = refl;
  outside = falls_inside before eight a boxed;
  uncovered = λ u. k.uncovered (uncovered_shorter before e eight a none boxed u);
}

none_shorter : (n : ℕ) (before : List Event) (e : Event) (eight : Bool) (a : Attributes) → is_data_command e ≡ false
    → raster_before before ≡ Some a → is_eight_bit (Finish eight) ≡ false
    → BreaksNone n Uncovered ((before ++ e ∷ []) ++ Finish eight ∷ [])
    → BreaksNone n Uncovered (before ++ Finish eight ∷ [])
none_shorter n before e eight a none boxed bits unbroken =
    none_push n Uncovered before (Finish eight)
    (none_before n Uncovered before e (none_before n Uncovered (before ++ e ∷ []) (Finish eight) unbroken))
    (finish_keeps n before e eight a none boxed (keeps_last n (before ++ e ∷ []) (Finish eight) unbroken)) bits

-- ---- what is kept

-- konsole draws these events of the list; with a finish they are a whole list that breaks no rule, and a terminal that
-- binds at painting shows the same after both
pub record IsKept (background : Parts) (w h n : ℕ) (a : Attributes) (events : List Event) (eight : Bool) : Type 0 where
  pub boxed : raster_before events ≡ Some a
  pub kept : List Event
  pub read : IsRead a events kept
  pub followed : IsFollowed background w h a kept
  pub whole : AreWhole (kept ++ Finish eight ∷ [])
  pub unbroken : BreaksNone n Uncovered (kept ++ Finish eight ∷ [])
  pub inks : (x y : ℕ) → last_ink (beside background w h) events x y
      ≡ last_ink (beside background w h) (kept ++ Finish eight ∷ []) x y

pub box_before_end : (events : List Event) (a : Attributes) (eight : Bool) → raster_before events ≡ Some a
    → raster_before (events ++ Finish eight ∷ []) ≡ Some a
box_before_end events a eight boxed = raster_push events (Finish eight) ∙ rw boxed refl

pub kept_whole : (background : Parts) (w h n : ℕ) (a : Attributes) (before : List Event) (e : Event) (eight : Bool)
    → is_droppable e ≡ false → AreWhole ((before ++ e ∷ []) ++ Finish eight ∷ [])
    → BreaksNone n Uncovered ((before ++ e ∷ []) ++ Finish eight ∷ [])
    → IsFollowed background w h a (before ++ e ∷ [])
    → IsKept background w h n a ((before ++ e ∷ []) ++ Finish eight ∷ []) eight
kept_whole background w h n a before e eight stays whole none f = record {
  boxed = box_before_end (before ++ e ∷ []) a eight (f.drawn).boxed;
  kept = before ++ e ∷ [];
  read = read_whole a (before ++ e ∷ []) eight (last_push before e (Some (Finish eight)) ∙ stays) f.drawn;
  followed = f;
  whole = whole;
  unbroken = none;
  inks = λ x y. refl;
}

drop_data : (e : Event) → is_droppable e ≡ true → is_data_command e ≡ false
drop_data (Step (Sixel bits)) h = cc
drop_data (Step (Repeat count bits)) h = cc
drop_data _ h = refl

pub kept_dropped : (background : Parts) (w h n : ℕ) (a : Attributes) (before : List Event) (e : Event) (eight : Bool)
    → is_droppable e ≡ true → is_eight_bit (Finish eight) ≡ false → AreWhole (before ++ Finish eight ∷ [])
    → BreaksNone n Uncovered ((before ++ e ∷ []) ++ Finish eight ∷ []) → IsBody n (before ++ e ∷ [])
    → IsFollowed background w h a before → IsKept background w h n a ((before ++ e ∷ []) ++ Finish eight ∷ []) eight
kept_dropped background w h n a before e eight drop bits whole none body f =
    let boxed : raster_before before ≡ Some a = (f.drawn).boxed in
    let k : Keeps n before e = keeps_last n before e body.unbroken in
    let bare : raster_of e ≡ None = one_box n before e k (is_boxed a (raster_before before) boxed) in
    let idle : is_data_command e ≡ false = drop_data e drop in
    let t = beside background w h in
    record {
      boxed = box_before_end (before ++ e ∷ []) a eight (raster_push before e ∙ rw boxed refl);
      kept = before;
      read = read_dropped n a before e eight body bare drop f.drawn;
      followed = f;
      whole = whole;
      unbroken = none_shorter n before e eight a idle boxed bits none;
      inks = λ x y. ink_still t (before ++ e ∷ []) (Finish eight) x y refl
          ∙ (ink_still t before e x y idle ∙ sym (ink_still t before (Finish eight) x y refl));
    }
