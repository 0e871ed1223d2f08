-- On the box, if no rule is broken: it comes before all data, and is covered.
use Rattle.std.proofs.Common.{◌≡◌, ◌≤◌, ℕ, Bool, true, false, ◌&&◌, Option, Some, None, List, [], ◌∷◌, ◌++◌, length}
use Rattle.std.proofs.Common.{take, refl, sym, ap, ◌∙◌, arith}
use Rattle.std.specs.Prelude.{is_none, is_some, IsSome}
use Rattle.std.proofs.lemmas.Bool.{or_right, true_from_ne_false}
use Rattle.std.proofs.Math.Bool.{and-true}
use Rattle.std.proofs.Math.Seq.{take-append_seam}
use Rattle.sixel_grammar.specs.declared.command.Event.{Event}
use Rattle.sixel_grammar.specs.declared.command.Event.TheVariants.{Start, Step, Finish}
use Rattle.sixel_grammar.specs.Document.{AreRest, AreWhole}
use Rattle.sixel_model.specs.Events.{Attributes, is_data_command, is_in_box, raster_of}
use Rattle.sixel_model.specs.Geometry.{falls}
use Rattle.sixel_model.specs.Rules.{BreaksNone, BreaksUncovered, breaks_raster_first, breaks_raster_twice, is_covered}
use Rattle.sixel_model.specs.Rules.{raster_before}
use Rattle.sixel_model.proofs.FirstLemmas.{earliest_later}
use Rattle.sixel_model.proofs.PositionLemmas.{get_end, option_or_none}
use Rattle.sixel_model.proofs.RuleLemmas.{Keeps, keeps_at}
use Rattle.sixel_model.proofs.StepLemmas.{covered_push, raster_push}
use Rattle.sixel_model.specs.declared.rule.Rule.TheVariants.{Uncovered}
use Rattle.sixel_judge.specs.Laws.{AllCovered, FilledFirst}
use Rattle.sixel_judge.proofs.OptionLemmas.{some_from}

-- at a data command there is a box
pub box_at_data : (n : ℕ) (before : List Event) (e : Event) → Keeps n before e → is_data_command e ≡ true
    → IsSome (raster_before before)
unfolding breaks_raster_first
box_at_data n before e k h =
    some_from (raster_before before) (sym (and-true (is_none (raster_before before))) ∙ rw h at k.raster_first)

no_second : (o p : Option Attributes) → (is_some o && is_some p) ≡ false → IsSome o → p ≡ None
no_second None p h s = cc
no_second (Some a) None h s = refl
no_second (Some a) (Some b) h s = cc

-- after raster attributes there are no others
pub one_box : (n : ℕ) (before : List Event) (e : Event) → Keeps n before e → IsSome (raster_before before)
    → raster_of e ≡ None
unfolding breaks_raster_twice
one_box n before e k h = no_second (raster_before before) (raster_of e) k.raster_twice h

-- if there is a box before a position, there is one before each later position
pub box_later : (i j : ℕ) (events : List Event) → i ≤ j → IsSome (raster_before (take i events))
    → IsSome (raster_before (take j events))
unfolding raster_before
box_later i j events le h = earliest_later raster_of i j events le h

pub filled_first : (n : ℕ) → FilledFirst n
filled_first n events i j d e none lt at_i is_data at_j =
    let there : IsSome (raster_before (take i events))
    = box_at_data n (take i events) d (keeps_at n events none i d at_i) is_data in
    one_box n (take j events) e (keeps_at n events none j e at_j) (box_later i j events (omega arith) there)

-- ---- the end of a whole list

-- the events before the finish
record EndsIn (events : List Event) : Type 0 where
  pub prefix : List Event
  pub eight : Bool
  pub is : events ≡ prefix ++ Finish eight ∷ []

ends_longer : (e : Event) (more : List Event) → EndsIn more → EndsIn (e ∷ more)
ends_longer e more rest =
    record { prefix = e ∷ rest.prefix; eight = rest.eight; is = ap (λ (es : List Event). e ∷ es) rest.is }

rest_ends : (events : List Event) → AreRest events → EndsIn events
rest_ends (Step command ∷ more) h = ends_longer (Step command) more (rest_ends more h)
rest_ends (Finish eight ∷ more) h =
    record { prefix = []; eight = eight; is = ap (λ (es : List Event). Finish eight ∷ es) h }
rest_ends _ h = absurd h

whole_ends : (events : List Event) → AreWhole events → EndsIn events
whole_ends (Start eight parameters ∷ more) h = ends_longer (Start eight parameters) more (rest_ends more h)
whole_ends _ h = absurd h

-- a finish adds no raster attributes
box_before : (before : List Event) (eight : Bool) → raster_before (before ++ Finish eight ∷ []) ≡ raster_before before
box_before before eight = raster_push before (Finish eight) ∙ option_or_none (raster_before before)

-- the finish of a list in which no rule is broken keeps each rule
keeps_end : (n : ℕ) (before : List Event) (eight : Bool) → BreaksNone n Uncovered (before ++ Finish eight ∷ [])
    → Keeps n before (Finish eight)
keeps_end n before eight none =
    let k : Keeps n (take (length before) (before ++ Finish eight ∷ [])) (Finish eight)
    = keeps_at n (before ++ Finish eight ∷ []) none (length before) (Finish eight) (get_end before (Finish eight)) in
    rw take-append_seam at k

covered_whole : (n : ℕ) (before : List Event) (eight : Bool) (a : Attributes) (x y : ℕ)
    → BreaksNone n Uncovered (before ++ Finish eight ∷ []) → raster_before (before ++ Finish eight ∷ []) ≡ Some a
    → is_in_box a x y ≡ true → is_covered (before ++ Finish eight ∷ []) x y ≡ true
unfolding BreaksUncovered
covered_whole n before eight a x y none box inside =
    let at : raster_before before ≡ Some a = sym (box_before before eight) ∙ box in
    covered_push before (Finish eight) x y
    ∙ or_right (falls before (Finish eight) x y) _
    (true_from_ne_false (is_covered before x y) (λ blank.
    (keeps_end n before eight none).uncovered (refl, rw at (x, y, record { inside = inside; blank = blank }))))

pub all_covered : (n : ℕ) → AllCovered n
all_covered n events a x y whole none box inside =
    let e : EndsIn events = whole_ends events whole in
    let is : events ≡ e.prefix ++ Finish e.eight ∷ [] = e.is in
    rw is (covered_whole n e.prefix e.eight a x y (rw is at none) (rw is at box) inside)

box_at_end : (n : ℕ) (before : List Event) (eight : Bool) → BreaksNone n Uncovered (before ++ Finish eight ∷ [])
    → IsSome (raster_before (before ++ Finish eight ∷ []))
unfolding breaks_raster_first
box_at_end n before eight none =
    rw (box_before before eight)
    (some_from (raster_before before)
    (sym (and-true (is_none (raster_before before))) ∙ (keeps_end n before eight none).raster_first))

-- a whole list in which no rule is broken has a box
pub box_there : (n : ℕ) (events : List Event) → AreWhole events → BreaksNone n Uncovered events
    → IsSome (raster_before events)
box_there n events whole none =
    let e : EndsIn events = whole_ends events whole in
    let is : events ≡ e.prefix ++ Finish e.eight ∷ [] = e.is in
    rw is (box_at_end n e.prefix e.eight (rw is at none))

pub has_box : (n : ℕ) (events : List Event) → AreWhole events → BreaksNone n Uncovered events
    → raster_before events ≡ None → ⊥
has_box n events whole none bare =
    let some : IsSome {T = Attributes} None = rw bare at (box_there n events whole none) in cc
