-- Lemmas for what terminals do at what a finding names.
use Rattle.std.proofs.Common.{◌≡◌, ◌<◌, ◌≤◌, inl, inr, ℕ, zero, suc, true, false, Some, None, List, [], ◌∷◌, length}
use Rattle.std.proofs.Common.{take, refl, sym, ap, subst, ◌∙◌, arith}
use Rattle.std.specs.Prelude.{slice_get, IfSome, IsFalse, IsSome, IsTrue}
use Rattle.std.proofs.Math.Nat.{eq-or-lt_of_le}
use Rattle.sixel_grammar.specs.declared.command.Event.{Event}
use Rattle.sixel_grammar.specs.declared.command.Event.TheVariants.{Start, Step, Finish}
use Rattle.sixel_grammar.specs.Document.{AreRest, AreWhole}
use Rattle.sixel_model.specs.Events.{is_finish, is_repeat_of_zero, is_square, raster_of}
use Rattle.sixel_model.specs.Geometry.{falls}
use Rattle.sixel_model.specs.Positions.{HoldsAtPosition}
use Rattle.sixel_model.specs.Rules.{Breaks, IsFirstBroken, breaks_ratio, breaks_repeat_zero, number_of, raster_before}
use Rattle.sixel_model.proofs.LatestLemmas.{each_from_positions}
use Rattle.sixel_model.proofs.RuleLemmas.{is_false}
use Rattle.sixel_model.specs.declared.rule.Rule.{Rule}
use Rattle.sixel_model.specs.declared.rule.Rule.TheVariants.{Ratio, RepeatZero}
use Rattle.sixel_terminal.specs.Displays.{Display}
use Rattle.sixel_terminal.specs.Drawing.{touches_on}
use Rattle.sixel_terminal.specs.Laws.{IsPlain}
use Rattle.sixel_terminal.proofs.PlainLemmas.{same_points_on_each}
use Rattle.sixel_judge.proofs.WithinLemmas.{square_if}

-- ---- prefixes of a list

-- an item of a prefix is the list's item at the same position
pub taken_there : {X : Type 0} (k j : ℕ) (xs : List X) (x : X) → slice_get (take k xs) j ≡ Some x
    → (j < k) × (slice_get xs j ≡ Some x)
taken_there zero j xs x h = cc
taken_there (suc k) j [] x h = cc
taken_there (suc k) zero (y ∷ ys) x h = (omega arith, h)
taken_there (suc k) (suc j) (y ∷ ys) x h =
    let rest = taken_there k j ys x h in (omega (arith, rest.0), rest.1)

pub taken_get : {X : Type 0} (k j : ℕ) (xs : List X) → j < k → slice_get (take k xs) j ≡ slice_get xs j
taken_get zero j xs lt = absurd (omega arith)
taken_get (suc k) j [] lt = refl
taken_get (suc k) zero (y ∷ ys) lt = refl
taken_get (suc k) (suc j) (y ∷ ys) lt = taken_get k j ys (omega arith)

pub taken_twice : {X : Type 0} (j k : ℕ) (xs : List X) → j ≤ k → take j (take k xs) ≡ take j xs
taken_twice zero k xs le = refl
taken_twice (suc j) zero xs le = absurd (omega arith)
taken_twice (suc j) (suc k) [] le = refl
taken_twice (suc j) (suc k) (y ∷ ys) le = ap (λ (l : List _). y ∷ l) (taken_twice j k ys (omega arith))

-- ---- what is unbroken up to the first broken rule

-- up to the first broken rule, no rule of a smaller number is broken
pub below_first : {registers i : ℕ} {rule : Rule} {events : List Event} → IsFirstBroken registers events rule i
    → (m : Rule) (k : ℕ) → number_of m < number_of rule → k ≤ i → ¬ HoldsAtPosition (Breaks registers m) events k
below_first {registers} {i} {rule} {events} f m k lt le = elim (eq-or-lt_of_le le) [
  | inl same ↦ subst (λ (j : ℕ). ¬ HoldsAtPosition (Breaks registers m) events j) (sym same) (f.none_smaller m lt)
  | inr less ↦ f.none_earlier m k less
]

-- a rule that isn't broken at the position isn't broken by the event there
pub not_there : (registers : ℕ) (m : Rule) (k : ℕ) (events : List Event) (e : Event)
    → ¬ HoldsAtPosition (Breaks registers m) events k → slice_get events k ≡ Some e
    → ¬ Breaks registers m (take k events) e
not_there registers m k events e none here broken = none (record { item = e; here = here; holds = broken })

-- the events up to the first broken rule are plain, if its number is above that of RepeatZero
pub plain_up_to : {registers i : ℕ} {rule : Rule} {events : List Event} → IsFirstBroken registers events rule i
    → number_of RepeatZero < number_of rule → IsPlain (take (suc i) events)
unfolding Breaks breaks_ratio breaks_repeat_zero
plain_up_to {registers} {i} {rule} {events} f lt = record {
  no_repeat_of_zero = each_from_positions (λ e. IsFalse (is_repeat_of_zero e)) (take (suc i) events)
      (λ j e here. let at = taken_there (suc i) j events e here in
      is_false _ (not_there registers RepeatZero j events e
      (below_first f RepeatZero j lt (omega (arith, at.0))) at.1));
  square = each_from_positions (λ e. IfSome (raster_of e) (λ a. IsTrue (is_square a))) (take (suc i) events)
      (λ j e here. let at = taken_there (suc i) j events e here in
      square_if (raster_of e) (is_false _ (not_there registers Ratio j events e
      (below_first f Ratio j (omega (arith, lt)) (omega (arith, at.0))) at.1)));
}

-- an event up to there that has a box before it touches the same points on each terminal
pub same_up_to : (t : Display) (events : List Event) (i j : ℕ) (e : Event) (x y : ℕ) → IsPlain (take (suc i) events)
    → j ≤ i → slice_get events j ≡ Some e → IsSome (raster_before (take j events))
    → touches_on t (take j events) e x y ≡ falls (take j events) e x y
same_up_to t events i j e x y plain le here box =
    let prefix : take j (take (suc i) events) ≡ take j events = taken_twice j (suc i) events (omega (arith, le)) in
    let there : slice_get (take (suc i) events) j ≡ Some e = taken_get (suc i) j events (omega (arith, le)) ∙ here in
    rw prefix at (same_points_on_each t (take (suc i) events) j e x y plain there (rw prefix box))

-- ---- the end of a whole list

rest_last : (more : List Event) (i : ℕ) (e : Event) → AreRest more → slice_get more i ≡ Some e → is_finish e ≡ true
    → length more ≡ suc i
rest_last (Step command ∷ more) zero e h here f =
    let same : Step command ≡ e = cc in let no : false ≡ true = rw (← same) at f in cc
rest_last (Step command ∷ more) (suc i) e h here f = ap suc (rest_last more i e h here f)
rest_last (Finish eight ∷ more) zero e h here f = rw h refl
rest_last (Finish eight ∷ more) (suc i) e h here f = let none : None ≡ Some e = rw h at here in cc
rest_last _ i e h here f = absurd h

-- nothing follows a finish
pub finish_last : (events : List Event) (i : ℕ) (e : Event) → AreWhole events → slice_get events i ≡ Some e
    → is_finish e ≡ true → length events ≡ suc i
finish_last (Start eight parameters ∷ more) zero e h here f =
    let same : Start eight parameters ≡ e = cc in let no : false ≡ true = rw (← same) at f in cc
finish_last (Start eight parameters ∷ more) (suc i) e h here f = ap suc (rest_last more i e h here f)
finish_last _ i e h here f = absurd h
