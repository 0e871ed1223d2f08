-- The first rule that counts at an event is the lowest-numbered one that it breaks.
use Rattle.std.proofs.Common.{◌≡◌, ◌≢◌, ◌≤◌, ℕ, suc, inl, inr, Bool, true, false, Option, Some, None, List, arith, refl}
use Rattle.std.proofs.Common.{ap, subst, sym, ◌∙◌}
use Rattle.std.specs.List.{find}
use Rattle.std.specs.Prelude.{is_some, if◌then◌else◌}
use Rattle.std.specs.Option.{option_map}
use Rattle.std.proofs.Math.Nat.{eq-or-lt_of_le}
use Rattle.sixel_grammar.specs.declared.command.Event.{Event}
use Rattle.sixel_model.specs.Grids.{Grid}
use Rattle.sixel_model.specs.Rules.{BreaksNone, last_rule, number_of}
use Rattle.sixel_model.proofs.RuleLemmas.{at_least_one, at_most_last, same_rule}
use Rattle.sixel_model.specs.declared.rule.Rule.{Rule}
use Rattle.sixel_model.specs.declared.rule.Rule.TheVariants.{RasterFirst, RasterTwice, Ratio, BoxSize, Register}
use Rattle.sixel_model.specs.declared.rule.Rule.TheVariants.{ColourValue, RepeatZero, Unselected, Undefined, Redefined}
use Rattle.sixel_model.specs.declared.rule.Rule.TheVariants.{Outside, Uncovered}
use Rattle.sixel_judge.specs.declared.hits.Hit.{Hit}
use Rattle.sixel_judge.specs.declared.notes.Notes.{Notes}
use Rattle.sixel_judge.specs.Counting.{Counts, IsFirstHit, IsFirstUpTo, IsHit, has_box, without_pixel}
use Rattle.sixel_judge.specs.Covering.{IsCoverAfter}
use Rattle.sixel_judge.specs.Judging.{BreaksNoRule, IsGridAfter, box_of}
use Rattle.sixel_judge.specs.Notes.{IsNotesAfter, before_outside, counts_in}
use Rattle.sixel_judge.proofs.HitLemmas.{hit_if, notes_hit, outside_none, uncovered_none}
use Rattle.sixel_judge.proofs.TellLemmas.{none_broken}

-- no rule has a number of 0
none_yet : (registers : ℕ) (before : List Event) (e : Event) → IsFirstUpTo registers 0 before e None
none_yet registers before e m le counts = let some = at_least_one m in absurd (omega (arith, le, some))

-- the next rule counts, and none before it does
pub next_counts : (registers n : ℕ) (before : List Event) (e : Event) (rule : Rule) (hit : Hit) → number_of rule ≡ suc n
    → IsFirstUpTo registers n before e None → IsHit registers rule before e (Some hit)
    → IsFirstHit registers before e (record { rule = rule; pixel = hit.pixel })
next_counts registers n before e rule hit is none h =
    record { counts = h.0; pixel = h.1; none_smaller = λ m lt. none m (omega (arith, is, lt)) }

-- nor does the next one
pub next_passes : (registers n : ℕ) (before : List Event) (e : Event) (rule : Rule) → number_of rule ≡ suc n
    → IsFirstUpTo registers n before e None → ¬ Counts registers rule before e
    → IsFirstUpTo registers (suc n) before e None
next_passes registers n before e rule is none passes m le h =
    elim (eq-or-lt_of_le le) [
      | inl same ↦ passes (subst (λ (r : Rule). Counts registers r before e) (same_rule m rule (same ∙ sym is)) h)
      | inr less ↦ none m (omega (arith, less)) h
    ]

-- the next rule counts, or else the first of the others
found_or : (registers n : ℕ) (before : List Event) (e : Event) (rule : Rule) (b : Bool) (o : Option Rule)
    → number_of rule ≡ suc n → IsHit registers rule before e (hit_if b) → IsFirstUpTo registers n before e None
    → (IsFirstUpTo registers (suc n) before e None → IsFirstUpTo registers 10 before e (without_pixel o))
    → IsFirstUpTo registers 10 before e (without_pixel (if b then Some rule else o))
found_or registers n before e rule true o is h none more =
    next_counts registers n before e rule (record { pixel = None }) is none h
found_or registers n before e rule false o is h none more = more (next_passes registers n before e rule is none h)

-- the first of the rules before `Outside`
pub first_before_outside : (registers : ℕ) {n : Notes} {before : List Event} (e : Event) → registers ≤ 256
    → IsNotesAfter n before
    → IsFirstUpTo registers 10 before e (without_pixel (find (counts_in registers n e) before_outside))
first_before_outside registers {n} {before} e few s =
    let hit = λ (r : Rule) (p : r ≢ Outside) (q : r ≢ Uncovered). notes_hit registers n before e r few s p q in
    found_or registers 0 before e RasterFirst _ _ refl (hit RasterFirst (λ i. cc) (λ i. cc)) (none_yet _ before e) (λ f.
    found_or registers 1 before e RasterTwice _ _ refl (hit RasterTwice (λ i. cc) (λ i. cc)) f (λ f.
    found_or registers 2 before e Ratio _ _ refl (hit Ratio (λ i. cc) (λ i. cc)) f (λ f.
    found_or registers 3 before e BoxSize _ _ refl (hit BoxSize (λ i. cc) (λ i. cc)) f (λ f.
    found_or registers 4 before e Register _ _ refl (hit Register (λ i. cc) (λ i. cc)) f (λ f.
    found_or registers 5 before e ColourValue _ _ refl (hit ColourValue (λ i. cc) (λ i. cc)) f (λ f.
    found_or registers 6 before e RepeatZero _ _ refl (hit RepeatZero (λ i. cc) (λ i. cc)) f (λ f.
    found_or registers 7 before e Unselected _ _ refl (hit Unselected (λ i. cc) (λ i. cc)) f (λ f.
    found_or registers 8 before e Undefined _ _ refl (hit Undefined (λ i. cc) (λ i. cc)) f (λ f.
    found_or registers 9 before e Redefined _ None refl (hit Redefined (λ i. cc) (λ i. cc)) f (λ f. f))))))))))

-- the two rules on pixels don't count without a box
pub passed_without_box : (registers : ℕ) (before : List Event) (e : Event) → has_box before ≡ false
    → IsFirstUpTo registers 10 before e None → IsFirstUpTo registers 12 before e None
passed_without_box registers before e no_box none =
    next_passes registers 11 before e Uncovered refl
    (next_passes registers 10 before e Outside refl none (outside_none registers before e no_box))
    (uncovered_none registers before e no_box)

-- if no rule was broken before, and none counts, none is broken
pub breaks_none : (registers : ℕ) (before : List Event) (e : Event) → BreaksNone registers last_rule before
    → IsFirstUpTo registers (number_of last_rule) before e None → BreaksNoRule registers before e
breaks_none registers before e none first rule =
    let most = at_most_last rule in
    none_broken registers 14 before e none (λ m lt. first m (omega (arith, lt))) rule (omega (arith, most))

-- the grid of what is drawn is that of what is covered
pub grid_covers : (kept : ℕ → ℕ) (grid : Option Grid) (before : List Event) → IsGridAfter kept grid before
    → IsCoverAfter grid before
grid_covers kept None before u = rw u.no_box refl
grid_covers kept (Some s) before d = record {
  box = box_of s;
  box_is = d.box;
  width_is = refl;
  height_is = refl;
  width = d.width;
  height = d.height;
  pixels = d.pixels;
  covered = λ late. d.covered;
}

-- there is a grid exactly if there is a box
pub grid_declared : {P : Type 0} (kept : ℕ → ℕ) (f : P → Grid) (o : Option P) {n : Notes} {before : List Event}
    → IsNotesAfter n before → IsGridAfter kept (option_map f o) before → is_some o ≡ n.declared
grid_declared kept f None s u = sym (s.declared_is ∙ ap is_some u.no_box)
grid_declared kept f (Some p) s d = sym (s.declared_is ∙ ap is_some d.box)

-- what the notes find is the first of the ten rules before `Outside` that count
pub found_first : {P : Type 0} (registers : ℕ) (kept : ℕ → ℕ) (f : P → Grid) (plane : Option P) {n : Notes}
    {before : List Event} (e : Event) (box : Bool) (o : Option Rule) → registers ≤ 256 → IsNotesAfter n before
    → IsGridAfter kept (option_map f plane) before → box ≡ is_some plane
    → (box ≡ n.declared → o ≡ find (counts_in registers n e) before_outside)
    → IsFirstUpTo registers 10 before e (without_pixel o)
found_first registers kept f plane {n} e box o few s d is found =
    let declared : box ≡ n.declared = is ∙ grid_declared kept f plane s d in
    rw (found declared) (first_before_outside registers e few s)
