-- In a whole list that breaks no rule, an event of the first band covers the last pixel of the box's first row.
use Rattle.std.proofs.Common.{◌≡◌, ℕ, ◌+◌, ◌-◌, ◌*◌, ◌<◌, true, false, Some, List, [], ◌∷◌, ◌++◌, ◌∙◌, arith, drop}
use Rattle.std.proofs.Common.{refl, subst, take}
use Rattle.std.proofs.lemmas.Bool.{false_from_ne_true}
use Rattle.std.proofs.lemmas.List.{take-append-drop}
use Rattle.sixel_grammar.specs.declared.command.Event.{Event}
use Rattle.sixel_grammar.specs.Document.{AreWhole}
use Rattle.sixel_model.specs.declared.rule.Rule.TheVariants.{Uncovered}
use Rattle.sixel_model.specs.Events.{Attributes, bits_of, columns_of, is_in_box}
use Rattle.sixel_model.specs.Geometry.{band, column, falls, touches}
use Rattle.sixel_model.specs.Rules.{BreaksNone, is_covered, raster_before}
use Rattle.sixel_model.proofs.CoverLemmas.{lies_under}
use Rattle.sixel_model.proofs.StepLemmas.{band_push, covered_push, raster_push}
use Rattle.sixel_judge.proofs.CoverLemmas.{all_covered}
use Rattle.sixel_emulator_rules_laws.proofs.StaleLemmas.{by_pushes}

-- a new line left the first band, and the last pixel of the box's first row isn't covered
pub record IsMissed (before : List Event) : Type 0 where
  pub box : Attributes
  pub here : raster_before before ≡ Some box
  pub inside : is_in_box box (box.width - 1) 0 ≡ true
  pub down : 0 < band before
  pub blank : is_covered before (box.width - 1) 0 ≡ false

not_fallen : (before : List Event) (e : Event) (x : ℕ) → 0 < band before → falls before e x 0 ≡ false
unfolding falls touches
not_fallen before e x down =
    false_from_ne_true _ (λ fell.
    let u = lies_under (column 0 before) (columns_of 0 e) (band before) (bits_of e) x 0 fell in
    let row : 0 ≡ 6 * band before + u.bit = u.row in
    absurd (omega (arith, row, down)))

pub missed_push : (before : List Event) (e : Event) → IsMissed before → IsMissed (before ++ e ∷ [])
missed_push before e l =
    let down : 0 < band before = l.down in
    record {
      box = l.box;
      here = raster_push before e ∙ rw l.here refl;
      inside = l.inside;
      down = rw (band_push before e) (omega (arith, down));
      blank = covered_push before e (l.box.width - 1) 0
          ∙ rw (not_fallen before e (l.box.width - 1) down, l.blank) refl;
    }

-- it stays missed
pub missed_taken : (events : List Event) (i : ℕ) → IsMissed (take i events) → IsMissed events
missed_taken events i l =
    subst IsMissed (take-append-drop i events)
    (by_pushes IsMissed (take i events) (drop i events) (λ before e missed. missed_push before e missed) l)

pub not_missed : (n : ℕ) (events : List Event) → AreWhole events → BreaksNone n Uncovered events → ¬ IsMissed events
not_missed n events whole none l =
    let covered : is_covered events (l.box.width - 1) 0 ≡ true =
    all_covered n events l.box (l.box.width - 1) 0 whole none l.here l.inside in
    let blank : is_covered events (l.box.width - 1) 0 ≡ false = l.blank in
    cc
