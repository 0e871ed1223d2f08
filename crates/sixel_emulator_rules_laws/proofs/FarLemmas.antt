-- A list that breaks no rule of portable pictures breaks `Past` wherever it breaks `Far`.
use Rattle.std.proofs.Common.{◌≡◌, ℕ, ◌+◌, ◌*◌, ◌<◌, ◌≤◌, Bool, true, false, ◌||◌, Some, List, refl, sym, ◌∙◌}
use Rattle.std.proofs.Common.{take, arith}
use Rattle.std.specs.Prelude.{IfSome, nat_le, nat_lt}
use Rattle.std.proofs.lemmas.Bool.{and_parts, and_right, le-leb, leb-true, ltb-false, ltb-true}
use Rattle.sixel_grammar.specs.declared.command.Event.{Event}
use Rattle.sixel_model.specs.declared.rule.Rule.TheVariants.{Uncovered}
use Rattle.sixel_model.specs.Events.{Attributes, columns_of, has_sides, is_data_command, is_painting, raster_of}
use Rattle.sixel_model.specs.Geometry.{band, column}
use Rattle.sixel_model.specs.Rules.{BreaksNone, breaks_box_size, raster_before}
use Rattle.sixel_model.proofs.LatestLemmas.{each_from_positions}
use Rattle.sixel_model.proofs.RuleLemmas.{Keeps, keeps_at, none_drawn}
use Rattle.sixel_judge.proofs.AlarmLemmas.{taken_there}
use Rattle.sixel_judge.proofs.CoverLemmas.{box_at_data}
use Rattle.sixel_judge.proofs.DifferenceLemmas.{earliest_each, sides_if}
use Rattle.sixel_judge.proofs.OptionLemmas.{some_value}
use Rattle.sixel_emulator_rules.specs.Asked.{breaks_far, breaks_past, ends_right, is_deep}
use Rattle.sixel_emulator_rules_laws.specs.Witnesses.{FarBreaksPast}
use Rattle.sixel_emulator_rules_laws.proofs.KeptLemmas.{IsFit, fit, not_above}

-- ---- the box has a width of at most 2,048

taken_sides : (n i : ℕ) (events : List Event) (a : Attributes) → BreaksNone n Uncovered events
    → raster_before (take i events) ≡ Some a → has_sides a ≡ true
unfolding breaks_box_size raster_before
taken_sides n i events a none box =
    rw box at (earliest_each raster_of (λ a. has_sides a ≡ true) (take i events)
    (each_from_positions (λ e. IfSome (raster_of e) (λ a. has_sides a ≡ true)) (take i events)
    (λ j e here. let at = taken_there i j events e here in
    sides_if (raster_of e) (keeps_at n events none j e at.1).box_size)))

narrow : (a : Attributes) → has_sides a ≡ true → a.width ≤ 2048
narrow a sides =
    let across = and_parts _ _ (and_parts _ _ sides).0 in
    leb-true a.width 2048 across.1

-- ---- one event

-- a painting command that breaks no rule of portable pictures is in the box
painted_near : (n : ℕ) (before : List Event) (e : Event) (a : Attributes) → Keeps n before e
    → raster_before before ≡ Some a → a.width ≤ 2048 → is_painting e ≡ true → breaks_far before e ≡ false
unfolding breaks_far
painted_near n before e a k box wide paints =
    let f : IsFit a before e = fit n before e a k box paints in
    let across : column 0 before + columns_of 0 e ≤ a.width = f.across in
    let down : 6 * band before < a.height = f.down in
    rw (
      box,
      not_above 32767 (column 0 before + columns_of 0 e) (omega (arith, across, wide)),
      not_above a.width (column 0 before + columns_of 0 e) across,
      not_above (a.height + 512) (6 * band before + 6) (omega (arith, down)),
    )
    (and_right (is_data_command e) false refl)

-- what ends so far out ends right of the box, or its band begins below it
out_of_box : (w h end low : ℕ) (right : Bool) → nat_lt w end ≡ right → w ≤ 2048
    → (nat_lt 32767 end || (right || nat_lt (h + 512) (low + 6))) ≡ true → (right || nat_le h low) ≡ true
out_of_box w h end low true is wide out = refl
out_of_box w h end low false is wide out =
    let left : end ≤ w = ltb-false w end is in
    let near : nat_lt 32767 end ≡ false = not_above 32767 end (omega (arith, left, wide)) in
    let deep : nat_lt (h + 512) (low + 6) ≡ true = rw near at out in
    let lt : h + 512 < low + 6 = ltb-true (h + 512) (low + 6) deep in
    le-leb h low (omega (arith, lt))

blank_is_past : (before : List Event) (e : Event) (a : Attributes) → raster_before before ≡ Some a → a.width ≤ 2048
    → is_data_command e ≡ true → is_painting e ≡ false → breaks_far before e ≡ true → breaks_past before e ≡ true
unfolding breaks_far breaks_past
blank_is_past before e a box wide is_data blank far =
    let out : (nat_lt 32767 (column 0 before + columns_of 0 e) || (ends_right a before e || is_deep a before)) ≡ true =
    rw (is_data, box) at far in
    rw (blank, box, is_data)
    (out_of_box a.width a.height (column 0 before + columns_of 0 e) (6 * band before) (ends_right a before e) refl wide
    out)

far_is_past : (n : ℕ) (before : List Event) (e : Event) (a : Attributes) (paints : Bool) → is_painting e ≡ paints
    → Keeps n before e → raster_before before ≡ Some a → a.width ≤ 2048 → is_data_command e ≡ true
    → breaks_far before e ≡ true → breaks_past before e ≡ true
far_is_past n before e a true is k box wide is_data far =
    let no : true ≡ false = sym far ∙ painted_near n before e a k box wide is in cc
far_is_past n before e a false is k box wide is_data far = blank_is_past before e a box wide is_data is far

data_there : (before : List Event) (e : Event) → breaks_far before e ≡ true → is_data_command e ≡ true
unfolding breaks_far
data_there before e far = (and_parts (is_data_command e) _ far).0

-- ---- a list

pub far_breaks_past : FarBreaksPast
far_breaks_past registers events i none far =
    let drawn : BreaksNone registers Uncovered events = none_drawn registers events none in
    let before : List Event = take i events in
    let k : Keeps registers before far.item = keeps_at registers events drawn i far.item far.here in
    let is_data : is_data_command far.item ≡ true = data_there before far.item far.holds in
    let a : (a : Attributes) × (raster_before before ≡ Some a)
    = some_value _ (box_at_data registers before far.item k is_data) in
    record {
      item = far.item;
      here = far.here;
      holds = far_is_past registers before far.item a.0 (is_painting far.item) refl k a.1
          (narrow a.0 (taken_sides registers i events a.0 drawn a.1)) is_data far.holds;
    }
