-- A plain terminal shows a picture if another, which shows it, shows the same in the box.
use Rattle.std.proofs.Common.{◌≡◌, ℕ, ◌+◌, ◌<◌, ◌≤◌, true, false, Some, List, refl, sym, ap, ap₂, ◌∙◌, arith}
use Rattle.std.specs.Prelude.{nat_lt}
use Rattle.std.proofs.lemmas.Bool.{and_from, and_parts, lt-ltb, ltb-true, true_from_ne_false}
use Rattle.sixel_grammar.specs.declared.command.Event.{Event}
use Rattle.sixel_grammar.specs.Document.{AreWhole}
use Rattle.sixel_model.specs.declared.colour.Parts.{Parts}
use Rattle.sixel_model.specs.declared.rule.Rule.TheVariants.{Uncovered}
use Rattle.sixel_model.specs.Events.{Attributes, is_in_box}
use Rattle.sixel_model.specs.Rules.{BreaksNone, picture_left, raster_before}
use Rattle.sixel_terminal.specs.Displays.{Display, registers_of}
use Rattle.sixel_terminal.specs.Drawing.{IsPainted, is_seen_on, shown_on}
use Rattle.sixel_judge.specs.Portable.{Shows}
use Rattle.sixel_judge.proofs.ShownLemmas.{shows_left, size_left}
use Rattle.sixel_judge.proofs.WithinLemmas.{none_painted_outside}
use Rattle.sixel_emulator_rules_laws.proofs.PlainLemmas.{IsBare, from_left, from_top}

seen : (t : Display) (events : List Event) → IsBare t → is_seen_on t events ≡ true
unfolding is_seen_on
seen t events b = rw b.eight_bit refl

-- what is painted in a list that breaks no rule is in the box
pub painted_inside : (n : ℕ) (t : Display) (events : List Event) (a : Attributes) (x y : ℕ) → IsBare t
    → BreaksNone n Uncovered events → raster_before events ≡ Some a → IsPainted t events x y
    → is_in_box a x y ≡ true
painted_inside n t events a x y bare none box painted =
    let left : t.choices.origin_x ≡ 0 = bare.left in
    let top : t.choices.origin_y ≡ 0 = bare.top in
    true_from_ne_false (is_in_box a x y) (λ out.
    none_painted_outside n t events a x y none box (λ b.
    let right : x < t.choices.origin_x + a.width = b.right in
    let bottom : y < t.choices.origin_y + a.height = b.bottom in
    let inside : is_in_box a x y ≡ true =
    and_from (nat_lt x a.width) (nat_lt y a.height) (lt-ltb x a.width (omega (arith, right, left)))
    (lt-ltb y a.height (omega (arith, bottom, top))) in
    let no : true ≡ false = sym inside ∙ out in
    cc) painted)

-- the terminal shows in the box what another shows by the events, and paints nothing outside it
pub record IsLike (t u : Display) (a : Attributes) (events drawing : List Event) : Type 0 where
  pub inside : (x y : ℕ) → x < a.width → y < a.height → shown_on t drawing x y ≡ shown_on u events x y
  pub outside : (x y : ℕ) → IsPainted t drawing x y → is_in_box a x y ≡ true

at_origins : (t : Display) (events : List Event) (x y : ℕ) → IsBare t
    → shown_on t events (t.choices.origin_x + x) (t.choices.origin_y + y) ≡ shown_on t events x y
at_origins t events x y b = ap₂ (shown_on t events) (from_left t x b) (from_top t y b)

pub shows_like : (n : ℕ) (t u : Display) (events drawing : List Event) (a : Attributes) → IsBare t → IsBare u
    → n ≤ registers_of u → AreWhole events → BreaksNone n Uncovered events → raster_before events ≡ Some a
    → IsLike t u a events drawing → Shows t drawing (picture_left n events)
shows_like n t u events drawing a bare other few whole none box like =
    let size = size_left n events a box in
    let width : (picture_left n events).width ≡ a.width = size.0 in
    let height : (picture_left n events).height ≡ a.height = size.1 in
    let left : t.choices.origin_x ≡ 0 = bare.left in
    let top : t.choices.origin_y ≡ 0 = bare.top in
    record {
      inside = λ x y right below.
          let across : x < a.width = omega (arith, right, width) in
          let down : y < a.height = omega (arith, below, height) in
          shows_left n u events a x y whole none (seen u events other) few box across down
          ∙ ap (λ (c : Parts). Some c)
          (at_origins u events x y other ∙ sym (at_origins t drawing x y bare ∙ like.inside x y across down));
      outside = λ x y out painted.
          let parts = and_parts (nat_lt x a.width) (nat_lt y a.height) (like.outside x y painted) in
          let right : x < a.width = ltb-true x a.width parts.0 in
          let below : y < a.height = ltb-true y a.height parts.1 in
          out (record {
            left = omega (arith, left);
            top = omega (arith, top);
            right = omega (arith, right, width, left);
            bottom = omega (arith, below, height, top);
          });
    }
