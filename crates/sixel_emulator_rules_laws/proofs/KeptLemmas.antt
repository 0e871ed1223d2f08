-- What the rules give of one event, if it breaks none.
use Rattle.std.proofs.Common.{◌≡◌, ◌≢◌, ℕ, ◌+◌, ◌-◌, ◌*◌, ◌%◌, ◌<◌, ◌≤◌, true, false, ◌==◌, not, Option, Some}
use Rattle.std.proofs.Common.{None, List, refl, ◌∙◌, arith}
use Rattle.std.specs.Prelude.{nat_le, nat_lt, IfSome, IsFalse}
use Rattle.std.specs.Int.{bit_at}
use Rattle.std.specs.Option.{option_map_or}
use Rattle.std.proofs.Math.Nat.{mod-lt}
use Rattle.std.proofs.lemmas.Bool.{agree_below_at, and_parts, eqb-false, eqb-true, false_from_ne_true}
use Rattle.std.proofs.lemmas.Bool.{leb-false, leb-true, ltb-true, not-false}
use Rattle.sixel_grammar.specs.declared.command.Command.TheVariants.{Raster, Repeat}
use Rattle.sixel_grammar.specs.declared.command.Event.{Event}
use Rattle.sixel_grammar.specs.declared.command.Event.TheVariants.{Step}
use Rattle.sixel_model.specs.declared.rule.Rule.TheVariants.{Uncovered}
use Rattle.sixel_model.specs.Events.{Attributes, bits_of, columns_of, is_painting, named_by}
use Rattle.sixel_model.specs.Geometry.{band, column, falls, touches}
use Rattle.sixel_model.specs.Positions.{any_below, latest}
use Rattle.sixel_model.specs.Rules.{BreaksNone, breaks_box_size, breaks_ratio, breaks_register, breaks_repeat_zero}
use Rattle.sixel_model.specs.Rules.{raster_before}
use Rattle.sixel_model.proofs.CoverLemmas.{covers_under, passes_below}
use Rattle.sixel_model.proofs.KnownLemmas.{latest_each}
use Rattle.sixel_model.proofs.RuleLemmas.{Keeps}
use Rattle.sixel_judge.proofs.ColourLemmas.{IsSound, each_sound}
use Rattle.sixel_judge.proofs.DrawLemmas.{has_columns}
use Rattle.sixel_emulator_rules_laws.proofs.FallLemmas.{set_bit}
use Rattle.sixel_emulator_rules_laws.proofs.PenLemmas.{each_then}
use Rattle.sixel_emulator_rules_laws.proofs.SizeLemmas.{inside}

-- ---- registers

pub below_count : (n : ℕ) (e : Event) → IsFalse (breaks_register n e) → IfSome (named_by e) (λ r. r < n)
unfolding breaks_register
below_count n e h = split (named_by e) h
  where
    split : (o : Option ℕ) → option_map_or (λ r. nat_le n r) o false ≡ false → IfSome o (λ r. r < n)
    split None h = tt
    split (Some r) h = leb-false n r h

-- the register that was named last is one of the first n
pub named_in_range : (n : ℕ) (before : List Event) → BreaksNone n Uncovered before
    → IfSome (latest named_by before) (λ r. r < n)
named_in_range n before none =
    latest_each named_by (λ r. r < n) before
    (each_then (IsSound n) _ before (λ e (s : IsSound n e). below_count n e s.register) (each_sound n before none))

-- ---- raster attributes

pub not_zero : (n : ℕ) → 1 ≤ n → (n == 0) ≡ false
not_zero n some =
    false_from_ne_true (n == 0) (λ h. let none : n ≡ 0 = eqb-true n 0 h in absurd (omega (arith, none, some)))

pub not_above : (m k : ℕ) → k ≤ m → nat_lt m k ≡ false
not_above m k le =
    false_from_ne_true (nat_lt m k) (λ h. let lt : m < k = ltb-true m k h in absurd (omega (arith, lt, le)))

pub record IsGoodBox (pan pad width height : ℕ) : Type 0 where
  pub pan_is : pan ≡ 1
  pub pad_is : pad ≡ 1
  pub wide : 1 ≤ width
  pub high : 1 ≤ height
  pub most_wide : width ≤ 2048
  pub most_high : height ≤ 2048

pub good_box : (n : ℕ) (before : List Event) (pan pad width height : ℕ)
    → Keeps n before (Step (Raster pan pad width height)) → IsGoodBox pan pad width height
unfolding breaks_box_size breaks_ratio
good_box n before pan pad width height k =
    let square = and_parts (pan == 1) (pad == 1) (not-false _ k.ratio) in
    let sides = and_parts _ _ (not-false _ k.box_size) in
    record {
      pan_is = eqb-true pan 1 square.0;
      pad_is = eqb-true pad 1 square.1;
      wide = leb-true 1 width (and_parts _ _ sides.0).0;
      high = leb-true 1 height (and_parts _ _ sides.1).0;
      most_wide = leb-true width 2048 (and_parts _ _ sides.0).1;
      most_high = leb-true height 2048 (and_parts _ _ sides.1).1;
    }

-- ---- data commands

pub count_some : (n count bits : ℕ) (before : List Event) → Keeps n before (Step (Repeat count bits)) → 0 < count
unfolding breaks_repeat_zero
count_some n count bits before k = let some : count ≢ 0 = eqb-false count 0 k.repeat_zero in omega (arith, some)

some_bit : (bits : ℕ) → bits < 64 → any_below 6 (λ k. bit_at bits k == 1) ≡ not (bits == 0)
unfolding any_below
some_bit bits lt = agree_below_at (λ b. any_below 6 (λ k. bit_at b k == 1)) (λ b. not (b == 0)) 64 bits refl lt

-- the columns of a painting command are in the box, and its band begins in it
pub record IsFit (a : Attributes) (before : List Event) (e : Event) : Type 0 where
  pub across : column 0 before + columns_of 0 e ≤ a.width
  pub down : 6 * band before < a.height

pub fit : (n : ℕ) (before : List Event) (e : Event) (a : Attributes) → Keeps n before e
    → raster_before before ≡ Some a → is_painting e ≡ true → IsFit a before e
unfolding falls touches
fit n before e a k box paints =
    let set = passes_below 6 (λ k. bit_at (bits_of e % 64) k == 1)
    (some_bit (bits_of e % 64) (mod-lt (bits_of e) (omega arith)) ∙ paints) in
    let some : 0 < columns_of 0 e = has_columns e k.repeat_zero paints in
    let x = column 0 before + columns_of 0 e - 1 in
    let y = 6 * band before + set.number in
    let fell : falls before e x y ≡ true =
    covers_under (column 0 before) (columns_of 0 e) (band before) (bits_of e) x y
    (record {
      bit = set.number;
      below = set.below;
      set = set_bit (bits_of e) 6 set.number (eqb-true _ _ set.passes);
      row = refl;
      from = omega (arith, some);
      to = omega (arith, some);
    }) in
    let both = and_parts (nat_lt x a.width) (nat_lt y a.height) (inside before e a x y k.outside box fell) in
    let right : x < a.width = ltb-true x a.width both.0 in
    let low : y < a.height = ltb-true y a.height both.1 in
    record { across = omega (arith, right, some); down = omega (arith, low) }
