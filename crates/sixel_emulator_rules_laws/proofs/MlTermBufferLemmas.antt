-- mlterm's buffer is as wide and as high as the box, if no rule is broken.
use Rattle.std.proofs.Common.{◌≡◌, ℕ, ◌+◌, ◌-◌, ◌*◌, ◌%◌, ◌<◌, ◌≤◌, Bool, true, false, ◌&&◌, ◌||◌, Option, Some, None}
use Rattle.std.proofs.Common.{List, [], ◌∷◌, ◌++◌, ◌==◌, not, refl, sym, ap, subst, ◌∙◌, arith, max}
use Rattle.std.specs.Prelude.{is_none, is_some, nat_lt, IsFalse, if◌then◌else◌}
use Rattle.std.specs.Option.{option_or}
use Rattle.std.proofs.lemmas.Bool.{and_from, le-leb, lt-ltb, or_from, or_parts}
use Rattle.std.proofs.lemmas.Bool.{eqb-true, ltb-false, true_from_ne_false}
use Rattle.sixel_grammar.specs.declared.command.Command.TheVariants.{Sixel, Repeat, Raster, Select, Define}
use Rattle.sixel_grammar.specs.declared.command.Command.TheVariants.{CarriageReturn, NextLine}
use Rattle.sixel_grammar.specs.declared.command.Event.{Event}
use Rattle.sixel_grammar.specs.declared.command.Event.TheVariants.{Start, Step, Finish}
use Rattle.sixel_model.specs.Events.{Attributes, bits_of, columns_of, is_data_command, is_finish, is_return, raster_of}
use Rattle.sixel_model.specs.Geometry.{band, column, falls, touches}
use Rattle.sixel_model.specs.Positions.{any_at, any_below, earliest}
use Rattle.sixel_model.specs.Rules.{is_covered, raster_before}
use Rattle.sixel_model.proofs.CoverLemmas.{idle_covered, lies_under}
use Rattle.sixel_model.proofs.RuleLemmas.{Keeps}
use Rattle.sixel_model.proofs.StepLemmas.{band_push, covered_push, raster_push}
use Rattle.sixel_emulator.specs.Words.{after_each, after_first}
use Rattle.sixel_emulator.proofs.WordLemmas.{each_push}
use Rattle.sixel_mlterm.specs.MlTerm.{Buffer, buffer_with, data_sides, is_past_all, mlterm_buffer, no_buffer, resized}
use Rattle.sixel_mlterm.specs.MlTerm.{rows_to, wanted_height, with_data, with_line}
use Rattle.sixel_emulator_rules.specs.Asked.{breaks_far, ends_right, is_deep}
use Rattle.sixel_emulator_rules_laws.proofs.KeptLemmas.{IsGoodBox, good_box, not_above, not_zero}
use Rattle.sixel_emulator_rules_laws.proofs.MlTermMissedLemmas.{IsMissed}
use Rattle.sixel_emulator_rules_laws.proofs.SizeLemmas.{none_other, placed}

-- there is no buffer, and nothing is covered
pub record IsUnbuffered (before : List Event) : Type 0 where
  pub none : mlterm_buffer before ≡ no_buffer
  pub bare : (x y : ℕ) → is_covered before x y ≡ false

-- the buffer has room for the box, and reaches right of what is covered
pub record IsBufferedFor (a : Attributes) (before : List Event) : Type 0 where
  pub sides : IsGoodBox a.pan a.pad a.width a.height
  pub wide : a.width ≤ (mlterm_buffer before).width
  pub high : a.height ≤ (mlterm_buffer before).height
  pub reached : (x y : ℕ) → is_covered before x y ≡ true → x < (mlterm_buffer before).reach

abbrev pub IsBuffered : List Event → Option Attributes → Type 0
IsBuffered before None = IsUnbuffered before
IsBuffered before (Some a) = IsBufferedFor a before

pub buffered_none : IsBuffered [] (raster_before [])
unfolding raster_before earliest is_covered any_at any_below after_each after_first
buffered_none = record { none = refl; bare = λ x y. refl }

buffer_push : (before : List Event) (e : Event)
    → mlterm_buffer (before ++ e ∷ []) ≡ buffer_with (mlterm_buffer before) before e
buffer_push before e = each_push buffer_with no_buffer before e

-- ---- events that leave the buffer as it is

unbuffered_still : (before : List Event) (e : Event)
    → buffer_with (mlterm_buffer before) before e ≡ mlterm_buffer before → bits_of e % 64 ≡ 0 → IsUnbuffered before → IsUnbuffered (before ++ e ∷ [])
unbuffered_still before e same idle u = record {
  none = buffer_push before e ∙ (same ∙ u.none);
  bare = λ x y. idle_covered before e x y idle ∙ u.bare x y;
}

buffered_still : (before : List Event) (e : Event) (a : Attributes)
    → buffer_with (mlterm_buffer before) before e ≡ mlterm_buffer before
    → bits_of e % 64 ≡ 0 → IsBufferedFor a before → IsBufferedFor a (before ++ e ∷ [])
buffered_still before e a same idle r =
    let is : mlterm_buffer (before ++ e ∷ []) ≡ mlterm_buffer before = buffer_push before e ∙ same in
    record {
      sides = r.sides;
      wide = rw is r.wide;
      high = rw is r.high;
      reached = λ x y c. rw is (r.reached x y (sym (idle_covered before e x y idle) ∙ c));
    }

-- ---- the first raster attributes

first_wide : (w h : ℕ) → 1 ≤ w → 1 ≤ h
    → w ≤ (buffer_with no_buffer [] (Step (Raster 1 1 w h))).width
first_wide w h some tall = rw (not_zero w some, not_zero h tall) (omega arith)

first_high : (w h : ℕ) → 1 ≤ w → 1 ≤ h
    → h ≤ (buffer_with no_buffer [] (Step (Raster 1 1 w h))).height
first_high w h some tall = rw (not_zero w some, not_zero h tall) (omega arith)

buffered_first : (before : List Event) (pan pad w h : ℕ) → IsGoodBox pan pad w h → IsUnbuffered before
    → IsBufferedFor (record { pan = pan; pad = pad; width = w; height = h }) (before ++ Step (Raster pan pad w h) ∷ [])
buffered_first before pan pad w h g u =
    let e : Event = Step (Raster pan pad w h) in
    let is : mlterm_buffer (before ++ e ∷ []) ≡ buffer_with no_buffer [] (Step (Raster 1 1 w h)) =
    buffer_push before e ∙ ap (λ (b : Buffer). buffer_with b [] (Step (Raster 1 1 w h))) u.none in
    record {
      sides = g;
      wide = rw is (first_wide w h g.wide g.high);
      high = rw is (first_high w h g.wide g.high);
      reached = λ x y c.
          let blank : is_covered (before ++ e ∷ []) x y ≡ false = idle_covered before e x y refl ∙ u.bare x y in cc;
    }

-- ---- data commands

-- a data command ends in the columns of the box, and its band at most 512 rows below
pub record IsNear (a : Attributes) (before : List Event) (e : Event) : Type 0 where
  pub across : column 0 before + columns_of 0 e ≤ a.width
  pub down : 6 * band before + 6 ≤ a.height + 512

pub near_by : (a : Attributes) (before : List Event) (e : Event) → is_data_command e ≡ true
    → raster_before before ≡ Some a → IsFalse (breaks_far before e) → IsNear a before e
unfolding breaks_far
near_by a before e is_data box far =
    let out : (nat_lt 32767 (column 0 before + columns_of 0 e) || (ends_right a before e || is_deep a before)) ≡ false =
    rw (is_data, box) at far in
    let parts = or_parts (ends_right a before e) (is_deep a before)
    (or_parts (nat_lt 32767 (column 0 before + columns_of 0 e)) _ out).1 in
    record {
      across = ltb-false a.width (column 0 before + columns_of 0 e) parts.0;
      down = ltb-false (a.height + 512) (6 * band before + 6) parts.1;
    }

-- the command isn't past all
pub within : (a : Attributes) (before : List Event) (e : Event) → a.width ≤ 2048 → a.height ≤ 2048
    → IsNear a before e → is_past_all (column 0 before + columns_of 0 e) (rows_to (band before)) ≡ false
within a before e wide high near =
    let across : column 0 before + columns_of 0 e ≤ a.width = near.across in
    let down : 6 * band before + 6 ≤ a.height + 512 = near.down in
    or_from _ _ (not_above 32767 (column 0 before + columns_of 0 e) (omega (arith, across, wide)))
    (not_above 32767 (6 * band before + 6) (omega (arith, down, high)))

-- the buffer keeps its width
pub sides_kept : (b : Buffer) (end rows : ℕ) → end ≤ b.width → data_sides b end rows ≡ (b.width, wanted_height b rows)
sides_kept b end rows le = rw (le-leb end b.width le) refl

data_kept : (b : Buffer) (end rows : ℕ) → end ≤ b.width → is_past_all end rows ≡ false
    → with_data b end rows ≡ record (resized b (b.width, wanted_height b rows)) { reach = max b.reach end }
data_kept b end rows le near = rw (near, sides_kept b end rows le) refl

taller : (height rows : ℕ) (b : Bool) → height ≤ (if b then height else height + 516)
taller height rows true = omega arith
taller height rows false = omega arith

-- a point that a command covers is left of its end
left_of_end : (before : List Event) (e : Event) (x y : ℕ) → falls before e x y ≡ true
    → x < column 0 before + columns_of 0 e
unfolding falls touches
left_of_end before e x y fell =
    (lies_under (column 0 before) (columns_of 0 e) (band before) (bits_of e) x y fell).to

reaches : (before : List Event) (e : Event) (reach x y : ℕ) (b : Bool) → falls before e x y ≡ b
    → (is_covered before x y ≡ true → x < reach) → (b || is_covered before x y) ≡ true
    → x < max reach (column 0 before + columns_of 0 e)
reaches before e reach x y true fell more h =
    let end : x < column 0 before + columns_of 0 e = left_of_end before e x y fell in omega (arith, end)
reaches before e reach x y false fell more h = let lt : x < reach = more h in omega (arith, lt)

buffered_data : (before : List Event) (e : Event) (a : Attributes)
    → buffer_with (mlterm_buffer before) before e
    ≡ with_data (mlterm_buffer before) (column 0 before + columns_of 0 e) (rows_to (band before))
    → IsNear a before e → IsBufferedFor a before → IsBufferedFor a (before ++ e ∷ [])
buffered_data before e a same near r =
    let b : Buffer = mlterm_buffer before in
    let end = column 0 before + columns_of 0 e in
    let across : end ≤ a.width = near.across in
    let wide : a.width ≤ b.width = r.wide in
    let high : a.height ≤ b.height = r.high in
    let more : b.height ≤ wanted_height b (rows_to (band before)) = taller b.height (rows_to (band before)) _ in
    let is : mlterm_buffer (before ++ e ∷ [])
    ≡ record (resized b (b.width, wanted_height b (rows_to (band before)))) { reach = max b.reach end } =
    buffer_push before e ∙ (same
    ∙ data_kept b end (rows_to (band before)) (omega (arith, across, wide))
    (within a before e r.sides.most_wide r.sides.most_high near)) in
    record {
      sides = r.sides;
      wide = rw is wide;
      high = rw is (omega (arith, high, more));
      reached = λ x y c. rw is
          (reaches before e b.reach x y (falls before e x y) refl (r.reached x y)
          (sym (covered_push before e x y) ∙ c));
    }

-- ---- a new line

cut_wide : (a : Attributes) (b : Buffer) (cut : Bool) → a.width ≤ b.width → a.width ≤ b.reach
    → a.width ≤ (if cut then record b { width = b.reach; cut = true } else b).width
cut_wide a b true wide reach = reach
cut_wide a b false wide reach = wide

cut_high : (b : Buffer) (cut : Bool) → (if cut then record b { width = b.reach; cut = true } else b).height ≡ b.height
cut_high b true = refl
cut_high b false = refl

cut_reach : (b : Buffer) (cut : Bool) → (if cut then record b { width = b.reach; cut = true } else b).reach ≡ b.reach
cut_reach b true = refl
cut_reach b false = refl

-- the reach is no less than the box's width
reach_wide : (before : List Event) (a : Attributes) → raster_before before ≡ Some a
    → (IsMissed (before ++ Step NextLine ∷ []) → ⊥) → IsBufferedFor a before → a.width ≤ (mlterm_buffer before).reach
reach_wide before a box kept r =
    let some : 1 ≤ a.width = r.sides.wide in
    let tall : 1 ≤ a.height = r.sides.high in
    let last : is_covered before (a.width - 1) 0 ≡ true =
    true_from_ne_false (is_covered before (a.width - 1) 0) (λ blank.
    kept (record {
      box = a;
      here = raster_push before (Step NextLine) ∙ rw box refl;
      inside = and_from _ _ (lt-ltb (a.width - 1) a.width (omega (arith, some)))
          (lt-ltb 0 a.height (omega (arith, tall)));
      down = rw (band_push before (Step NextLine)) (omega arith);
      blank = idle_covered before (Step NextLine) (a.width - 1) 0 refl ∙ blank;
    })) in
    let lt : a.width - 1 < (mlterm_buffer before).reach = r.reached (a.width - 1) 0 last in
    omega (arith, lt, some)

buffered_line : (before : List Event) (a : Attributes) → raster_before before ≡ Some a
    → (IsMissed (before ++ Step NextLine ∷ []) → ⊥) → IsBufferedFor a before
    → IsBufferedFor a (before ++ Step NextLine ∷ [])
buffered_line before a box kept r =
    let b : Buffer = mlterm_buffer before in
    let is : mlterm_buffer (before ++ Step NextLine ∷ []) ≡ with_line b = buffer_push before (Step NextLine) in
    record {
      sides = r.sides;
      wide = rw is (cut_wide a b _ r.wide (reach_wide before a box kept r));
      high = rw (is, cut_high b (not b.cut && (nat_lt 0 b.reach && nat_lt b.reach b.width))) r.high;
      reached = λ x y c.
          rw (is, cut_reach b (not b.cut && (nat_lt 0 b.reach && nat_lt b.reach b.width)))
          (r.reached x y (sym (idle_covered before (Step NextLine) x y refl) ∙ c));
    }

-- ---- one more event

unbuffered_step : (n : ℕ) (before : List Event) (e : Event) → Keeps n before e
    → (is_data_command e || is_return e || is_finish e) ≡ false → IsUnbuffered before
    → IsBuffered (before ++ e ∷ []) (raster_of e)
unbuffered_step n before (Step (Raster pan pad w h)) k idle u =
    buffered_first before pan pad w h (good_box n before pan pad w h k) u
unbuffered_step n before (Step (Define r s x y z)) k idle u =
    unbuffered_still before (Step (Define r s x y z)) refl refl u
unbuffered_step n before (Step (Select r)) k idle u = unbuffered_still before (Step (Select r)) refl refl u
unbuffered_step n before (Start eight parameters) k idle u =
    unbuffered_still before (Start eight parameters) refl refl u
unbuffered_step n before (Step (Sixel bits)) k idle u = let no : true ≡ false = idle in cc
unbuffered_step n before (Step (Repeat count bits)) k idle u = let no : true ≡ false = idle in cc
unbuffered_step n before (Step CarriageReturn) k idle u = let no : true ≡ false = idle in cc
unbuffered_step n before (Step NextLine) k idle u = let no : true ≡ false = idle in cc
unbuffered_step n before (Finish eight) k idle u = let no : true ≡ false = idle in cc

-- a repeat has as many columns as its count
count_columns : (left count : ℕ) (none : Bool) → (count == 0) ≡ none → left + count ≡ left + (if none then 0 else count)
count_columns left count true is = let zero : count ≡ 0 = eqb-true count 0 is in omega (arith, zero)
count_columns left count false is = refl

buffered_by : (before : List Event) (e : Event) (a : Attributes) → raster_of e ≡ None → raster_before before ≡ Some a
    → IsFalse (breaks_far before e) → (IsMissed (before ++ e ∷ []) → ⊥) → IsBufferedFor a before
    → IsBufferedFor a (before ++ e ∷ [])
buffered_by before (Step (Raster pan pad w h)) a none box far kept r = cc
buffered_by before (Step (Define q s x y z)) a none box far kept r =
    buffered_still before (Step (Define q s x y z)) a refl refl r
buffered_by before (Step (Select q)) a none box far kept r = buffered_still before (Step (Select q)) a refl refl r
buffered_by before (Start eight parameters) a none box far kept r =
    buffered_still before (Start eight parameters) a refl refl r
buffered_by before (Step CarriageReturn) a none box far kept r =
    buffered_still before (Step CarriageReturn) a refl refl r
buffered_by before (Finish eight) a none box far kept r = buffered_still before (Finish eight) a refl refl r
buffered_by before (Step NextLine) a none box far kept r = buffered_line before a box kept r
buffered_by before (Step (Sixel bits)) a none box far kept r =
    buffered_data before (Step (Sixel bits)) a refl (near_by a before (Step (Sixel bits)) refl box far) r
buffered_by before (Step (Repeat count bits)) a none box far kept r =
    buffered_data before (Step (Repeat count bits)) a
    (ap (λ (end : ℕ). with_data (mlterm_buffer before) end (rows_to (band before)))
    (count_columns (column 0 before) count (count == 0) refl))
    (near_by a before (Step (Repeat count bits)) refl box far) r

buffered_step : (n : ℕ) (before : List Event) (e : Event) (o : Option Attributes) → Keeps n before e
    → raster_before before ≡ o
    → (is_none o && (is_data_command e || is_return e || is_finish e)) ≡ false
    → (is_some o && is_some (raster_of e)) ≡ false → IsFalse (breaks_far before e) → (IsMissed (before ++ e ∷ []) → ⊥)
    → IsBuffered before o → IsBuffered (before ++ e ∷ []) (option_or o (raster_of e))
buffered_step n before e (Some a) k box first once far kept r =
    buffered_by before e a (none_other (raster_of e) once) box far kept r
buffered_step n before e None k box first once far kept u = unbuffered_step n before e k first u

pub buffered_push : (n : ℕ) (before : List Event) (e : Event) → Keeps n before e → IsFalse (breaks_far before e)
    → (IsMissed (before ++ e ∷ []) → ⊥) → IsBuffered before (raster_before before)
    → IsBuffered (before ++ e ∷ []) (raster_before (before ++ e ∷ []))
buffered_push n before e k far kept b =
    let p = placed n before e k in
    subst (IsBuffered (before ++ e ∷ [])) (sym (raster_push before e))
    (buffered_step n before e (raster_before before) k refl p.first p.once far kept b)
