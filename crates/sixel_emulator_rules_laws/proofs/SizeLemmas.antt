-- How high foot's picture is, if no rule is broken: nothing that falls in the box is lost.
use Rattle.std.proofs.Common.{◌≡◌, ℕ, ◌+◌, ◌-◌, ◌*◌, ◌<◌, ◌≤◌, Bool, true, false, ◌&&◌, ◌||◌, ◌⊎◌, inl, inr, cond}
use Rattle.std.proofs.Common.{Option, Some, None, List, [], ◌∷◌, ◌++◌, refl, sym, ap, subst, ◌∙◌, arith}
use Rattle.std.specs.Prelude.{is_none, is_some, nat_le, nat_lt, IsSome, if◌then◌else◌}
use Rattle.std.specs.List.{list_any}
use Rattle.std.specs.Option.{option_or}
use Rattle.std.proofs.lemmas.Bool.{and_parts, le-leb, ltb-true, true_from_ne_false}
use Rattle.sixel_grammar.specs.declared.command.Command.TheVariants.{Sixel, Repeat, Raster, Select, Define}
use Rattle.sixel_grammar.specs.declared.command.Command.TheVariants.{CarriageReturn, NextLine}
use Rattle.sixel_grammar.specs.declared.command.Event.{Event}
use Rattle.sixel_grammar.specs.declared.command.Event.TheVariants.{Start, Step, Finish}
use Rattle.sixel_model.specs.Events.{Attributes, is_data_command, is_finish, is_in_box, is_next_line, is_painting}
use Rattle.sixel_model.specs.Events.{bits_of, columns_of, is_return, raster_of}
use Rattle.sixel_model.specs.Geometry.{band, column, falls, touches}
use Rattle.sixel_model.specs.Rules.{BreaksOutside, breaks_raster_first, breaks_raster_twice, raster_before}
use Rattle.sixel_model.proofs.CoverLemmas.{LiesUnder, lies_under}
use Rattle.sixel_model.proofs.RuleLemmas.{Keeps}
use Rattle.sixel_model.proofs.StepLemmas.{band_push, raster_push}
use Rattle.sixel_foot.specs.Foot.{Size, counts_on_foot, foot_grows, foot_rows, foot_size, has_begun_on_foot}
use Rattle.sixel_emulator.specs.Words.{after_each, after_first}
use Rattle.sixel_foot.proofs.FootLemmas.{size_push}
use Rattle.sixel_emulator.proofs.WordLemmas.{any_push}
use Rattle.sixel_judge.proofs.CoverLemmas.{box_at_data}
use Rattle.sixel_judge.proofs.OptionLemmas.{some_value}

-- ---- what is kept

-- no data, and no return
pub record IsUnbegun (before : List Event) : Type 0 where
  pub height : (foot_size before).height ≡ 6
  pub line : band before ≡ 0
  pub unpainted : list_any is_painting before ≡ false

-- the picture is as high as a box of this height, or ends with the band
abbrev pub Reaches : ℕ → ℕ → ℕ → Type 0
Reaches box height line = (box ≤ height) ⊎ (height ≡ 6 * line + 6)

-- with the box of the first raster attributes, if there are any
abbrev pub IsSized : List Event → Option Attributes → Type 0
IsSized before None = IsUnbegun before
IsSized before (Some a) = Reaches a.height (foot_size before).height (band before)

pub sized_none : IsSized [] None
unfolding after_each after_first band
sized_none = record { height = refl; line = refl; unpainted = refl }

-- ---- an event before the box

abbrev height_with : List Event → Event → ℕ
height_with before e = (foot_grows (foot_size before) before e).height

unbegun_still : (before : List Event) (e : Event) → IsUnbegun before → height_with before e ≡ (foot_size before).height
    → is_next_line e ≡ false → is_painting e ≡ false → IsUnbegun (before ++ e ∷ [])
unbegun_still before e u same line unpainted = record {
  height = ap (λ (s : Size). s.height) (size_push before e) ∙ (same ∙ u.height);
  line = band_push before e ∙ rw (u.line, line) refl;
  unpainted = any_push is_painting before e ∙ rw (u.unpainted, unpainted) refl;
}

boxed_height : (s : Size) (w h : ℕ) (b : Bool) → s.height ≡ 6
    → Reaches h (if b then record { width = w; height = h } else s).height 0
boxed_height s w h true is = inl (omega arith)
boxed_height s w h false is = inr is

boxed : (before : List Event) (pan pad w h : ℕ) → IsUnbegun before
    → Reaches h (foot_size (before ++ Step (Raster pan pad w h) ∷ [])).height
    (band (before ++ Step (Raster pan pad w h) ∷ []))
boxed before pan pad w h u =
    let line : band (before ++ Step (Raster pan pad w h) ∷ []) ≡ 0 =
    band_push before (Step (Raster pan pad w h)) ∙ rw u.line refl in
    rw (size_push before (Step (Raster pan pad w h)), line)
    (boxed_height (foot_size before) w h (counts_on_foot (foot_size before) w h) u.height)

-- ---- an event after it

reaches_still : (box height line : ℕ) → Reaches box height line → Reaches box height (line + 0)
reaches_still box height line (inl le) = inl le
reaches_still box height line (inr is) = inr (omega (arith, is))

reaches_line : (s : Size) (box line : ℕ) (b : Bool) → nat_le s.height (6 * line + 6) ≡ b → Reaches box s.height line
    → Reaches box (if b then record s { height = 6 * line + 12 } else s).height (line + 1)
reaches_line s box line true test r = inr (omega arith)
reaches_line s box line false test (inl le) = inl le
reaches_line s box line false test (inr is) =
    let le : nat_le s.height (6 * line + 6) ≡ true = le-leb s.height (6 * line + 6) (omega (arith, is)) in cc

reaches_with : (s : Size) (before : List Event) (e : Event) (box : ℕ) → raster_of e ≡ None
    → Reaches box s.height (band before)
    → Reaches box (foot_grows s before e).height (band before + cond (is_next_line e) 1 0)
reaches_with s before (Step (Raster pan pad w h)) box none r = cc
reaches_with s before (Step NextLine) box none r = reaches_line s box (band before) _ refl r
reaches_with s before _ box none r = reaches_still box s.height (band before) r

-- ---- one more event

-- the event keeps the rules on where raster attributes stand
pub record IsPlaced (o : Option Attributes) (e : Event) : Type 0 where
  pub first : (is_none o && (is_data_command e || is_return e || is_finish e)) ≡ false
  pub once : (is_some o && is_some (raster_of e)) ≡ false

pub none_other : (o : Option Attributes) → is_some o ≡ false → o ≡ None
none_other None h = refl
none_other (Some a) h = cc

sized_step : (before : List Event) (e : Event) (o : Option Attributes) → IsPlaced o e → IsSized before o
    → IsSized (before ++ e ∷ []) (option_or o (raster_of e))
sized_step before e (Some a) p s =
    rw (size_push before e, band_push before e)
    (reaches_with (foot_size before) before e a.height (none_other (raster_of e) p.once) s)
sized_step before (Step (Raster pan pad w h)) None p u = boxed before pan pad w h u
sized_step before (Step (Select register)) None p u = unbegun_still before (Step (Select register)) u refl refl refl
sized_step before (Step (Define r s x y z)) None p u = unbegun_still before (Step (Define r s x y z)) u refl refl refl
sized_step before (Start eight parameters) None p u = unbegun_still before (Start eight parameters) u refl refl refl
sized_step before (Step (Sixel bits)) None p u = let no : true ≡ false = p.first in cc
sized_step before (Step (Repeat count bits)) None p u = let no : true ≡ false = p.first in cc
sized_step before (Step CarriageReturn) None p u = let no : true ≡ false = p.first in cc
sized_step before (Step NextLine) None p u = let no : true ≡ false = p.first in cc
sized_step before (Finish eight) None p u = let no : true ≡ false = p.first in cc

pub placed : (n : ℕ) (before : List Event) (e : Event) → Keeps n before e → IsPlaced (raster_before before) e
unfolding breaks_raster_first breaks_raster_twice
placed n before e k = record { first = k.raster_first; once = k.raster_twice }

pub sized_push : (n : ℕ) (before : List Event) (e : Event) → Keeps n before e → IsSized before (raster_before before)
    → IsSized (before ++ e ∷ []) (raster_before (before ++ e ∷ []))
sized_push n before e k s =
    subst (IsSized (before ++ e ∷ [])) (sym (raster_push before e))
    (sized_step before e (raster_before before) (placed n before e k) s)

-- ---- rows

row_reached : (box height line k y : ℕ) → Reaches box height line → y < box → y ≡ 6 * line + k → k < 6
    → y < 6 * line + (height - 6 * line)
row_reached box height line k y (inl le) lt row small = omega (arith, le, lt, row, small)
row_reached box height line k y (inr is) lt row small = omega (arith, is, lt, row, small)

pub inside : (before : List Event) (e : Event) (a : Attributes) (x y : ℕ) → ¬ BreaksOutside before e
    → raster_before before ≡ Some a → falls before e x y ≡ true → is_in_box a x y ≡ true
unfolding BreaksOutside
inside before e a x y k box fell =
    true_from_ne_false (is_in_box a x y) (λ out. k (rw box (x, y, record { painted = fell; outside = out })))

-- a point at which a data command falls is in the rows that are left
pub row_left : (n : ℕ) (before : List Event) (e : Event) (x y : ℕ) → Keeps n before e
    → IsSized before (raster_before before) → is_data_command e ≡ true → falls before e x y ≡ true
    → y < 6 * band before + foot_rows before
unfolding falls touches
row_left n before e x y k s is_data fell =
    let a : (a : Attributes) × (raster_before before ≡ Some a) = some_value _ (box_at_data n before e k is_data) in
    let reached : Reaches (a.0).height (foot_size before).height (band before) = subst (IsSized before) (a.1) s in
    let low : y < (a.0).height = ltb-true y (a.0).height
    (and_parts (nat_lt x (a.0).width) (nat_lt y (a.0).height) (inside before e (a.0) x y k.outside (a.1) fell)).1 in
    let u : LiesUnder (column 0 before) (columns_of 0 e) (band before) (bits_of e) x y =
    lies_under (column 0 before) (columns_of 0 e) (band before) (bits_of e) x y fell in
    row_reached (a.0).height (foot_size before).height (band before) u.bit y reached low u.row u.below

-- ---- raster attributes

not_begun : (before : List Event) → IsUnbegun before → has_begun_on_foot before ≡ false
not_begun before u = rw (u.unpainted, u.line) refl

pub no_box : (o p : Option Attributes) → (is_some o && is_some p) ≡ false → IsSome p → o ≡ None
no_box None p h s = refl
no_box (Some a) None h s = cc
no_box (Some a) (Some b) h s = cc

-- at raster attributes foot's picture hasn't begun
pub raster_first : (n : ℕ) (before : List Event) (e : Event) → Keeps n before e
    → IsSized before (raster_before before) → IsSome (raster_of e) → has_begun_on_foot before ≡ false
raster_first n before e k s some =
    let none : raster_before before ≡ None =
    no_box (raster_before before) (raster_of e) (placed n before e k).once some in
    let u : IsUnbegun before = subst (IsSized before) none s in
    not_begun before u
