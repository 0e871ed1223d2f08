-- The notes after one more event.
use Rattle.std.proofs.Common.{◌≡◌, ◌≢◌, ◌<◌, ◌≤◌, ◌+◌, ◌==◌, ◌&&◌, ◌||◌, ℕ, zero, suc, Bool, true, false, cond, not}
use Rattle.std.proofs.Common.{Option, Some, None, List, [], ◌∷◌, ◌++◌, length, get_or, set, replicate, refl, sym, ap}
use Rattle.std.proofs.Common.{ap₂, ◌∙◌, arith}
use Rattle.std.specs.Prelude.{is_none, is_some, nat_lt, if◌then◌else◌}
use Rattle.std.specs.Option.{option_or}
use Rattle.std.proofs.Math.Bool.{or_comm}
use Rattle.std.proofs.lemmas.Bool.{eqb-false, eqb-true, ltb-false, ltb-true, ne_eqb}
use Rattle.std.proofs.lemmas.List.{get_or-replicate, get_or-set_other, get_or-set_same, length-set}
use Rattle.sixel_grammar.specs.declared.command.Command.TheVariants.{Define}
use Rattle.sixel_grammar.specs.declared.command.Event.{Event}
use Rattle.sixel_grammar.specs.declared.command.Event.TheVariants.{Step}
use Rattle.sixel_model.specs.Events.{Attributes, columns_of, definition_where, is_next_line, is_painting}
use Rattle.sixel_model.specs.Events.{is_return, named_by, raster_of, select_of}
use Rattle.sixel_model.specs.Geometry.{band, column}
use Rattle.sixel_model.specs.Positions.{any_at, any_below, earliest, latest, since}
use Rattle.sixel_model.specs.Rules.{definition_of, is_painted_in, is_that, known, raster_before}
use Rattle.sixel_model.proofs.PositionLemmas.{any_at_push, latest_push}
use Rattle.sixel_model.proofs.StepLemmas.{band_push, column_push, definition_push, painted_in_push, raster_push}
use Rattle.sixel_judge.specs.Verdicts.{capped}
use Rattle.sixel_judge.specs.declared.notes.Definition.{Definition as Stored}
use Rattle.sixel_judge.specs.declared.notes.Notes.{Notes}
use Rattle.sixel_judge.specs.Counting.{paints_early}
use Rattle.sixel_judge.specs.Notes.{IsNotesAfter, is_declared_with, is_early_with, known_in, marked, next_band}
use Rattle.sixel_judge.specs.Notes.{next_column, next_definitions, next_named, next_painted, next_selected, said_of}
use Rattle.sixel_judge.proofs.OptionLemmas.{none_is}

-- a column that is capped at each step is the capped column
pub stopped : (b : Bool) (c w : ℕ) → cond b 0 (capped (capped c + w)) ≡ capped (cond b 0 (c + w))
stopped true c w = omega arith
stopped false c w = omega arith

stopped_band : (b : Bool) (n : ℕ) → cond b (capped (capped n + 1)) (capped n) ≡ capped (n + cond b 1 0)
stopped_band true n = omega arith
stopped_band false n = omega arith

-- ---- before any event

none_said : (n r : ℕ) → said_of (replicate n None) r ≡ None
none_said zero r = refl
none_said (suc n) zero = refl
none_said (suc n) (suc r) = none_said n r

pub notes_start : IsNotesAfter (record {
  column = 0;
  band = 0;
  selected = None;
  named = None;
  painted = replicate 256 false;
  definitions = replicate 256 None;
  declared = false;
  early = false;
}) []
unfolding column band since latest definition_of is_painted_in any_at any_below raster_before earliest paints_early
notes_start = record {
  column_is = refl;
  band_is = refl;
  selected_is = refl;
  named_is = refl;
  marks = refl;
  painted_is = λ r lt. get_or-replicate 256 r false false lt;
  entries = refl;
  definitions_are = λ r lt. none_said 256 r;
  declared_is = refl;
  early_is = refl;
}

-- ---- the known register

pub known_is : {n : Notes} {before : List Event} → IsNotesAfter n before → known_in n ≡ known before
unfolding known
known_is s = rw (s.selected_is, s.named_is) refl

-- ---- the registers that a command painted in

set_is : (b : Bool) (q r : ℕ) (xs : List Bool) → (q == r) ≡ b → q < length xs
    → get_or (set xs q true) r false ≡ (b || get_or xs r false)
set_is true q r xs e lt =
    let same : q ≡ r = eqb-true q r e in
    ap (λ (i : ℕ). get_or (set xs q true) i false) (sym same) ∙ get_or-set_same xs q true false lt
set_is false q r xs e lt = get_or-set_other xs q r true false (λ d. eqb-false q r e (sym d))

length_if : {A : Type 0} (c : Bool) (xs : List A) (k : ℕ) (x : A) → length (if c then set xs k x else xs) ≡ length xs
length_if true xs k x = length-set xs k x
length_if false xs k x = refl

length_marked : (b : Bool) (o : Option ℕ) (xs : List Bool) → length (if b then marked xs o else xs) ≡ length xs
length_marked true (Some q) xs = length_if (nat_lt q 256) xs q true
length_marked true None xs = refl
length_marked false o xs = refl

mark_is : (q r : ℕ) (xs : List Bool) (c : Bool) → nat_lt q 256 ≡ c → length xs ≡ 256 → r < 256
    → get_or (if c then set xs q true else xs) r false ≡ ((q == r) || get_or xs r false)
mark_is q r xs true e long lt =
    let low : q < 256 = ltb-true q 256 e in set_is (q == r) q r xs refl (omega (arith, low, long))
mark_is q r xs false e long lt =
    let high : 256 ≤ q = ltb-false q 256 e in
    let other : (q == r) ≡ false = ne_eqb q r (omega (arith, high, lt)) in
    rw other refl

marked_is : (b : Bool) (o : Option ℕ) (r : ℕ) (xs : List Bool) → length xs ≡ 256 → r < 256
    → get_or (if b then marked xs o else xs) r false ≡ ((b && is_that r o) || get_or xs r false)
marked_is true (Some q) r xs long lt = mark_is q r xs (nat_lt q 256) refl long lt
marked_is true None r xs long lt = refl
marked_is false o r xs long lt = refl

-- ---- the definitions

length_defined : (ds : List (Option Stored)) (e : Event) → length (next_definitions ds e) ≡ length ds
length_defined ds (Step (Define register system x y z)) = length_if (nat_lt register 256) ds register _
length_defined ds _ = refl

said_same : (ds : List (Option Stored)) (q : ℕ) (d : Stored) → q < length ds
    → said_of (set ds q (Some d)) q ≡ Some (record { system = d.system; x = d.x; y = d.y; z = d.z })
said_same [] q d lt = absurd (omega arith)
said_same (c ∷ cs) zero d lt = refl
said_same (c ∷ cs) (suc q) d lt = said_same cs q d (omega arith)

said_other : (ds : List (Option Stored)) (q r : ℕ) (d : Option Stored) → q ≢ r → said_of (set ds q d) r ≡ said_of ds r
said_other [] q r d n = refl
said_other (c ∷ cs) zero zero d n = absurd (n refl)
said_other (c ∷ cs) zero (suc r) d n = refl
said_other (c ∷ cs) (suc q) zero d n = refl
said_other (c ∷ cs) (suc q) (suc r) d n = said_other cs q r d (λ e. n (ap suc e))

said_set : (ds : List (Option Stored)) (q r : ℕ) (d : Stored) (b : Bool) → (q == r) ≡ b → q < length ds
    → said_of (set ds q (Some d)) r
    ≡ option_or (if b then Some (record { system = d.system; x = d.x; y = d.y; z = d.z }) else None) (said_of ds r)
said_set ds q r d true e lt =
    let same : q ≡ r = eqb-true q r e in
    ap (λ (k : ℕ). said_of (set ds q (Some d)) k) (sym same) ∙ said_same ds q d lt
said_set ds q r d false e lt = said_other ds q r (Some d) (eqb-false q r e)

defined_low : (ds : List (Option Stored)) (q r : ℕ) (d : Stored) (c : Bool) → nat_lt q 256 ≡ c → length ds ≡ 256
    → r < 256
    → said_of (if c then set ds q (Some d) else ds) r
    ≡ option_or (if q == r then Some (record { system = d.system; x = d.x; y = d.y; z = d.z }) else None)
    (said_of ds r)
defined_low ds q r d true e long lt =
    let low : q < 256 = ltb-true q 256 e in said_set ds q r d (q == r) refl (omega (arith, low, long))
defined_low ds q r d false e long lt =
    let high : 256 ≤ q = ltb-false q 256 e in
    let other : (q == r) ≡ false = ne_eqb q r (omega (arith, high, lt)) in
    rw other refl

defined_is : (ds : List (Option Stored)) (e : Event) (r : ℕ) → length ds ≡ 256 → r < 256
    → said_of (next_definitions ds e) r ≡ option_or (definition_where (λ q. q == r) e) (said_of ds r)
defined_is ds (Step (Define register system x y z)) r long lt =
    defined_low ds register r (record { system = system; x = x; y = y; z = z }) (nat_lt register 256) refl long lt
defined_is ds _ r long lt = refl

-- ---- the box

some_or : (o p : Option Attributes) → is_some (option_or o p) ≡ (is_some o || is_some p)
some_or None p = refl
some_or (Some a) p = refl

pub early_push : (before : List Event) (e : Event)
    → paints_early (before ++ e ∷ []) ≡ ((is_painting e && is_none (raster_before before)) || paints_early before)
unfolding paints_early
early_push before e = any_at_push (λ earlier d. is_painting d && is_none (raster_before earlier)) before e

early_is : {n : Notes} {before : List Event} (e : Event) → IsNotesAfter n before
    → is_early_with n e ≡ paints_early (before ++ e ∷ [])
early_is {n} {before} e s =
    or_comm n.early (is_painting e && not n.declared) ∙ ap₂ (λ (a b : Bool). (is_painting e && a) || b)
    (ap not s.declared_is ∙ sym (none_is (raster_before before))) s.early_is ∙ sym (early_push before e)

-- ---- all notes

pub notes_push : (n : Notes) (before : List Event) (e : Event) → IsNotesAfter n before
    → IsNotesAfter (record {
      column = next_column n e;
      band = next_band n e;
      selected = next_selected n e;
      named = next_named n e;
      painted = next_painted n e;
      definitions = next_definitions n.definitions e;
      declared = is_declared_with n e;
      early = is_early_with n e;
    }) (before ++ e ∷ [])
notes_push n before e s = record {
  column_is =
      ap (λ m. cond (is_return e) 0 (capped (m + columns_of 0 e))) s.column_is
      ∙ stopped (is_return e) (column 0 before) (columns_of 0 e) ∙ ap capped (sym (column_push 0 before e));
  band_is =
      ap (λ m. cond (is_next_line e) (capped (m + 1)) m) s.band_is ∙ stopped_band (is_next_line e) (band before)
      ∙ ap capped (sym (band_push before e));
  selected_is = ap (option_or (select_of e)) s.selected_is ∙ sym (latest_push select_of before e);
  named_is = ap (option_or (named_by e)) s.named_is ∙ sym (latest_push named_by before e);
  marks = length_marked (is_painting e) (known_in n) n.painted ∙ s.marks;
  painted_is = λ r lt. marked_is (is_painting e) (known_in n) r n.painted s.marks lt
      ∙ ap (λ (o : Option ℕ). (is_painting e && is_that r o) || get_or n.painted r false) (known_is s)
      ∙ ap (λ (b : Bool). (is_painting e && is_that r (known before)) || b) (s.painted_is r lt)
      ∙ sym (painted_in_push before e r);
  entries = length_defined n.definitions e ∙ s.entries;
  definitions_are = λ r lt. defined_is n.definitions e r s.entries lt
      ∙ ap (option_or (definition_where (λ q. q == r) e)) (s.definitions_are r lt) ∙ sym (definition_push before e r);
  declared_is =
      ap (λ (b : Bool). b || is_some (raster_of e)) s.declared_is ∙ sym (some_or (raster_before before) (raster_of e))
      ∙ ap is_some (sym (raster_push before e));
  early_is = early_is e s;
}
