-- The colours of registers, and the one at the last select, after one more event.
use Rattle.std.proofs.Common.{◌≡◌, ◌<◌, ◌≤◌, ℕ, Bool, true, false, Option, Some, None, List, [], ◌∷◌, ◌++◌}
use Rattle.std.proofs.Common.{length, get_or, set, refl, sym, ap, ◌∙◌, arith}
use Rattle.std.specs.Prelude.{◌==◌, nat_lt, if◌then◌else◌}
use Rattle.std.specs.Option.{option_and_then, option_flatten, option_map, option_or}
use Rattle.std.proofs.lemmas.Bool.{eqb-false, eqb-true, le-ltb, lt-ltb, ltb-false, ltb-true, ne_eqb}
use Rattle.std.proofs.lemmas.List.{get_or-set_other, get_or-set_same, length-set}
use Rattle.sixel_grammar.specs.declared.command.Command.TheVariants.{Define}
use Rattle.sixel_grammar.specs.declared.command.Event.{Event}
use Rattle.sixel_grammar.specs.declared.command.Event.TheVariants.{Step}
use Rattle.sixel_model.specs.Colours.{colour_in}
use Rattle.sixel_model.specs.declared.colour.Parts.{Parts}
use Rattle.sixel_model.specs.Events.{Definition, definition_where, select_of}
use Rattle.sixel_model.specs.Positions.{last_at}
use Rattle.sixel_model.specs.Rules.{colour_by, colour_of, definition_of}
use Rattle.sixel_model.proofs.PositionLemmas.{last_at_push}
use Rattle.sixel_model.proofs.StepLemmas.{definition_push}
use Rattle.sixel_emulator_rules.specs.Notes.{next_shades, parts_of, shade_at, shade_in}
use Rattle.sixel_emulator_rules.specs.Stale.{colour_at_select}
use Rattle.sixel_emulator_rules.specs.declared.shade.Shade.{Shade}

-- ---- at the last select

abbrev at_select : ℕ → List Event → Event → Option (Option Parts)
at_select r earlier e = option_map (λ (q : ℕ). colour_of earlier r) (select_of e)

at_select_push : (before : List Event) (e : Event) (r : ℕ)
    → colour_at_select (before ++ e ∷ []) r
    ≡ option_flatten (option_or (at_select r before e) (last_at (at_select r) before))
unfolding colour_at_select
at_select_push before e r = ap option_flatten (last_at_push (at_select r) before e)

pub at_select_anew : (before : List Event) (e : Event) (r q : ℕ) → select_of e ≡ Some q
    → colour_at_select (before ++ e ∷ []) r ≡ colour_of before r
at_select_anew before e r q is = at_select_push before e r ∙ rw is refl

pub at_select_still : (before : List Event) (e : Event) (r : ℕ) → select_of e ≡ None
    → colour_at_select (before ++ e ∷ []) r ≡ colour_at_select before r
unfolding colour_at_select
at_select_still before e r is = at_select_push before e r ∙ rw is refl

-- ---- by the last definition

defined : (b : Bool) (before : List Event) (r s x y z : ℕ)
    → option_and_then colour_by
    (option_or (if b then Some (record { system = s; x = x; y = y; z = z }) else None) (definition_of before r))
    ≡ (if b then colour_in s x y z else colour_of before r)
unfolding colour_of
defined true before r s x y z = refl
defined false before r s x y z = refl

colour_defined : (before : List Event) (q r s x y z : ℕ)
    → colour_of (before ++ Step (Define q s x y z) ∷ []) r ≡ (if q == r then colour_in s x y z else colour_of before r)
unfolding colour_of
colour_defined before q r s x y z =
    ap (option_and_then colour_by) (definition_push before (Step (Define q s x y z)) r)
    ∙ defined (q == r) before r s x y z

-- an event that defines no register leaves the colours
pub colour_still : (before : List Event) (e : Event) (r : ℕ) → definition_where (λ q. q == r) e ≡ None
    → colour_of (before ++ e ∷ []) r ≡ colour_of before r
unfolding colour_of
colour_still before e r is =
    ap (option_and_then colour_by)
    (definition_push before e r
    ∙ ap (λ (o : Option Definition). option_or o (definition_of before r)) is)

-- ---- what is stored

parts_shade : (s x y z : ℕ) → option_map parts_of (shade_in s x y z) ≡ colour_in s x y z
parts_shade s x y z = by (s == 1) (s == 2)
  where
    by : (a b : Bool)
        → option_map parts_of (if a then Some (Shade.Hls x y z) else if b then Some (Shade.Rgb x y z) else None)
        ≡ (if a then Some (Parts.Hls x y z) else if b then Some (Parts.Rgb x y z) else None)
    by true b = refl
    by false true = refl
    by false false = refl

pub at_low : (shades : List (Option Shade)) (r : ℕ) → r < 256 → shade_at shades r ≡ get_or shades r None
at_low shades r lt = rw (lt-ltb r 256 lt) refl

pub at_high : (shades : List (Option Shade)) (r : ℕ) → 256 ≤ r → shade_at shades r ≡ None
at_high shades r high = rw (le-ltb r 256 high) refl

set_low : (b : Bool) (shades : List (Option Shade)) (q r : ℕ) (o : Option Shade) → (q == r) ≡ b → q < length shades
    → get_or (set shades q o) r None ≡ (if b then o else get_or shades r None)
set_low true shades q r o e lt =
    let same : q ≡ r = eqb-true q r e in
    ap (λ (i : ℕ). get_or (set shades q o) i None) (sym same) ∙ get_or-set_same shades q o None lt
set_low false shades q r o e lt = get_or-set_other shades q r o None (λ d. eqb-false q r e (sym d))

set_any : (c : Bool) (shades : List (Option Shade)) (q r : ℕ) (o : Option Shade) → nat_lt q 256 ≡ c
    → length shades ≡ 256 → r < 256
    → get_or (if c then set shades q o else shades) r None ≡ (if q == r then o else get_or shades r None)
set_any true shades q r o e long lt =
    let low : q < 256 = ltb-true q 256 e in set_low (q == r) shades q r o refl (omega (arith, low, long))
set_any false shades q r o e long lt =
    let high : 256 ≤ q = ltb-false q 256 e in
    let other : (q == r) ≡ false = ne_eqb q r (omega (arith, high, lt)) in
    rw other refl

pub length_shades : (shades : List (Option Shade)) (e : Event) → length (next_shades shades e) ≡ length shades
length_shades shades (Step (Define q s x y z)) = kept (nat_lt q 256)
  where
    kept : (c : Bool) → length (if c then set shades q (shade_in s x y z) else shades) ≡ length shades
    kept true = length-set shades q (shade_in s x y z)
    kept false = refl
length_shades shades _ = refl

map_if : (b : Bool) (o p : Option Shade)
    → option_map parts_of (if b then o else p) ≡ (if b then option_map parts_of o else option_map parts_of p)
map_if true o p = refl
map_if false o p = refl

pub shades_push : (shades : List (Option Shade)) (before : List Event) (e : Event) (r : ℕ) → length shades ≡ 256
    → r < 256 → option_map parts_of (shade_at shades r) ≡ colour_of before r
    → option_map parts_of (shade_at (next_shades shades e) r) ≡ colour_of (before ++ e ∷ []) r
shades_push shades before (Step (Define q s x y z)) r long lt is =
    ap (option_map parts_of) (at_low (next_shades shades (Step (Define q s x y z))) r lt
    ∙ set_any (nat_lt q 256) shades q r (shade_in s x y z) refl long lt)
    ∙ map_if (q == r) (shade_in s x y z) (get_or shades r None)
    ∙ ap (λ (o : Option Parts). if q == r then o else option_map parts_of (get_or shades r None)) (parts_shade s x y z)
    ∙ ap (λ (o : Option Parts). if q == r then colour_in s x y z else o)
    (ap (option_map parts_of) (sym (at_low shades r lt)) ∙ is)
    ∙ sym (colour_defined before q r s x y z)
shades_push shades before e r long lt is = is ∙ sym (colour_still before e r refl)
