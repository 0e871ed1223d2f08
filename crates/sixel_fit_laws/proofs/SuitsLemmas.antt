-- The canonical list of a fitted picture breaks no rule that the terminals ask for.
use Rattle.std.proofs.Common.{◌≡◌, ◌≢◌, ◌∙◌, ◌%◌, ◌<◌, ◌≤◌, ℕ, Bool, true, false, List, Option, Some, None, ap, arith}
use Rattle.std.proofs.Common.{get_or, inl, inr, length, not, refl, subst, sym}
use Rattle.std.specs.Prelude.{◌&&◌, ◌||◌, nat_lt, slice_set}
use Rattle.std.specs.List.{list_any}
use Rattle.std.proofs.lemmas.Bool.{and_from, and_parts, cases_eq, cases_lt, lt-ltb, ltb-false, or_cases}
use Rattle.std.proofs.lemmas.Bool.{or_left, or_parts, or_right}
use Rattle.std.proofs.lemmas.List.{get_or_past}
use Rattle.std.proofs.lemmas.List.Folds.{list_any_at}
use Rattle.sixel_model.specs.declared.colour.Parts.{Parts}
use Rattle.sixel_model.specs.declared.colour.Parts.TheVariants.{Hls}
use Rattle.sixel_model.specs.Colours.{palette_at}
use Rattle.sixel_model.specs.Geometry.{band_rows}
use Rattle.sixel_model.specs.Pictures.{IsPicture, PictureValue}
use Rattle.sixel_named_terminals.specs.declared.named.Named.TheVariants.{XTerm, MlTerm, Foot, Konsole}
use Rattle.sixel_encode.specs.Canon.{canon}
use Rattle.sixel_emulator_rules.specs.Asked.{BreaksNoneAsked, asks, has_rule, is_asked, no_rules, one_asks}
use Rattle.sixel_emulator_rules.specs.declared.asked_rules.AskedRules.{AskedRules}
use Rattle.sixel_emulator_rules.specs.declared.rule.AskedRule.TheVariants as rule
use Rattle.sixel_emulator_rules.specs.declared.terminals.Terminals.{Terminals}
use Rattle.sixel_emulator_rules_laws.specs.Laws.{BreaksNoneOf, HasNoHue}
use Rattle.sixel_emulator_rules_laws.proofs.CanonAskedLemmas.{canon_suits_foot, canon_suits_konsole, canon_suits_mlterm}
use Rattle.sixel_emulator_rules_laws.proofs.CanonAskedLemmas.{canon_suits_xterm}
use Rattle.sixel_fit.specs.Fits.{Fits, IsHeightFor, IsHeightIf, IsNextMultiple, has_hue_for, is_large}
use Rattle.sixel_fit.specs.Rows.{HasRowsBelow, is_hue}
use Rattle.sixel_fit.proofs.RowsLemmas.{entry_at}
use Rattle.sixel_fit_laws.proofs.FittedLemmas.{HasNoReason, colour_here, colour_other, fits_above, register_free}

-- ---- konsole

asks_rows : (t : Terminals) → t.ignored ≡ no_rules → t.konsole ≡ true → is_asked t rule.Rows ≡ true
asks_rows t all is =
    and_from (one_asks t rule.Rows) (not (has_rule t.ignored rule.Rows))
    (or_right ((t.xterm && false) || (t.mlterm && false)) ((t.foot && false) || (t.konsole && true))
    (or_right (t.foot && false) (t.konsole && true) (and_from t.konsole true is refl)))
    (ap (λ (s : AskedRules). not (has_rule s rule.Rows)) all)

whole_height : (t : Terminals) (height after : ℕ) → t.ignored ≡ no_rules → t.konsole ≡ true → IsHeightFor t height after
    → after % band_rows ≡ 0
whole_height t height after all is fits =
    let next : IsNextMultiple height after =
    subst (λ (b : Bool). IsHeightIf b height after) (asks_rows t all is) fits in
    next.whole

-- ---- xterm

asks_large : (t : Terminals) → t.ignored ≡ no_rules → t.xterm ≡ true → is_asked t rule.Large ≡ true
asks_large t all is =
    and_from (one_asks t rule.Large) (not (has_rule t.ignored rule.Large))
    (or_left ((t.xterm && true) || (t.mlterm && false)) ((t.foot && false) || (t.konsole && false))
    (or_left (t.xterm && true) (t.mlterm && false) (and_from t.xterm true is refl)))
    (ap (λ (s : AskedRules). not (has_rule s rule.Large)) all)

asks_hue : (t : Terminals) → t.ignored ≡ no_rules → t.xterm ≡ true → is_asked t rule.Hue ≡ true
asks_hue t all is =
    and_from (one_asks t rule.Hue) (not (has_rule t.ignored rule.Hue))
    (or_left ((t.xterm && true) || (t.mlterm && false)) ((t.foot && false) || (t.konsole && false))
    (or_left (t.xterm && true) (t.mlterm && false) (and_from t.xterm true is refl)))
    (ap (λ (s : AskedRules). not (has_rule s rule.Hue)) all)

-- a test that fails with one that passes
other_fails : (a b : Bool) → a ≡ true → (a && b) ≡ false → b ≡ false
other_fails true b is fails = fails
other_fails false b is fails = cc

small_sides : (t : Terminals) (width height : ℕ) → t.ignored ≡ no_rules → t.xterm ≡ true → is_large t width height ≡ false
    → (width ≤ 1000) × (height ≤ 996)
small_sides t width height all is small =
    let sides = or_parts (nat_lt 1000 width) (nat_lt 996 height)
    (other_fails (is_asked t rule.Large) (nat_lt 1000 width || nat_lt 996 height) (asks_large t all is) small) in
    (ltb-false 1000 width sides.0, ltb-false 996 height sides.1)

small_if : (b : Bool) (height after : ℕ) → height ≤ 996 → IsHeightIf b height after → after ≤ 996
small_if true height after small is = omega (arith, small, is.near, is.whole)
small_if false height after small is = omega (arith, small, is)

-- a palette without such a colour
no_hue_in : (palette : List (Option Parts)) (r hue lightness saturation : ℕ) → list_any is_hue palette ≡ false
    → palette_at palette r ≢ Some (Hls hue lightness saturation)
no_hue_in palette r hue lightness saturation none is =
    let entry : get_or palette r None ≡ Some (Hls hue lightness saturation) = sym (entry_at palette r) ∙ is in
    elim (cases_lt r (length palette)) [
      | inl lt ↦
          let some : list_any is_hue palette ≡ true =
          list_any_at is_hue palette r None lt (ap is_hue entry) in
          cc (some, none)
      | inr past ↦
          let empty : get_or palette r None ≡ None = get_or_past palette r None past in cc (entry, empty)
    ]

-- nor has it one with a further colour
no_hue_set : (palette : List (Option Parts)) (pad : Parts) (r : ℕ) → r < length palette
    → list_any is_hue palette ≡ false → is_hue (Some pad) ≡ false → (s hue lightness saturation : ℕ)
    → palette_at (slice_set palette r (Some pad)) s ≢ Some (Hls hue lightness saturation)
no_hue_set palette pad r lt none plain s hue lightness saturation is = elim (cases_eq s r) [
  | inl same ↦
      let has : Some pad ≡ Some (Hls hue lightness saturation) =
      sym (ap (palette_at (slice_set palette r (Some pad))) same ∙ colour_here palette r pad lt) ∙ is in
      let hues : is_hue (Some pad) ≡ true = ap is_hue has in cc (hues, plain)
  | inr other ↦ no_hue_in palette s hue lightness saturation none (sym (colour_other palette r s pad other) ∙ is)
]

-- the fitted picture has none
fitted_no_hue : (t : Terminals) (pad : Parts) (p q : PictureValue) → t.ignored ≡ no_rules → t.xterm ≡ true → Fits t pad p q
    → has_hue_for t pad p.palette (nat_lt p.height q.height) ≡ false → HasNoHue q
fitted_no_hue t pad p q all is f none =
    let tests = or_parts (list_any is_hue p.palette) (nat_lt p.height q.height && is_hue (Some pad))
    (other_fails (is_asked t rule.Hue) (list_any is_hue p.palette || (nat_lt p.height q.height && is_hue (Some pad)))
    (asks_hue t all is) none) in
    elim (cases_lt p.height q.height) [
      | inl less ↦
          let rows : HasRowsBelow pad p q = f.rows less in
          let plain : is_hue (Some pad) ≡ false =
          other_fails (nat_lt p.height q.height) (is_hue (Some pad)) (lt-ltb p.height q.height less) tests.1 in
          subst HasNoHue (sym rows.is)
          (no_hue_set p.palette pad rows.register (register_free pad p.palette rows.register rows.takes).within tests.0
          plain)
      | inr not_less ↦
          let above : p.height ≤ q.height = fits_above t p.height q.height f.height in
          subst HasNoHue (sym (f.same (omega (arith, above, not_less))))
          (λ r hue lightness saturation. no_hue_in p.palette r hue lightness saturation tests.0)
    ]

-- ---- all of them

suits_xterm : (registers : ℕ) (t : Terminals) (pad : Parts) (p q : PictureValue) → IsPicture registers q
    → t.ignored ≡ no_rules → t.xterm ≡ true → Fits t pad p q → q.width ≡ p.width → HasNoReason t pad p q.height → BreaksNoneOf XTerm (canon q)
suits_xterm registers t pad p q picture all is f wide reasons =
    let small = small_sides t p.width p.height all is reasons.not_large in
    canon_suits_xterm registers q picture (omega (arith, small.0, wide)) (small_if _ p.height q.height small.1 f.height)
    (fitted_no_hue t pad p q all is f reasons.no_hue)

pub suits : (registers : ℕ) (t : Terminals) (pad : Parts) (p q : PictureValue) → IsPicture registers q
    → t.ignored ≡ no_rules → Fits t pad p q → q.width ≡ p.width → HasNoReason t pad p q.height → BreaksNoneAsked t (canon q)
suits registers t pad p q picture all f wide reasons asked is =
    let one = and_parts (one_asks t asked) (not (has_rule t.ignored asked)) is in
    elim (or_cases ((t.xterm && asks XTerm asked) || (t.mlterm && asks MlTerm asked))
    ((t.foot && asks Foot asked) || (t.konsole && asks Konsole asked)) one.0) [
      | inl left ↦ elim (or_cases (t.xterm && asks XTerm asked) (t.mlterm && asks MlTerm asked) left) [
        | inl both ↦
            let parts = and_parts t.xterm (asks XTerm asked) both in
            suits_xterm registers t pad p q picture all parts.0 f wide reasons asked parts.1
        | inr both ↦
            let parts = and_parts t.mlterm (asks MlTerm asked) both in
            canon_suits_mlterm registers q picture asked parts.1
      ]
      | inr right ↦ elim (or_cases (t.foot && asks Foot asked) (t.konsole && asks Konsole asked) right) [
        | inl both ↦
            let parts = and_parts t.foot (asks Foot asked) both in
            canon_suits_foot registers q picture asked parts.1
        | inr both ↦
            let parts = and_parts t.konsole (asks Konsole asked) both in
            canon_suits_konsole registers q picture (whole_height t p.height q.height all parts.0 f.height) asked parts.1
      ]
    ]
