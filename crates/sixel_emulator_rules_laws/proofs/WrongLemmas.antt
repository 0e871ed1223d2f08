-- A document that breaks an asked rule alone is shown wrong by each terminal that asks for it.
use Rattle.std.proofs.Common.{◌≡◌, ◌≢◌, ℕ, ◌+◌, ◌*◌, ◌<◌, ◌≤◌, Bool, true, false, Some, List, refl, sym, subst, ap}
use Rattle.std.proofs.Common.{ap₂, ◌∙◌, arith}
use Rattle.std.specs.Prelude.{IsTrue, nat_lt}
use Rattle.std.proofs.lemmas.Bool.{and_from, and_parts, lt-ltb, ltb-true}
use Rattle.std.proofs.lemmas.List.{get_or-replicate}
use Rattle.std.proofs.lemmas.Nat.{mul-add-lt}
use Rattle.sixel_grammar.specs.declared.command.Event.{Event}
use Rattle.sixel_model.specs.declared.colour.Parts.{Parts}
use Rattle.sixel_model.specs.Pictures.{PictureValue}
use Rattle.sixel_model.specs.Rules.{picture_left}
use Rattle.sixel_terminal.specs.Displays.{Display}
use Rattle.sixel_terminal.specs.Drawing.{shown_on, stood_on}
use Rattle.sixel_terminal.proofs.ShownLemmas.{unpainted}
use Rattle.sixel_named_terminals.specs.declared.named.Named.{Named}
use Rattle.sixel_named_terminals.specs.declared.named.Named.TheVariants.{XTerm, MlTerm, Foot, Konsole}
use Rattle.sixel_mlterm.specs.MlTerm.{mlterm_model}
use Rattle.sixel_named_terminals.specs.Named.{model_of, terminal_on}
use Rattle.sixel_emulator.specs.Readings.{EndsAt, IsReading}
use Rattle.sixel_named_terminals.proofs.NamedLemmas.{reading_once, said_does_not_end}
use Rattle.sixel_judge.specs.Portable.{IsInBoxOn, Shows}
use Rattle.sixel_emulator_rules.specs.Asked.{asks}
use Rattle.sixel_emulator_rules.specs.declared.rule.AskedRule.{AskedRule}
use Rattle.sixel_emulator_rules.specs.declared.rule.AskedRule.TheVariants.{Far, Introducer, Bare}
use Rattle.sixel_emulator_rules_laws.specs.Witnesses.{is_of_events, witness_of}
use Rattle.sixel_emulator_rules_laws.specs.Laws.{EachWitnessIsShownWrong, IsShownOn, IsShownRight}
use Rattle.sixel_emulator_rules_laws.specs.Wrong.{IsShownOtherwise, Wrong, is_inside, wanted_at, white_parts, wrong_of}
use Rattle.sixel_emulator_rules_laws.proofs.PixelLemmas.{each_witness_has_a_pixel, mlterm_ends_at_each}

-- the terminal on a white screen of these sides
abbrev on_white : Named → List Event → ℕ × ℕ → Display
on_white named events sides = terminal_on named white_parts ((model_of named).opening events) sides

-- it draws from the top left of such a screen
record IsPlain (t : Display) (sides : ℕ × ℕ) : Type 0 where
  pub left : t.choices.origin_x ≡ 0
  pub top : t.choices.origin_y ≡ 0
  pub white : (x y : ℕ) → x < sides.0 → y < sides.1 → stood_on t x y ≡ white_parts

plain : (named : Named) (events : List Event) (sides : ℕ × ℕ) → IsPlain (on_white named events sides) sides
plain XTerm events sides = record {
  left = refl;
  top = refl;
  white = λ x y right below.
      get_or-replicate (sides.0 * sides.1) (y * sides.0 + x) white_parts _
      (mul-add-lt y sides.0 x sides.1 below right);
}
plain MlTerm events sides = record {
  left = refl;
  top = refl;
  white = λ x y right below.
      get_or-replicate (sides.0 * sides.1) (y * sides.0 + x) white_parts _
      (mul-add-lt y sides.0 x sides.1 below right);
}
plain Foot events sides = record {
  left = refl;
  top = refl;
  white = λ x y right below.
      get_or-replicate (sides.0 * sides.1) (y * sides.0 + x) white_parts _
      (mul-add-lt y sides.0 x sides.1 below right);
}
plain Konsole events sides = record {
  left = refl;
  top = refl;
  white = λ x y right below.
      get_or-replicate (sides.0 * sides.1) (y * sides.0 + x) white_parts _
      (mul-add-lt y sides.0 x sides.1 below right);
}

-- what is shown is shown of each reading
shows_read : (named : Named) (background : Parts) (sides : ℕ × ℕ) (events drawing : List Event) (p : PictureValue)
    → IsShownOn named background sides events p → IsReading (model_of named) events drawing
    → Shows (terminal_on named background ((model_of named).opening events) sides) drawing p
shows_read named background sides events drawing p s read =
    subst (λ (d : List Event). Shows (terminal_on named background ((model_of named).opening events) sides) d p)
    (reading_once (model_of named) events s.drawing drawing s.is_reading read) s.shows

outside : (t : Display) (sides : ℕ × ℕ) (p : PictureValue) (x y : ℕ) → IsPlain t sides → is_inside p x y ≡ false
    → ¬ IsInBoxOn t p.width p.height x y
outside t sides p x y s out b =
    let right : x < t.choices.origin_x + p.width = b.right in
    let bottom : y < t.choices.origin_y + p.height = b.bottom in
    let left : t.choices.origin_x ≡ 0 = s.left in
    let top : t.choices.origin_y ≡ 0 = s.top in
    let inside : is_inside p x y ≡ true =
    and_from _ _ (lt-ltb x p.width (omega (arith, right, left))) (lt-ltb y p.height (omega (arith, bottom, top))) in
    let no : true ≡ false = sym inside ∙ out in
    cc

-- a terminal that shows the picture shows the wanted colour at each pixel of a white screen
shown_as_wanted : (t : Display) (sides : ℕ × ℕ) (drawing : List Event) (p : PictureValue) (x y : ℕ) (inside : Bool)
    → is_inside p x y ≡ inside → IsPlain t sides → Shows t drawing p → x < sides.0 → y < sides.1
    → wanted_at p x y ≡ Some (shown_on t drawing x y)
shown_as_wanted t sides drawing p x y true is s shows right below =
    let parts = and_parts (nat_lt x p.width) (nat_lt y p.height) is in
    let left : t.choices.origin_x ≡ 0 = s.left in
    let top : t.choices.origin_y ≡ 0 = s.top in
    let across : t.choices.origin_x + x ≡ x = omega (arith, left) in
    let down : t.choices.origin_y + y ≡ y = omega (arith, top) in
    rw is
    (shows.inside x y (ltb-true x p.width parts.0) (ltb-true y p.height parts.1)
    ∙ ap₂ (λ (u v : ℕ). Some (shown_on t drawing u v)) across down)
shown_as_wanted t sides drawing p x y false is s shows right below =
    rw is
    (ap (λ (c : Parts). Some c)
    (sym (unpainted t drawing x y (shows.outside x y (outside t sides p x y s is)) ∙ s.white x y right below)))

otherwise_is_wrong : (named : Named) (registers : ℕ) (events : List Event) (w : Wrong)
    → IsShownOtherwise named registers events w → IsShownRight named registers events → ⊥
otherwise_is_wrong named registers events w o right =
    let p : PictureValue = picture_left registers events in
    let t : Display = on_white named events o.sides in
    let s : IsShownOn named white_parts o.sides events p = right white_parts o.sides.0 o.sides.1 o.across o.down in
    let shows : Shows t o.drawing p = shows_read named white_parts o.sides events o.drawing p s o.is_reading in
    let same : Some w.wanted ≡ Some w.shown =
    sym o.is_wanted
    ∙ (shown_as_wanted t o.sides o.drawing p w.x w.y (is_inside p w.x w.y) refl (plain named events o.sides) shows
    o.right o.below
    ∙ ap (λ (c : Parts). Some c) o.is_shown) in
    o.differs (let equal : w.wanted ≡ w.shown = cc in sym equal)

ends_wrong : (registers : ℕ) (events : List Event) (i : ℕ) → EndsAt mlterm_model events i
    → IsShownRight MlTerm registers events → ⊥
ends_wrong registers events i ends right =
    let p : PictureValue = picture_left registers events in
    said_does_not_end mlterm_model events i ((right white_parts p.width p.height (omega arith) (omega arith)).said) ends

-- ---- all

by_pixel : (named : Named) (rule : AskedRule) (registers : ℕ) → IsTrue (asks named rule) → IsTrue (is_of_events rule)
    → named ≢ MlTerm → 16 ≤ registers → ¬ IsShownRight named registers (witness_of rule)
by_pixel named rule registers asked told other le right =
    otherwise_is_wrong named registers (witness_of rule) (wrong_of rule)
    (each_witness_has_a_pixel named rule registers asked told other le) right

on_mlterm : (rule : AskedRule) (registers : ℕ) → IsTrue (asks MlTerm rule) → IsTrue (is_of_events rule)
    → ¬ IsShownRight MlTerm registers (witness_of rule)
on_mlterm Far registers asked told right = ends_wrong registers (witness_of Far) 6 mlterm_ends_at_each.0 right
on_mlterm Introducer registers asked told right =
    ends_wrong registers (witness_of Introducer) 0 mlterm_ends_at_each.1 right
on_mlterm Bare registers asked told right = cc
on_mlterm _ registers asked told right = cc

pub each_witness_is_shown_wrong : EachWitnessIsShownWrong
each_witness_is_shown_wrong MlTerm rule registers asked told le right = on_mlterm rule registers asked told right
each_witness_is_shown_wrong XTerm rule registers asked told le right =
    by_pixel XTerm rule registers asked told (λ same. cc) le right
each_witness_is_shown_wrong Foot rule registers asked told le right =
    by_pixel Foot rule registers asked told (λ same. cc) le right
each_witness_is_shown_wrong Konsole rule registers asked told le right =
    by_pixel Konsole rule registers asked told (λ same. cc) le right
