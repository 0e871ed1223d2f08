-- What holds for every `Terminal`.
use Rattle.std.proofs.Common.{◌≡◌, ◌==◌, ℕ, zero, suc, ◌*◌, ◌≤◌, Bool, true, false, ◌&&◌, not, nat_le, nat_lt, Option}
use Rattle.std.proofs.Common.{Some, None, List, length, refl, subst, arith}
use Rattle.std.specs.Prelude.{if◌then◌else◌}
use Rattle.std.proofs.lemmas.Bool.{and_parts, eqb-true, leb-true, ltb-true}
use Rattle.sixel_model.specs.declared.colour.Parts.{Parts}
use Rattle.sixel_terminal.specs.declared.choices.Choices.{Choices}
use Rattle.sixel_terminal.specs.declared.choices.Ground.{Ground}
use Rattle.sixel_terminal.specs.declared.choices.Ground.TheVariants.{Kept, Filled}
use Rattle.sixel_terminal.specs.Displays.{Display, IsGroundBelow, IsInClass, registers_of}
use Rattle.sixel_terminal.specs.Limits.{display_of, is_ground_below, is_screen_side, most_registers, most_screen_side}
use Rattle.sixel_terminal.specs.Limits.{terminal_fault}

-- the terminal is in the class, and its screen isn't larger than a `Terminal` may have
pub record Runs (t : Display) : Type 0 where
  pub in_class : IsInClass 16 t
  pub width : t.choices.screen_width ≤ most_screen_side
  pub height : t.choices.screen_height ≤ most_screen_side

passed : {A : Type 0} (b : Bool) (x : A) (o : Option A) → (if not b then Some x else o) ≡ None
    → (b ≡ true) × (o ≡ None)
passed true x o h = (refl, h)
passed false x o h = cc

not_passed : {A : Type 0} (b : Bool) (x : A) (o : Option A) → (if b then Some x else o) ≡ None
    → (b ≡ false) × (o ≡ None)
not_passed true x o h = cc
not_passed false x o h = (refl, h)

ground_below : (n : ℕ) (g : Ground) → is_ground_below n g ≡ true → IsGroundBelow n g
ground_below n Kept h = tt
ground_below n (Filled register) h = ltb-true register n h

some_tall : (n : ℕ) → (n == 0) ≡ false → 1 ≤ n
some_tall zero h = cc
some_tall (suc n) h = omega arith

pub runs : (choices : Choices) (colours screen : List Parts) → terminal_fault choices colours screen ≡ None
    → Runs (display_of choices colours screen)
runs choices colours screen h =
    let registers = passed _ _ _ h in
    let selected = passed _ _ _ registers.1 in
    let ground = passed _ _ _ selected.1 in
    let zero_is = passed _ _ _ ground.1 in
    let tall = not_passed _ _ _ zero_is.1 in
    let pixels = passed _ _ _ tall.1 in
    let origin = passed _ _ _ pixels.1 in
    let count = and_parts (nat_le 16 (length colours)) (nat_le (length colours) most_registers) registers.0 in
    let sides = and_parts (is_screen_side choices.screen_width && is_screen_side choices.screen_height)
    (length screen == choices.screen_width * choices.screen_height) pixels.0 in
    let both = and_parts (is_screen_side choices.screen_width) (is_screen_side choices.screen_height) sides.0 in
    let across = and_parts (nat_le 1 choices.screen_width) (nat_le choices.screen_width most_screen_side) both.0 in
    let down = and_parts (nat_le 1 choices.screen_height) (nat_le choices.screen_height most_screen_side) both.1 in
    let at = and_parts (nat_lt choices.origin_x choices.screen_width)
    (nat_lt choices.origin_y choices.screen_height) origin.0 in
    record {
      in_class = record {
        enough = leb-true _ _ count.0;
        selected = ltb-true _ _ selected.0;
        ground = ground_below (length colours) choices.ground ground.0;
        zero = leb-true _ _ zero_is.0;
        tall = some_tall choices.tall tall.0;
        screen = eqb-true _ _ sides.1;
        origin_x = ltb-true _ _ at.0;
        origin_y = ltb-true _ _ at.1;
      };
      width = leb-true _ _ across.1;
      height = leb-true _ _ down.1;
    }

-- the view of a `Terminal` satisfies `Runs`
pub runs_seen : (t : Display) (choices : Choices) (colours screen : List Parts) → display_of choices colours screen ≡ t
    → terminal_fault choices colours screen ≡ None → Runs t
runs_seen t choices colours screen same h = subst (λ (d : Display). Runs d) same (runs choices colours screen h)

-- a terminal of the class for n registers is in it for any count up to its own
pub in_class_up_to : (registers n : ℕ) (t : Display) → IsInClass n t → registers ≤ registers_of t
    → IsInClass registers t
in_class_up_to registers n t known few = record {
  enough = few;
  selected = known.selected;
  ground = known.ground;
  zero = known.zero;
  tall = known.tall;
  screen = known.screen;
  origin_x = known.origin_x;
  origin_y = known.origin_y;
}
