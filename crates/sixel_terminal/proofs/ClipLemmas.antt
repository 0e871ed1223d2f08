-- What a terminal paints at a point from its origin, and terminals that clip.
use Rattle.std.proofs.Common.{◌≡◌, ◌≤◌, ◌+◌, ◌-◌, ℕ, ◌∙◌, Some, List, refl, arith}
use Rattle.std.specs.Prelude.{true, false}
use Rattle.std.proofs.Math.Bool.{and-false}
use Rattle.std.proofs.lemmas.Bool.{le-leb}
use Rattle.sixel_grammar.specs.declared.command.Event.{Event}
use Rattle.sixel_model.specs.Events.{Attributes, is_in_box}
use Rattle.sixel_model.specs.Rules.{raster_before}
use Rattle.sixel_terminal.specs.Displays.{Display}
use Rattle.sixel_terminal.specs.Drawing.{is_kept_on, paint_at, paints_on, touches_on}
use Rattle.sixel_terminal.specs.Laws.{ClippedIsUnpainted}

-- painting at a point from the origin
pub at_origin : (t : Display) (before : List Event) (e : Event) (x y : ℕ)
    → paints_on t before e (t.choices.origin_x + x) (t.choices.origin_y + y) ≡ paint_at t before e x y
unfolding paints_on
at_origin t before e x y =
    let across : t.choices.origin_x ≤ t.choices.origin_x + x = omega arith in
    let down : t.choices.origin_y ≤ t.choices.origin_y + y = omega arith in
    let dx : (t.choices.origin_x + x) - t.choices.origin_x ≡ x = omega arith in
    let dy : (t.choices.origin_y + y) - t.choices.origin_y ≡ y = omega arith in
    rw (
      le-leb t.choices.origin_x (t.choices.origin_x + x) across,
      le-leb t.choices.origin_y (t.choices.origin_y + y) down,
      dx,
      dy,
    ) refl

cut_off : (t : Display) (before : List Event) (a : Attributes) (x y : ℕ) → t.choices.clips ≡ true
    → raster_before before ≡ Some a → is_in_box a x y ≡ false → is_kept_on t before x y ≡ false
unfolding is_kept_on
cut_off t before a x y clips box out = rw (clips, box, out) refl

pub clipped_is_unpainted : ClippedIsUnpainted
clipped_is_unpainted t before e a x y clips ground box out =
    at_origin t before e x y
    ∙ rw (cut_off t before a x y clips box out, and-false (touches_on t before e x y), ground) refl
