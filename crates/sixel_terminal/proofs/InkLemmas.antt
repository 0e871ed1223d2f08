-- The inks of the pixels, and the colours that they show.
use Rattle.std.proofs.Common.{◌≡◌, ℕ, ◌-◌, ◌/◌, ◌%◌, ◌<◌, Bool, true, false, ◌&&◌, Option, Some, None, List, [], ◌∷◌}
use Rattle.std.proofs.Common.{◌++◌, length, get_or, refl, sym, ap, ◌∙◌, arith}
use Rattle.std.specs.Prelude.{unwrap_or, if◌then◌else◌}
use Rattle.std.specs.Bool.{then_some}
use Rattle.std.specs.Option.{option_map, option_and_then}
use Rattle.std.proofs.lemmas.Nat.{div_below, mod_below}
use Rattle.sixel_grammar.specs.declared.command.Event.{Event}
use Rattle.sixel_model.specs.declared.colour.Parts.{Parts}
use Rattle.sixel_model.specs.declared.colour.Parts.TheVariants.{Rgb}
use Rattle.sixel_model.specs.Events.{Attributes, is_in_box, raster_of}
use Rattle.sixel_terminal.specs.declared.pixel.Ink.{Ink}
use Rattle.sixel_terminal.specs.declared.pixel.Ink.TheVariants.{Fixed, Bound}
use Rattle.sixel_terminal.specs.declared.choices.Ground.{Ground}
use Rattle.sixel_terminal.specs.declared.choices.Ground.TheVariants.{Kept, Filled}
use Rattle.sixel_terminal.specs.declared.pen.Pen.{Pen}
use Rattle.sixel_terminal.specs.Canvases.{black}
use Rattle.sixel_terminal.specs.Displays.{Display, IsGroundBelow, registers_of}
use Rattle.sixel_terminal.specs.Drawing.{defined_on, filled_on, is_kept_on, paints_on, selected_on, touches_on}
use Rattle.sixel_terminal.specs.Standing.{StandsAfter, ink_in_register, ink_at_point}
use Rattle.sixel_terminal.specs.Steps.{ink_after_event, ink_by_colours, most, next_band, next_column, next_declared}
use Rattle.sixel_terminal.specs.Steps.{next_height, next_selected}
use Rattle.sixel_terminal.proofs.PixelLemmas.{pen_paints}
use Rattle.sixel_terminal.proofs.RunLemmas.{Runs}
use Rattle.sixel_terminal.proofs.StandLemmas.{colour_push, ink_push, modulo_below, pen_push}

-- ---- the painted register is one of the terminal's

box_below : (n register x y r : ℕ) (o : Option Attributes) → register < n
    → option_and_then (λ a. then_some (is_in_box a x y) register) o ≡ Some r → r < n
box_below n register x y r None below e = cc
box_below n register x y r (Some a) below e = inside (is_in_box a x y) e
  where
    inside : (b : Bool) → then_some b register ≡ Some r → r < n
    inside true e = let same : register ≡ r = cc in omega (arith, same, below)
    inside false e = cc

fill_below : (n : ℕ) (g : Ground) (e : Event) (x y r : ℕ) → IsGroundBelow n g → filled_on g e x y ≡ Some r → r < n
fill_below n Kept e x y r below h = cc
fill_below n (Filled register) e x y r below h = box_below n register x y r (raster_of e) below h

paint_below : (from touched : Bool) (n s : ℕ) (g : Ground) (e : Event) (x y r : ℕ) → s < n → IsGroundBelow n g
    → (if from then (if touched then Some s else filled_on g e x y) else None) ≡ Some r → r < n
paint_below true true n s g e x y r below ground h = let same : s ≡ r = cc in omega (arith, same, below)
paint_below true false n s g e x y r below ground h = fill_below n g e x y r ground h
paint_below false touched n s g e x y r below ground h = cc

selected_below : (t : Display) (before : List Event) → t.choices.selected < registers_of t
    → selected_on t before < registers_of t
unfolding selected_on
selected_below t before h = modulo_below (registers_of t) t.choices.selected _ h

pub paints_below : (t : Display) (before : List Event) (e : Event) (x y r : ℕ) → Runs t
    → paints_on t before e x y ≡ Some r → r < registers_of t
unfolding paints_on
paints_below t before e x y r runs h =
    paint_below _ (touches_on t before e (x - t.choices.origin_x) (y - t.choices.origin_y)
    && is_kept_on t before (x - t.choices.origin_x) (y - t.choices.origin_y)) (registers_of t)
    (selected_on t before) t.choices.ground e _ _ r (selected_below t before runs.in_class.selected)
    runs.in_class.ground h

-- ---- one more event

pub map_same : {A B : Type 0} (f g : A → B) (o : Option A)
    → ((a : A) → o ≡ Some a → f a ≡ g a) → option_map f o ≡ option_map g o
map_same f g None h = refl
map_same f g (Some a) h = ap Some (h a refl)

same_ink : (t : Display) (before : List Event) (p : Pen) (colours : List Parts) (inks : List Ink) (r : ℕ)
    → StandsAfter t before p colours inks → r < registers_of t → ink_by_colours t colours r ≡ ink_in_register t before r
same_ink t before p colours inks r s lt =
    ap (λ (c : Parts). if t.choices.binds_at_showing then Bound r else Fixed c) (s.colours_are r lt)

ink_step : (t : Display) (before : List Event) (p : Pen) (colours : List Parts) (inks : List Ink) (e : Event) (x y : ℕ)
    → Runs t → StandsAfter t before p colours inks → x < t.choices.screen_width → y < t.choices.screen_height
    → x < most → y < most
    → ink_after_event t p colours e x y (ink_at_point t before x y) ≡ ink_at_point t (before ++ e ∷ []) x y
ink_step t before p colours inks e x y runs s wx wy lx ly =
    ap (λ o. unwrap_or (option_map (ink_by_colours t colours) o) (ink_at_point t before x y))
    (pen_paints t before p e x y s.pen runs.in_class.tall wx wy lx ly)
    ∙ ap (λ o. unwrap_or o (ink_at_point t before x y))
    (map_same (ink_by_colours t colours) (ink_in_register t before) (paints_on t before e x y)
    (λ r h. same_ink t before p colours inks r s (paints_below t before e x y r runs h)))
    ∙ sym (ink_push t before e x y)

-- the state after one more event
pub stands_push : (t : Display) (before : List Event) (p q : Pen) (e : Event) (colours colours' : List Parts)
    (inks inks' : List Ink)
    → Runs t → StandsAfter t before p colours inks
    → q.column ≡ next_column t p e → q.band ≡ next_band p e → q.height ≡ next_height t p e
    → q.declared ≡ next_declared p e → q.selected ≡ next_selected t p e
    → length colours' ≡ length colours
    → ((r : ℕ) → r < length colours
    → get_or colours' r (Rgb 0 0 0) ≡ unwrap_or (defined_on t r e) (get_or colours r (Rgb 0 0 0)))
    → length inks' ≡ length inks
    → ((i : ℕ) → i < length inks
    → get_or inks' i black
    ≡ ink_after_event t p colours e (i % t.choices.screen_width) (i / t.choices.screen_width) (get_or inks i black))
    → StandsAfter t (before ++ e ∷ []) q colours' inks'
stands_push t before p q e colours colours' inks inks' runs s c b h d sel long defined whole painted = record {
  pen = pen_push t before p q e s.pen c b h d sel;
  registers = long ∙ s.registers;
  colours_are = λ r lt.
      defined r (omega (arith, lt, s.registers))
      ∙ ap (unwrap_or (defined_on t r e)) (s.colours_are r lt)
      ∙ sym (colour_push t before e r);
  pixels = whole ∙ s.pixels;
  inks_are = λ i lt.
      let some : 0 < t.choices.screen_width = omega (arith, runs.in_class.origin_x) in
      let in_width : i % t.choices.screen_width < t.choices.screen_width = mod_below i t.choices.screen_width some in
      let in_height : i / t.choices.screen_width < t.choices.screen_height =
      div_below i t.choices.screen_width t.choices.screen_height some (omega (arith, lt)) in
      painted i (omega (arith, lt, s.pixels))
      ∙ ap (ink_after_event t p colours e (i % t.choices.screen_width) (i / t.choices.screen_width)) (s.inks_are i lt)
      ∙ ink_step t before p colours inks e (i % t.choices.screen_width) (i / t.choices.screen_width) runs s
      in_width in_height (omega (arith, in_width, runs.width)) (omega (arith, in_height, runs.height));
}
