-- What a terminal stores after one more event.
use Rattle.std.proofs.Common.{◌≡◌, ℕ, ◌+◌, ◌*◌, ◌%◌, ◌<◌, Bool, true, false, cond, min, Option, Some, None, List, []}
use Rattle.std.proofs.Common.{◌∷◌, ◌++◌, get_or, refl, sym, ap, ◌∙◌, arith}
use Rattle.std.specs.Prelude.{unwrap_or, if◌then◌else◌}
use Rattle.std.specs.Option.{option_or, option_map, option_map_or}
use Rattle.std.proofs.lemmas.Nat.{mod_below}
use Rattle.sixel_grammar.specs.declared.command.Event.{Event}
use Rattle.sixel_model.specs.Events.{Attributes, columns_of, is_next_line, is_return, is_square, named_by, raster_of}
use Rattle.sixel_model.specs.Events.{select_of}
use Rattle.sixel_model.specs.Geometry.{band, column}
use Rattle.sixel_model.specs.Positions.{earliest, last_at, latest}
use Rattle.sixel_model.specs.Rules.{raster_before}
use Rattle.sixel_model.proofs.PositionLemmas.{earliest_push, latest_push, last_at_push}
use Rattle.sixel_model.proofs.StepLemmas.{band_push, column_push}
use Rattle.sixel_model.specs.declared.colour.Parts.TheVariants.{Rgb}
use Rattle.sixel_terminal.specs.declared.pixel.Ink.TheVariants.{Fixed}
use Rattle.sixel_terminal.specs.declared.pen.Pen.{Pen}
use Rattle.sixel_terminal.specs.Displays.{Display, registers_of}
use Rattle.sixel_terminal.specs.Drawing.{defined_on, height_of, map_on, selected_on}
use Rattle.sixel_terminal.specs.Standing.{IsPenAfter, ink_at_point, inked_by}
use Rattle.sixel_terminal.specs.Steps.{most, next_band, next_column, next_declared, next_height, next_selected}
use Rattle.sixel_terminal.specs.Steps.{sides_of}

pub map_or : {A B : Type 0} (f : A → B) (o p : Option A)
    → option_map f (option_or o p) ≡ option_or (option_map f o) (option_map f p)
map_or f None p = refl
map_or f (Some a) p = refl

-- a result of the first option that has one, or a default
map_or_or : {A B : Type 0} (f : A → B) (o p : Option A) (d : B)
    → option_map_or f (option_or o p) d ≡ option_map_or f o (option_map_or f p d)
map_or_or f None p d = refl
map_or_or f (Some x) p d = refl

pub unwrap_or_or : {A : Type 0} (o p : Option A) (d : A) → unwrap_or (option_or o p) d ≡ unwrap_or o (unwrap_or p d)
unwrap_or_or None p d = refl
unwrap_or_or (Some x) p d = refl

-- a column that stops at the greatest one
stopped : (b : Bool) (c w : ℕ) → cond b 0 (min (min c most + w) most) ≡ min (cond b 0 (c + w)) most
stopped true c w = omega arith
stopped false c w = omega arith

stopped_band : (b n : ℕ) → min (min b most + n) most ≡ min (b + n) most
stopped_band b n = omega arith

pub modulo_below : (n d : ℕ) (o : Option ℕ) → d < n → option_map_or (λ r. r % n) o d < n
modulo_below n d None h = h
modulo_below n d (Some r) h = mod_below r n (omega arith)

-- the pen after one more event
pub pen_push : (t : Display) (before : List Event) (p q : Pen) (e : Event) → IsPenAfter t before p
    → q.column ≡ next_column t p e → q.band ≡ next_band p e → q.height ≡ next_height t p e
    → q.declared ≡ next_declared p e → q.selected ≡ next_selected t p e → IsPenAfter t (before ++ e ∷ []) q
unfolding height_of raster_before selected_on
pen_push t before p q e s c b h d sel = record {
  column_is =
      c ∙ ap (λ n. cond (is_return e) 0 (min (n + columns_of t.choices.zero e) most)) s.column_is
      ∙ stopped (is_return e) (column t.choices.zero before) (columns_of t.choices.zero e)
      ∙ ap (λ n. min n most) (sym (column_push t.choices.zero before e));
  band_is =
      b ∙ ap (λ n. min (n + cond (is_next_line e) 1 0) most) s.band_is
      ∙ stopped_band (band before) (cond (is_next_line e) 1 0)
      ∙ ap (λ n. min n most) (sym (band_push before e));
  height_is =
      let height = λ (a : Attributes). if is_square a then 1 else t.choices.tall in
      h ∙ ap (λ n. option_map_or height (raster_of e) n) s.height_is
      ∙ sym (map_or_or height (raster_of e) (latest raster_of before) t.choices.tall)
      ∙ ap (λ o. option_map_or height o t.choices.tall) (sym (latest_push raster_of before e));
  declared_is =
      d ∙ ap (λ o. option_or o (option_map sides_of (raster_of e))) s.declared_is
      ∙ sym (map_or sides_of (earliest raster_of before) (raster_of e))
      ∙ ap (option_map sides_of) (sym (earliest_push raster_of before e));
  selected_is =
      let f = (if t.choices.selects then named_by else select_of) in
      sel ∙ ap (λ n. option_map_or (λ r. r % registers_of t) (f e) n) s.selected_is
      ∙ sym (map_or_or (λ r. r % registers_of t) (f e) (latest f before) t.choices.selected)
      ∙ ap (λ o. option_map_or (λ r. r % registers_of t) o t.choices.selected) (sym (latest_push f before e));
  selected_below =
      let f = (if t.choices.selects then named_by else select_of) in
      rw sel (modulo_below (registers_of t) p.selected (f e) s.selected_below);
}

-- the colours after one more event
pub colour_push : (t : Display) (before : List Event) (e : Event) (r : ℕ)
    → map_on t (before ++ e ∷ []) r ≡ unwrap_or (defined_on t r e) (map_on t before r)
unfolding map_on
colour_push t before e r =
    ap (λ o. unwrap_or o (get_or t.colours r (Rgb 0 0 0))) (latest_push (defined_on t r) before e)
    ∙ unwrap_or_or (defined_on t r e) (latest (defined_on t r) before) (get_or t.colours r (Rgb 0 0 0))

-- the ink of a pixel after one more event
pub ink_push : (t : Display) (before : List Event) (e : Event) (x y : ℕ)
    → ink_at_point t (before ++ e ∷ []) x y ≡ unwrap_or (inked_by t x y before e) (ink_at_point t before x y)
unfolding ink_at_point
ink_push t before e x y =
    ap (λ o. unwrap_or o (Fixed (get_or t.screen (y * t.choices.screen_width + x) (Rgb 0 0 0))))
    (last_at_push (inked_by t x y) before e)
    ∙ unwrap_or_or (inked_by t x y before e) (last_at (inked_by t x y) before) _
