-- How a grid changes with the events.
use Rattle.std.proofs.Common.{◌≡◌, ℕ, ◌%◌, ◌<◌, Bool, true, false, ◌||◌, Option, Some, None, List, [], ◌∷◌, ◌++◌, refl}
use Rattle.std.proofs.Common.{sym, ap, ap₂, ◌∙◌}
use Rattle.std.specs.Prelude.{IsTrue, is_some, if◌then◌else◌}
use Rattle.std.specs.Option.{option_map, option_or}
use Rattle.sixel_grammar.specs.declared.command.Event.{Event}
use Rattle.sixel_grammar.specs.declared.command.Event.TheVariants.{Step}
use Rattle.sixel_grammar.specs.declared.command.Command.TheVariants.{Sixel, Repeat}
use Rattle.sixel_model.specs.Events.{Attributes, bits_of, columns_of, is_data_command, raster_of}
use Rattle.sixel_model.specs.Geometry.{band, column, covers, falls, touches}
use Rattle.sixel_model.specs.Pictures.{is_side}
use Rattle.sixel_model.specs.Positions.{any_at, any_below, earliest, last_at, last_below}
use Rattle.sixel_model.specs.Rules.{is_covered, known, raster_before, register_at}
use Rattle.sixel_model.specs.Grids.{Grid, blank_grid, cell, painted_grid}
use Rattle.sixel_model.proofs.CoverLemmas.{idle_covered, idle_register}
use Rattle.sixel_model.proofs.GridLemmas.{cell-blank_grid, cell-painted_grid, length_rows}
use Rattle.sixel_model.proofs.StepLemmas.{covered_push, raster_push, register_push}
use Rattle.sixel_judge.specs.Judging.{IsDrawn, IsUndrawn}

-- only data commands have set bits
pub no_data_bits : (e : Event) → is_data_command e ≡ false → bits_of e ≡ 0
no_data_bits (Step (Sixel bits)) h = cc
no_data_bits (Step (Repeat count bits)) h = cc
no_data_bits _ h = refl

pub raster_bits : (e : Event) (a : Attributes) → raster_of e ≡ Some a → bits_of e ≡ 0
raster_bits (Step (Sixel bits)) a h = cc
raster_bits (Step (Repeat count bits)) a h = cc
raster_bits _ a h = refl

-- ---- before there is a box

pub undrawn_empty : IsUndrawn []
unfolding raster_before earliest is_covered any_at any_below register_at last_at last_below
undrawn_empty = record { no_box = refl; uncovered = λ x y. refl; no_register = λ x y. refl }

pub undrawn_idle : (before : List Event) (e : Event) → raster_of e ≡ None → bits_of e % 64 ≡ 0 → IsUndrawn before
    → IsUndrawn (before ++ e ∷ [])
undrawn_idle before e none idle u = record {
  no_box = raster_push before e ∙ ap₂ option_or u.no_box none;
  uncovered = λ x y. idle_covered before e x y idle ∙ u.uncovered x y;
  no_register = λ x y. idle_register before e x y idle ∙ u.no_register x y;
}

-- after an event that is neither raster attributes nor a data command
pub undrawn_push : (before : List Event) (e : Event) → raster_of e ≡ None → is_data_command e ≡ false → IsUndrawn before
    → IsUndrawn (before ++ e ∷ [])
undrawn_push before e none no_data u = undrawn_idle before e none (ap (λ (n : ℕ). n % 64) (no_data_bits e no_data)) u

-- ---- from the box on

-- after the first raster attributes
pub drawn_first : {kept : ℕ → ℕ} (before : List Event) (e : Event) (w h : ℕ)
    → raster_of e ≡ Some (record { pan = 1; pad = 1; width = w; height = h }) → IsTrue (is_side w) → IsTrue (is_side h)
    → IsUndrawn before → IsDrawn kept (blank_grid w h) (before ++ e ∷ [])
unfolding blank_grid
drawn_first {kept} before e w h is width height u =
    let idle : bits_of e % 64 ≡ 0 = ap (λ (n : ℕ). n % 64) (raster_bits e _ is) in
    let bare : (x y : ℕ) → x < w → y < h → cell (blank_grid w h) x y ≡ None = cell-blank_grid w h in
    record {
      box = raster_push before e ∙ ap₂ option_or u.no_box is;
      width = width;
      height = height;
      pixels = length_rows w h _;
      registers = λ x y p q.
          bare x y p q ∙ sym (ap (option_map kept) (idle_register before e x y idle ∙ u.no_register x y));
      covered = λ x y p q. ap is_some (bare x y p q) ∙ sym (idle_covered before e x y idle ∙ u.uncovered x y);
    }

-- the box stays the same
box_stays : (before : List Event) (e : Event) (a : Attributes) → raster_before before ≡ Some a
    → raster_before (before ++ e ∷ []) ≡ Some a
box_stays before e a is = raster_push before e ∙ ap (λ (o : Option Attributes). option_or o (raster_of e)) is

-- an event without a set bit of the six leaves the grid unchanged
pub drawn_idle : {kept : ℕ → ℕ} {s : Grid} {before : List Event} (e : Event) → bits_of e % 64 ≡ 0
    → IsDrawn kept s before → IsDrawn kept s (before ++ e ∷ [])
drawn_idle {kept} {before} e idle d = record {
  box = box_stays before e _ d.box;
  width = d.width;
  height = d.height;
  pixels = d.pixels;
  registers = λ x y p q. d.registers x y p q ∙ sym (ap (option_map kept) (idle_register before e x y idle));
  covered = λ x y p q. d.covered x y p q ∙ sym (idle_covered before e x y idle);
}

kept_either : (kept : ℕ → ℕ) (b : Bool) (o m : Option ℕ)
    → (if b then option_map kept o else option_map kept m) ≡ option_map kept (if b then o else m)
kept_either kept true o m = refl
kept_either kept false o m = refl

some_kept : (kept : ℕ → ℕ) (o : Option ℕ) → is_some (option_map kept o) ≡ is_some o
some_kept kept None = refl
some_kept kept (Some r) = refl

-- what is kept of the pixel's register after a command that paints in register r
painted_register : {kept : ℕ → ℕ} {s : Grid} {before : List Event} (e : Event) (r x y : ℕ) → known before ≡ Some r
    → IsDrawn kept s before → x < s.width → y < s.height
    → cell (painted_grid s (column 0 before) (band before) (columns_of 0 e) (bits_of e) (kept r)) x y
    ≡ option_map kept (register_at (before ++ e ∷ []) x y)
unfolding falls touches
painted_register {kept} {s} {before} e r x y is d p q =
    cell-painted_grid s (column 0 before) (band before) (columns_of 0 e) (bits_of e) (kept r) x y p q
    ∙ ap₂ (λ (o m : Option ℕ).
    if covers (column 0 before) (columns_of 0 e) (band before) 1 (bits_of e) x y then o else m)
    (ap (option_map kept) (sym is)) (d.registers x y p q)
    ∙ kept_either kept (covers (column 0 before) (columns_of 0 e) (band before) 1 (bits_of e) x y) (known before)
    (register_at before x y) ∙ ap (option_map kept) (sym (register_push before e x y))

known_or : (b covered : Bool) (o q : Option ℕ) (r : ℕ) → q ≡ Some r → is_some o ≡ covered
    → is_some (if b then q else o) ≡ (b || covered)
known_or true covered o q r is has = rw is refl
known_or false covered o q r is has = has

register_covered : {kept : ℕ → ℕ} {s : Grid} {before : List Event} (e : Event) (r x y : ℕ) → known before ≡ Some r
    → IsDrawn kept s before → x < s.width → y < s.height
    → is_some (register_at (before ++ e ∷ []) x y) ≡ is_covered (before ++ e ∷ []) x y
register_covered {kept} {before} e r x y is d p q =
    let had : is_some (register_at before x y) ≡ is_covered before x y =
    sym (some_kept kept (register_at before x y)) ∙ ap is_some (sym (d.registers x y p q)) ∙ d.covered x y p q in
    rw (register_push before e x y, covered_push before e x y)
    (known_or (falls before e x y) (is_covered before x y) (register_at before x y) (known before) r is had)

-- the grid after a command that paints in the known register
pub drawn_run : {kept : ℕ → ℕ} {s : Grid} {before : List Event} (e : Event) (r : ℕ) → known before ≡ Some r
    → IsDrawn kept s before
    → IsDrawn kept (painted_grid s (column 0 before) (band before) (columns_of 0 e) (bits_of e) (kept r))
    (before ++ e ∷ [])
unfolding painted_grid
drawn_run {kept} {s} {before} e r is d = record {
  box = box_stays before e _ d.box;
  width = d.width;
  height = d.height;
  pixels = length_rows s.width s.height _;
  registers = λ x y p q. painted_register e r x y is d p q;
  covered = λ x y p q. ap is_some (painted_register e r x y is d p q)
      ∙ some_kept kept (register_at (before ++ e ∷ []) x y) ∙ register_covered e r x y is d p q;
}
