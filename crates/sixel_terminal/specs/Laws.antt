-- What the laws say.
use Rattle.std.specs.Prelude.{◌≡◌, ◌<◌, ◌≤◌, ◌+◌, ℕ, true, false, Some, None, IfSome, IsFalse, IsSome, IsTrue, List}
use Rattle.std.specs.Prelude.{length, slice_get, take}
use Rattle.std.specs.List.{AllByRecursion, list_any}
use Rattle.sixel_grammar.specs.declared.command.Event.{Event}
use Rattle.sixel_model.specs.declared.colour.Parts.{Parts}
use Rattle.sixel_model.specs.Events.{Attributes, is_eight_bit, is_in_box, is_repeat_of_zero, is_square, raster_of}
use Rattle.sixel_model.specs.Geometry.{falls}
use Rattle.sixel_model.specs.Rules.{known, raster_before}
use Rattle.sixel_terminal.specs.declared.choices.Choices.{Choices}
use Rattle.sixel_terminal.specs.declared.choices.Ground.TheVariants.{Kept}
use Rattle.sixel_terminal.specs.Displays.{Display, IsInClass, registers_of}
use Rattle.sixel_terminal.specs.Drawing.{IsPainted, paints_on, selected_on, shown_on, stood_on, touches_on}
use Rattle.sixel_terminal.specs.Limits.{display_of, terminal_fault}

-- parts without a fault make a terminal of the class, for pictures with at most as many registers as it has
abbrev pub TerminalsAreInClass : Type 0
TerminalsAreInClass =
    (registers : ℕ) (choices : Choices) (colours screen : List Parts) → terminal_fault choices colours screen ≡ None
    → registers ≤ length colours → IsInClass registers (display_of choices colours screen)

-- there is no repeat of 0, and each ratio is given as 1 to 1
pub record IsPlain (events : List Event) : Type 0 where
  pub no_repeat_of_zero : AllByRecursion (λ e. IsFalse (is_repeat_of_zero e)) events
  pub square : AllByRecursion (λ e. IfSome (raster_of e) (λ a. IsTrue (is_square a))) events

-- in a plain list an event after raster attributes covers the same points on each terminal, before any clipping
abbrev pub SamePointsOnEach : Type 0
SamePointsOnEach =
    (t : Display) (events : List Event) (i : ℕ) (e : Event) (x y : ℕ) → IsPlain events → slice_get events i ≡ Some e
    → IsSome (raster_before (take i events)) → touches_on t (take i events) e x y ≡ falls (take i events) e x y

-- the known register is the selected one on each terminal that has it
abbrev pub KnownIsSelected : Type 0
KnownIsSelected =
    (t : Display) (before : List Event) (r : ℕ) → known before ≡ Some r → r < registers_of t → selected_on t before ≡ r

-- a pixel that no event paints shows what was there before
abbrev pub UnpaintedStays : Type 0
UnpaintedStays =
    (t : Display) (events : List Event) (x y : ℕ) → ¬ IsPainted t events x y → shown_on t events x y ≡ stood_on t x y

-- a terminal without 8-bit controls paints nothing of a list with an 8-bit start or finish
abbrev pub UnseenIsUnpainted : Type 0
UnseenIsUnpainted =
    (t : Display) (events : List Event) (x y : ℕ) → t.choices.eight_bit ≡ false
    → IsTrue (list_any is_eight_bit events) → ¬ IsPainted t events x y

-- on a terminal that clips and keeps its ground, an event after raster attributes paints no point outside the box of
-- the first of them
abbrev pub ClippedIsUnpainted : Type 0
ClippedIsUnpainted =
    (t : Display) (before : List Event) (e : Event) (a : Attributes) (x y : ℕ) → t.choices.clips ≡ true
    → t.choices.ground ≡ Kept → raster_before before ≡ Some a → IsFalse (is_in_box a x y)
    → paints_on t before e (t.choices.origin_x + x) (t.choices.origin_y + y) ≡ None
