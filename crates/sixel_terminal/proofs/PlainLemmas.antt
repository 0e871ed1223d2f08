-- Lists with no repeat of 0 in which each ratio is given as 1 to 1.
use Rattle.std.proofs.Common.{◌≡◌, ℕ, Bool, true, false, cond, Option, Some, None, List, [], ◌∷◌, take, refl}
use Rattle.std.specs.Prelude.{◌==◌, if◌then◌else◌, IfSome, IsFalse, IsSome, IsTrue}
use Rattle.std.specs.List.{AllByRecursion}
use Rattle.std.specs.Option.{option_map_or}
use Rattle.sixel_grammar.specs.declared.command.Command.TheVariants.{Repeat}
use Rattle.sixel_grammar.specs.declared.command.Event.{Event}
use Rattle.sixel_grammar.specs.declared.command.Event.TheVariants.{Step}
use Rattle.sixel_model.specs.Events.{Attributes, columns_of, is_repeat_of_zero, is_return, is_square, raster_of}
use Rattle.sixel_model.specs.Geometry.{column, falls, touches}
use Rattle.sixel_model.specs.Positions.{latest}
use Rattle.sixel_model.specs.Rules.{raster_before}
use Rattle.sixel_model.proofs.KnownLemmas.{each_before, each_there, earliest_is_some, latest_each, sum_since_same}
use Rattle.sixel_terminal.specs.Displays.{Display}
use Rattle.sixel_terminal.specs.Drawing.{height_of, touches_on}
use Rattle.sixel_terminal.specs.Laws.{SamePointsOnEach}

no_zero : (z count : ℕ) (b : Bool) → b ≡ false → cond b z count ≡ cond b 0 count
no_zero z count true h = cc
no_zero z count false h = refl

-- an event other than a repeat of 0 has the same columns on each terminal
columns_same : (z : ℕ) (e : Event) → IsFalse (is_repeat_of_zero e) → columns_of z e ≡ columns_of 0 e
columns_same z (Step (Repeat count bits)) h = no_zero z count (count == 0) h
columns_same z _ h = refl

each_column : (z : ℕ) (events : List Event) → AllByRecursion (λ e. IsFalse (is_repeat_of_zero e)) events
    → AllByRecursion (λ e. columns_of z e ≡ columns_of 0 e) events
each_column z [] h = tt
each_column z (e ∷ es) h = (columns_same z e h.0, each_column z es h.1)

column_same : (z : ℕ) (before : List Event) → AllByRecursion (λ e. IsFalse (is_repeat_of_zero e)) before
    → column z before ≡ column 0 before
unfolding column
column_same z before h = sum_since_same is_return (columns_of z) (columns_of 0) before (each_column z before h)

height_square : (tall : ℕ) (o : Option Attributes) → IsSome o → IfSome o (λ a. IsTrue (is_square a))
    → option_map_or (λ (a : Attributes). if is_square a then 1 else tall) o tall ≡ 1
height_square tall (Some a) s h = rw h refl
height_square tall None s h = cc

-- after raster attributes, all of them square, the height of a sixel pixel is 1
height_one : (t : Display) (before : List Event)
    → AllByRecursion (λ e. IfSome (raster_of e) (λ a. IsTrue (is_square a))) before
    → IsSome (raster_before before) → height_of t before ≡ 1
unfolding height_of raster_before
height_one t before h s =
    height_square t.choices.tall (latest raster_of before) (earliest_is_some raster_of before s)
    (latest_each raster_of (λ a. IsTrue (is_square a)) before h)

pub same_points_on_each : SamePointsOnEach
unfolding touches_on falls touches
same_points_on_each t events i e x y plain here s =
    let square : AllByRecursion (λ d. IfSome (raster_of d) (λ a. IsTrue (is_square a))) (take i events)
    = each_before (λ d. IfSome (raster_of d) (λ a. IsTrue (is_square a))) i events plain.square in
    let counts : AllByRecursion (λ d. IsFalse (is_repeat_of_zero d)) (take i events)
    = each_before (λ d. IsFalse (is_repeat_of_zero d)) i events plain.no_repeat_of_zero in
    let count : IsFalse (is_repeat_of_zero e)
    = each_there (λ d. IsFalse (is_repeat_of_zero d)) i events e plain.no_repeat_of_zero here in
    rw (
      height_one t (take i events) square s,
      column_same t.choices.zero (take i events) counts,
      columns_same t.choices.zero e count,
    )
