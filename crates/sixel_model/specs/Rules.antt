-- The rules of a portable picture, the first broken rule, and the picture that is left if no rule is broken.
--
-- Each rule sees an event and the events before it. The box is that of the first raster attributes before the event.
use Rattle.std.specs.Prelude.{◌==◌, ◌<◌, ◌≤◌, ◌&&◌, ◌||◌, ℕ, Bool, true, false, not, nat_le, nat_lt, is_none, is_some}
use Rattle.std.specs.Prelude.{Option, Some, None, IsTrue, IsFalse, IsSomeAnd, List, [], ◌∷◌, map, unwrap_or}
use Rattle.std.specs.Prelude.{if◌then◌else◌}
use Rattle.std.specs.Bool.{then_some}
use Rattle.std.specs.List.{range_with_len}
use Rattle.std.specs.Option.{option_and_then, option_flatten, option_map_or}
use Rattle.sixel_grammar.specs.declared.command.Event.{Event}
use Rattle.sixel_grammar.specs.declared.command.Event.TheVariants.{Step}
use Rattle.sixel_grammar.specs.declared.command.Command.TheVariants.{Define}
use Rattle.sixel_model.specs.declared.colour.Parts.{Parts}
use Rattle.sixel_model.specs.declared.rule.Rule.{Rule}
use Rattle.sixel_model.specs.declared.rule.Rule.TheVariants.{RasterFirst, RasterTwice, Ratio, BoxSize, Register}
use Rattle.sixel_model.specs.declared.rule.Rule.TheVariants.{ColourValue, RepeatZero, Unselected, Undefined, Redefined}
use Rattle.sixel_model.specs.declared.rule.Rule.TheVariants.{Outside, Uncovered, EightBit}
use Rattle.sixel_model.specs.Colours.{colour_in, is_colour}
use Rattle.sixel_model.specs.Events.{Attributes, Definition, definition_where, has_sides, is_data_command, is_finish}
use Rattle.sixel_model.specs.Events.{is_eight_bit, is_in_box, is_painting, is_repeat_of_zero, is_return}
use Rattle.sixel_model.specs.Events.{is_same_definition, is_square, named_by, raster_of, select_of}
use Rattle.sixel_model.specs.Geometry.{falls}
use Rattle.sixel_model.specs.Pictures.{PictureValue, picture_of_parts}
use Rattle.sixel_model.specs.Positions.{HoldsAtPosition, HoldsNowhere, any_at, earliest, last_at, latest}
use Rattle.sixel_model.specs.Grids.{row_by_row}

-- ---- what holds before an event

-- the optional number is n
abbrev pub is_that : ℕ → Option ℕ → Bool
is_that n None = false
is_that n (Some m) = m == n

-- the register that was selected last, if it is also the one that was named last
abbrev pub known_by : Option ℕ → Option ℕ → Option ℕ
known_by selected named = option_and_then (λ r. then_some (is_that r named) r) selected

-- the known register: the last select names it, and so does the last select or definition
unfoldable pub known : List Event → Option ℕ
known before = known_by (latest select_of before) (latest named_by before)

-- what the last definition of the register says
unfoldable pub definition_of : List Event → ℕ → Option Definition
definition_of before register = latest (definition_where (λ r. r == register)) before

-- the colour that a definition gives, in range or not
abbrev pub colour_by : Definition → Option Parts
colour_by d = colour_in d.system d.x d.y d.z

-- whether the definition gives a colour in range
abbrev pub gives_colour : Definition → Bool
gives_colour d = option_map_or is_colour (colour_by d) false

-- the colour of the last definition of the register
unfoldable pub colour_of : List Event → ℕ → Option Parts
colour_of before register = option_and_then colour_by (definition_of before register)

-- whether some command painted while the register was known
unfoldable pub is_painted_in : List Event → ℕ → Bool
is_painted_in before register = any_at (λ earlier e. is_painting e && is_that register (known earlier)) before

-- the first raster attributes, which declare the box
unfoldable pub raster_before : List Event → Option Attributes
raster_before before = earliest raster_of before

-- whether some event covers the point
unfoldable pub is_covered : List Event → ℕ → ℕ → Bool
is_covered before x y = any_at (λ earlier e. falls earlier e x y) before

-- the register that was known when the point was last covered
unfoldable pub register_at : List Event → ℕ → ℕ → Option ℕ
register_at before x y =
    option_flatten (last_at (λ earlier e. if falls earlier e x y then Some (known earlier) else None) before)

-- ---- the rules; each definition says that the event breaks one

-- a data command, a return or the end, with no raster attributes before it
unfoldable pub breaks_raster_first : List Event → Event → Bool
breaks_raster_first before e = is_none (raster_before before) && (is_data_command e || is_return e || is_finish e)

-- raster attributes that aren't the first
unfoldable pub breaks_raster_twice : List Event → Event → Bool
breaks_raster_twice before e = is_some (raster_before before) && is_some (raster_of e)

-- raster attributes whose ratio isn't given as 1 to 1
unfoldable pub breaks_ratio : Event → Bool
breaks_ratio e = option_map_or (λ a. not (is_square a)) (raster_of e) false

-- raster attributes with a side outside 1 to 2,048 pixels
unfoldable pub breaks_box_size : Event → Bool
breaks_box_size e = option_map_or (λ a. not (has_sides a)) (raster_of e) false

-- a select or a definition of a register that isn't below `count`
unfoldable pub breaks_register : ℕ → Event → Bool
breaks_register count e = option_map_or (λ r. nat_le count r) (named_by e) false

-- a definition that gives no colour in range
unfoldable pub breaks_colour_value : Event → Bool
breaks_colour_value e = option_map_or (λ d. not (gives_colour d)) (definition_where (λ r. true) e) false

-- a repeat of 0
unfoldable pub breaks_repeat_zero : Event → Bool
breaks_repeat_zero e = is_repeat_of_zero e

-- a painting command when no register is known
unfoldable pub breaks_unselected : List Event → Event → Bool
breaks_unselected before e = is_painting e && is_none (known before)

-- a painting command whose known register has no definition before it
unfoldable pub breaks_undefined : List Event → Event → Bool
breaks_undefined before e = is_painting e && option_map_or (λ r. is_none (definition_of before r)) (known before) false

-- a definition of a register that was painted in and defined before, unless it repeats the register's last definition
unfoldable pub breaks_redefined : List Event → Event → Bool
breaks_redefined before (Step (Define register system x y z)) =
    is_painted_in before register
    && option_map_or (λ d. not (is_same_definition d (record { system = system; x = x; y = y; z = z })))
    (definition_of before register) false
breaks_redefined before _ = false

-- the event covers the point, which is outside the box
pub record FallsOutside (before : List Event) (e : Event) (a : Attributes) (x y : ℕ) : Type 0 where
  pub painted : IsTrue (falls before e x y)
  pub outside : IsFalse (is_in_box a x y)

-- a command that covers a point outside the box
unfoldable pub BreaksOutside : List Event → Event → Type 0
BreaksOutside before e = IsSomeAnd (raster_before before) (λ a. (x : ℕ) × (y : ℕ) × FallsOutside before e a x y)

-- the point is in the box, and no event covers it
pub record StaysBlank (before : List Event) (a : Attributes) (x y : ℕ) : Type 0 where
  pub inside : IsTrue (is_in_box a x y)
  pub blank : IsFalse (is_covered before x y)

-- a finish, if some point of the box is covered by no event before it; in a whole list those are all the others
unfoldable pub BreaksUncovered : List Event → Event → Type 0
BreaksUncovered before e =
    IsTrue (is_finish e) × IsSomeAnd (raster_before before) (λ a. (x : ℕ) × (y : ℕ) × StaysBlank before a x y)

-- an 8-bit start or finish
unfoldable pub breaks_eight_bit : Event → Bool
breaks_eight_bit e = is_eight_bit e

-- the event breaks the rule, if there are `registers` registers
unfoldable pub Breaks : ℕ → Rule → List Event → Event → Type 0
Breaks registers RasterFirst before e = IsTrue (breaks_raster_first before e)
Breaks registers RasterTwice before e = IsTrue (breaks_raster_twice before e)
Breaks registers Ratio before e = IsTrue (breaks_ratio e)
Breaks registers BoxSize before e = IsTrue (breaks_box_size e)
Breaks registers Register before e = IsTrue (breaks_register registers e)
Breaks registers ColourValue before e = IsTrue (breaks_colour_value e)
Breaks registers RepeatZero before e = IsTrue (breaks_repeat_zero e)
Breaks registers Unselected before e = IsTrue (breaks_unselected before e)
Breaks registers Undefined before e = IsTrue (breaks_undefined before e)
Breaks registers Redefined before e = IsTrue (breaks_redefined before e)
Breaks registers Outside before e = BreaksOutside before e
Breaks registers Uncovered before e = BreaksUncovered before e
Breaks registers EightBit before e = IsTrue (breaks_eight_bit e)

-- ---- the first broken rule

-- the number of each rule; if an event breaks several rules, the one with the least number is reported
abbrev pub number_of : Rule → ℕ
number_of RasterFirst = 1
number_of RasterTwice = 2
number_of Ratio = 3
number_of BoxSize = 4
number_of Register = 5
number_of ColourValue = 6
number_of RepeatZero = 7
number_of Unselected = 8
number_of Undefined = 9
number_of Redefined = 10
number_of Outside = 11
number_of Uncovered = 12
number_of EightBit = 13

-- the rule with the greatest number
abbrev pub last_rule : Rule
last_rule = EightBit

-- the rules, in order of number
abbrev pub all_rules : List Rule
all_rules =
    RasterFirst ∷ RasterTwice ∷ Ratio ∷ BoxSize ∷ Register ∷ ColourValue ∷ RepeatZero ∷ Unselected ∷ Undefined
    ∷ Redefined ∷ Outside ∷ Uncovered ∷ EightBit ∷ []

-- no event breaks a rule whose number is at most that of `last`
unfoldable pub BreaksNone : ℕ → Rule → List Event → Type 0
BreaksNone registers last events =
    (rule : Rule) → number_of rule ≤ number_of last → HoldsNowhere (Breaks registers rule) events

-- the rule is broken at position i; no rule is broken earlier, and no rule with a smaller number is broken there
pub record IsFirstBroken (registers : ℕ) (events : List Event) (rule : Rule) (i : ℕ) : Type 0 where
  pub broken : HoldsAtPosition (Breaks registers rule) events i
  pub none_earlier : (m : Rule) (j : ℕ) → j < i → ¬ HoldsAtPosition (Breaks registers m) events j
  pub none_smaller : (m : Rule) → number_of m < number_of rule → ¬ HoldsAtPosition (Breaks registers m) events i

-- the point u v comes before the point x y in row order
abbrev pub is_before : ℕ → ℕ → ℕ → ℕ → Bool
is_before u v x y = nat_lt v y || ((v == y) && nat_lt u x)

-- the first point, in row order, for which P holds
pub record IsFirstPoint (P : ℕ → ℕ → Type 0) (x y : ℕ) : Type 0 where
  pub holds : P x y
  pub none_before : (u v : ℕ) → IsTrue (is_before u v x y) → ¬ P u v

-- ---- the picture that is left

-- for each register, the colour of its last definition, if it has one
unfoldable pub palette_left : ℕ → List Event → List (Option Parts)
palette_left registers events = map (colour_of events) (range_with_len 0 registers)

-- the picture of the box: each pixel has the register that was known when it was last covered. Without such a register
-- it is 0, and without raster attributes the box is 0 by 0; in a whole list that breaks no rule, neither happens
unfoldable pub picture_left : ℕ → List Event → PictureValue
picture_left registers events =
    let a : Attributes = unwrap_or (raster_before events) (record { pan = 1; pad = 1; width = 0; height = 0 }) in
    picture_of_parts a.width a.height (palette_left registers events)
    (row_by_row a.width a.height (λ x y. unwrap_or (register_at events x y) 0))
