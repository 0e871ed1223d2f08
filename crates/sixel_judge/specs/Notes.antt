-- What the rules need to know of the events, except the pixels, and how an event changes it.
use Rattle.std.specs.Prelude.{◌≡◌, ◌+◌, ◌<◌, ◌&&◌, ◌||◌, ℕ, Bool, true, false, not, Option, Some, None, List, [], ◌∷◌}
use Rattle.std.specs.Prelude.{length, is_none, is_some, nat_lt, slice_get, slice_index_or, slice_set, if◌then◌else◌}
use Rattle.std.specs.Option.{option_and_then, option_flatten, option_map, option_map_or, option_or}
use Rattle.sixel_grammar.specs.declared.command.Command.TheVariants.{Define}
use Rattle.sixel_grammar.specs.declared.command.Event.{Event}
use Rattle.sixel_grammar.specs.declared.command.Event.TheVariants.{Step}
use Rattle.sixel_model.specs.declared.colour.Parts.{Parts}
use Rattle.sixel_model.specs.Colours.{colour_in, is_colour}
use Rattle.sixel_model.specs.Events.{Definition, columns_of, is_data_command, is_eight_bit, is_finish, is_next_line}
use Rattle.sixel_model.specs.Events.{is_painting, is_return, is_same_definition, named_by, raster_of, select_of}
use Rattle.sixel_model.specs.Geometry.{band, column}
use Rattle.sixel_model.specs.Positions.{latest}
use Rattle.sixel_model.specs.Rules.{breaks_box_size, breaks_colour_value, breaks_ratio, breaks_register}
use Rattle.sixel_model.specs.Rules.{breaks_repeat_zero, definition_of, is_painted_in, known_by, raster_before}
use Rattle.sixel_model.specs.declared.rule.Rule.{Rule}
use Rattle.sixel_model.specs.declared.rule.Rule.TheVariants.{RasterFirst, RasterTwice, Ratio, BoxSize, Register}
use Rattle.sixel_model.specs.declared.rule.Rule.TheVariants.{ColourValue, RepeatZero, Unselected, Undefined, Redefined}
use Rattle.sixel_model.specs.declared.rule.Rule.TheVariants.{Outside, Uncovered, EightBit}
use Rattle.sixel_judge.specs.Verdicts.{capped}
use Rattle.sixel_judge.specs.declared.notes.Definition.{Definition as Stored}
use Rattle.sixel_judge.specs.declared.notes.Notes.{Notes}
use Rattle.sixel_judge.specs.Counting.{paints_early}

-- ---- what is remembered

-- what a stored definition says
abbrev pub said : Stored → Definition
said d = record { system = d.system; x = d.x; y = d.y; z = d.z }

-- what the stored definition of the register says, if there is one
abbrev pub said_of : List (Option Stored) → ℕ → Option Definition
said_of definitions r = option_map said (option_flatten (slice_get definitions r))

-- the notes after these events
pub record IsNotesAfter (notes : Notes) (events : List Event) : Type 0 where
  pub column_is : notes.column ≡ capped (column 0 events)
  pub band_is : notes.band ≡ capped (band events)
  pub selected_is : notes.selected ≡ latest select_of events
  pub named_is : notes.named ≡ latest named_by events
  pub marks : length notes.painted ≡ 256
  pub painted_is : (r : ℕ) → r < 256 → slice_index_or notes.painted r false ≡ is_painted_in events r
  pub entries : length notes.definitions ≡ 256
  pub definitions_are : (r : ℕ) → r < 256 → said_of notes.definitions r ≡ definition_of events r
  pub declared_is : notes.declared ≡ is_some (raster_before events)
  pub early_is : notes.early ≡ paints_early events

abbrev pub known_in : Notes → Option ℕ
known_in n = known_by n.selected n.named

-- ---- how an event changes it

abbrev pub next_column : Notes → Event → ℕ
next_column n e = if is_return e then 0 else capped (n.column + columns_of 0 e)

abbrev pub next_band : Notes → Event → ℕ
next_band n e = if is_next_line e then capped (n.band + 1) else n.band

abbrev pub next_selected : Notes → Event → Option ℕ
next_selected n e = option_or (select_of e) n.selected

abbrev pub next_named : Notes → Event → Option ℕ
next_named n e = option_or (named_by e) n.named

-- the list with a mark for this register, if it has one
abbrev pub marked : List Bool → Option ℕ → List Bool
marked painted o = option_map_or (λ r. if nat_lt r 256 then slice_set painted r true else painted) o painted

abbrev pub next_painted : Notes → Event → List Bool
next_painted n e = if is_painting e then marked n.painted (known_in n) else n.painted

abbrev pub next_definitions : List (Option Stored) → Event → List (Option Stored)
next_definitions ds (Step (Define register system x y z)) =
    if nat_lt register 256
    then slice_set ds register (Some (record { system = system; x = x; y = y; z = z }))
    else ds
next_definitions ds _ = ds

abbrev pub is_declared_with : Notes → Event → Bool
is_declared_with n e = n.declared || is_some (raster_of e)

abbrev pub is_early_with : Notes → Event → Bool
is_early_with n e = n.early || (is_painting e && not n.declared)

-- all of them but `early`
abbrev pub next_but_early : Notes → Event → Notes
next_but_early n e = record n {
  column = next_column n e;
  band = next_band n e;
  selected = next_selected n e;
  named = next_named n e;
  painted = next_painted n e;
  definitions = next_definitions n.definitions e;
  declared = is_declared_with n e;
}

-- ---- the rules that don't look at pixels

abbrev pub raster_first_in : Bool → Event → Bool
raster_first_in has_box e = not has_box && (is_data_command e || is_return e || is_finish e)

abbrev pub raster_twice_in : Bool → Event → Bool
raster_twice_in has_box e = has_box && is_some (raster_of e)

-- the known register is one of this many, and has no definition
abbrev pub lacks_definition_in : ℕ → Notes → Bool
lacks_definition_in registers n =
    option_map_or (λ r. nat_lt r registers && is_none (said_of n.definitions r)) (known_in n) false

abbrev pub unselected_in : Notes → Event → Bool
unselected_in n e = is_painting e && is_none (known_in n)

abbrev pub undefined_in : ℕ → Notes → Event → Bool
undefined_in registers n e = is_painting e && lacks_definition_in registers n

abbrev pub redefined_in : ℕ → Notes → Event → Bool
redefined_in registers n (Step (Define register system x y z)) =
    nat_lt register registers && (slice_index_or n.painted register false
    && option_map_or (λ d. not (is_same_definition d (record { system = system; x = x; y = y; z = z })))
    (said_of n.definitions register) false)
redefined_in registers n _ = false

-- whether the rule counts at the event, by the notes on the events before; false for the two rules on pixels
abbrev pub counts_in : ℕ → Notes → Event → Rule → Bool
counts_in registers n e RasterFirst = raster_first_in n.declared e
counts_in registers n e RasterTwice = raster_twice_in n.declared e
counts_in registers n e Ratio = breaks_ratio e
counts_in registers n e BoxSize = breaks_box_size e
counts_in registers n e Register = breaks_register registers e
counts_in registers n e ColourValue = breaks_colour_value e
counts_in registers n e RepeatZero = breaks_repeat_zero e
counts_in registers n e Unselected = unselected_in n e
counts_in registers n e Undefined = undefined_in registers n e
counts_in registers n e Redefined = redefined_in registers n e
counts_in registers n e Outside = false
counts_in registers n e Uncovered = false
counts_in registers n e EightBit = is_eight_bit e

-- the rules with a smaller number than `Outside`, in order
abbrev pub before_outside : List Rule
before_outside =
    RasterFirst ∷ RasterTwice ∷ Ratio ∷ BoxSize ∷ Register ∷ ColourValue ∷ RepeatZero ∷ Unselected ∷ Undefined
    ∷ Redefined ∷ []

-- ---- colours

-- the colour with these coordinates in this colour system, if it is in range
abbrev pub colour_within : ℕ → ℕ → ℕ → ℕ → Option Parts
colour_within system x y z = option_and_then (λ c. if is_colour c then Some c else None) (colour_in system x y z)
