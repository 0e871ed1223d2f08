-- Worked examples of the rules, as facts about the definitions. `E` is the byte ESC.
use Rattle.std.proofs.Common.{◌≡◌, true, false, Some, None, List, [], ◌∷◌, refl}
use Rattle.std.specs.Prelude.{replicate}
use Rattle.sixel_grammar.specs.declared.command.Event.{Event}
use Rattle.sixel_grammar.specs.declared.command.Event.TheVariants.{Start, Step, Finish}
use Rattle.sixel_grammar.specs.declared.command.Command.TheVariants.{Sixel, Repeat, Raster, Select, Define}
use Rattle.sixel_model.specs.declared.colour.Parts.TheVariants.{Rgb}
use Rattle.sixel_model.specs.declared.rule.Rule.TheVariants.{RasterFirst, RasterTwice, Ratio, BoxSize, Register}
use Rattle.sixel_model.specs.declared.rule.Rule.TheVariants.{ColourValue, RepeatZero, Unselected, Undefined, Redefined}
use Rattle.sixel_model.specs.declared.rule.Rule.TheVariants.{Outside, Uncovered, EightBit}
use Rattle.sixel_model.specs.Geometry.{band, column, covers, touches, falls}
use Rattle.sixel_model.specs.Positions.{latest, earliest, since, any_below, last_below, at_position, passes_at}
use Rattle.sixel_model.specs.Positions.{last_at, any_at, HoldsAtPosition}
use Rattle.sixel_model.specs.Rules
use Rattle.sixel_model.specs.Grids.{row_by_row}

abbrev start : Event
start = Start false (record { items = 0 ∷ [] })

-- EPq"1;1;2;1#0;2;0;0;0#0@E\ : the pixel 0 0 is covered, the pixel 1 0 isn't
abbrev uncovered : List Event
uncovered =
    start ∷ Step (Raster 1 1 2 1) ∷ Step (Define 0 2 0 0 0) ∷ Step (Select 0) ∷ Step (Sixel 1) ∷ Finish false ∷ []

covered_there : Rules.is_covered uncovered 0 0 ≡ true
unfolding Rules.is_covered any_at any_below passes_at falls touches covers column band since
covered_there = refl

uncovered_there : HoldsAtPosition (Rules.Breaks 16 Uncovered) uncovered 5
unfolding Rules.Breaks Rules.BreaksUncovered Rules.raster_before earliest Rules.is_covered any_at any_below passes_at
    falls touches covers column band since
uncovered_there = record {
  item = Finish false;
  here = refl;
  holds =
      (refl, (1, 0, record { inside = refl; blank = refl }));
}

-- EPq"1;1;1;1#0;2;0;0;0@E\ : a definition doesn't select
abbrev unselected : List Event
unselected = start ∷ Step (Raster 1 1 1 1) ∷ Step (Define 0 2 0 0 0) ∷ Step (Sixel 1) ∷ Finish false ∷ []

unselected_there : HoldsAtPosition (Rules.Breaks 16 Unselected) unselected 3
unfolding Rules.Breaks Rules.breaks_unselected Rules.known latest
unselected_there = record { item = Step (Sixel 1); here = refl; holds = refl }

-- EPq"1;1;1;1#1;2;100;0;0#1#0;2;0;0;0@E\ : after a definition of another register none is known
abbrev named : List Event
named =
    start ∷ Step (Raster 1 1 1 1) ∷ Step (Define 1 2 100 0 0) ∷ Step (Select 1) ∷ Step (Define 0 2 0 0 0)
    ∷ Step (Sixel 1)
    ∷ Finish false ∷ []

named_there : HoldsAtPosition (Rules.Breaks 16 Unselected) named 5
unfolding Rules.Breaks Rules.breaks_unselected Rules.known latest
named_there = record { item = Step (Sixel 1); here = refl; holds = refl }

-- EPq"1;1;1;1#1#0;2;0;0;0#1;2;100;0;0@E\ : the selected register is known if it is also defined last
abbrev selected : List Event
selected =
    start ∷ Step (Raster 1 1 1 1) ∷ Step (Select 1) ∷ Step (Define 0 2 0 0 0) ∷ Step (Define 1 2 100 0 0)
    ∷ Step (Sixel 1)
    ∷ Finish false ∷ []

known_there : Rules.known selected ≡ Some 1
unfolding Rules.known latest
known_there = refl

left_there : Rules.picture_left 16 selected
    ≡ record {
      width = 1;
      height = 1;
      palette = Some (Rgb 0 0 0) ∷ Some (Rgb 100 0 0) ∷ replicate 14 None;
      registers = 1 ∷ [];
    }
unfolding Rules.picture_left Rules.palette_left Rules.colour_of Rules.definition_of latest Rules.raster_before
    earliest row_by_row Rules.register_at last_at last_below at_position falls touches covers column band since
    any_below Rules.known
left_there = refl

-- EPq"1;1;1;1#0@E\
abbrev undefined : List Event
undefined = start ∷ Step (Raster 1 1 1 1) ∷ Step (Select 0) ∷ Step (Sixel 1) ∷ Finish false ∷ []

undefined_there : HoldsAtPosition (Rules.Breaks 16 Undefined) undefined 3
unfolding Rules.Breaks Rules.breaks_undefined Rules.definition_of Rules.known latest
undefined_there = record { item = Step (Sixel 1); here = refl; holds = refl }

-- EPq"1;1;2;1#0;2;0;0;0#1;2;100;0;0#0@#1@#0;2;1;0;0E\ : the redefined register isn't the selected one
abbrev redefined : List Event
redefined =
    start ∷ Step (Raster 1 1 2 1) ∷ Step (Define 0 2 0 0 0) ∷ Step (Define 1 2 100 0 0) ∷ Step (Select 0)
    ∷ Step (Sixel 1)
    ∷ Step (Select 1) ∷ Step (Sixel 1) ∷ Step (Define 0 2 1 0 0) ∷ Finish false ∷ []

redefined_there : HoldsAtPosition (Rules.Breaks 16 Redefined) redefined 8
unfolding Rules.Breaks Rules.breaks_redefined Rules.is_painted_in any_at any_below passes_at Rules.known latest
    Rules.definition_of
redefined_there = record { item = Step (Define 0 2 1 0 0); here = refl; holds = refl }

-- a definition of the same colour again is allowed
defined_again : Rules.breaks_redefined (start ∷ Step (Define 0 2 0 0 0) ∷ Step (Select 0) ∷ Step (Sixel 1) ∷ [])
    (Step (Define 0 2 0 0 0)) ≡ false
unfolding Rules.breaks_redefined Rules.is_painted_in any_at any_below passes_at Rules.known latest Rules.definition_of
defined_again = refl

-- EPq"1;1;1;1#0;2;0;0;0#0AE\ : the second row is outside
abbrev below : List Event
below = start ∷ Step (Raster 1 1 1 1) ∷ Step (Define 0 2 0 0 0) ∷ Step (Select 0) ∷ Step (Sixel 2) ∷ Finish false ∷ []

below_there : HoldsAtPosition (Rules.Breaks 16 Outside) below 4
unfolding Rules.Breaks Rules.BreaksOutside Rules.raster_before earliest falls touches covers column band since any_below
below_there = record { item = Step (Sixel 2); here = refl; holds = (0, 1, record { painted = refl; outside = refl }) }

-- EPq"1;1;1;1#0;2;0;0;0#0!2@E\ : the second column is outside
abbrev outside : List Event
outside = start ∷ Step (Raster 1 1 1 1) ∷ Step (Define 0 2 0 0 0) ∷ Step (Select 0) ∷ Step (Repeat 2 1) ∷ Finish false
    ∷ []

outside_there : HoldsAtPosition (Rules.Breaks 16 Outside) outside 4
unfolding Rules.Breaks Rules.BreaksOutside Rules.raster_before earliest falls touches covers column band since any_below
outside_there = record {
  item = Step (Repeat 2 1);
  here = refl;
  holds =
      (1, 0, record { painted = refl; outside = refl });
}

-- EPqE\
abbrev empty : List Event
empty = start ∷ Finish false ∷ []

empty_there : HoldsAtPosition (Rules.Breaks 16 RasterFirst) empty 1
unfolding Rules.Breaks Rules.breaks_raster_first Rules.raster_before earliest
empty_there = record { item = Finish false; here = refl; holds = refl }

-- !0@, #16, #0;3;0;0;0, #0;2;101;0;0
repeat_there : Rules.Breaks 16 RepeatZero (start ∷ []) (Step (Repeat 0 1))
unfolding Rules.Breaks Rules.breaks_repeat_zero
repeat_there = refl

register_there : Rules.Breaks 16 Register (start ∷ []) (Step (Select 16))
unfolding Rules.Breaks Rules.breaks_register
register_there = refl

last_register : Rules.breaks_register 16 (Step (Select 15)) ≡ false
unfolding Rules.breaks_register
last_register = refl

system_there : Rules.Breaks 16 ColourValue (start ∷ []) (Step (Define 0 3 0 0 0))
unfolding Rules.Breaks Rules.breaks_colour_value
system_there = refl

percent_there : Rules.Breaks 16 ColourValue (start ∷ []) (Step (Define 0 2 101 0 0))
unfolding Rules.Breaks Rules.breaks_colour_value
percent_there = refl

hue_in_range : Rules.breaks_colour_value (Step (Define 0 1 360 50 100)) ≡ false
unfolding Rules.breaks_colour_value
hue_in_range = refl

-- "2;1;0;1 and "1;1;0;1 and "1;1;2049;1
ratio_there : Rules.Breaks 16 Ratio (start ∷ []) (Step (Raster 2 1 0 1))
unfolding Rules.Breaks Rules.breaks_ratio
ratio_there = refl

no_width_there : Rules.Breaks 16 BoxSize (start ∷ []) (Step (Raster 1 1 0 1))
unfolding Rules.Breaks Rules.breaks_box_size
no_width_there = refl

wide_there : Rules.Breaks 16 BoxSize (start ∷ []) (Step (Raster 1 1 2049 1))
unfolding Rules.Breaks Rules.breaks_box_size
wide_there = refl

-- "1;1;1;1"1;1;1;1
twice_there : Rules.Breaks 16 RasterTwice (start ∷ Step (Raster 1 1 1 1) ∷ []) (Step (Raster 1 1 1 1))
unfolding Rules.Breaks Rules.breaks_raster_twice Rules.raster_before earliest
twice_there = refl

-- the byte 90 before q, and the byte 9C at the end
introducer_there : Rules.Breaks 16 EightBit [] (Start true (record { items = 0 ∷ [] }))
unfolding Rules.Breaks Rules.breaks_eight_bit
introducer_there = refl

terminator_there : Rules.Breaks 16 EightBit (start ∷ []) (Finish true)
unfolding Rules.Breaks Rules.breaks_eight_bit
terminator_there = refl
