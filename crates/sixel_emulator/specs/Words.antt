-- What the rules of several terminals ask of events.
use Rattle.std.specs.Prelude.{ℕ, zero, suc, ◌&&◌, ◌%◌, ◌^◌, List, [], ◌∷◌, Option, Some, None, length, max, min}
use Rattle.std.specs.Prelude.{nat_le, slice_get, slice_index_or, take, unwrap_or, if◌then◌else◌}
use Rattle.std.specs.Option.{option_map, option_map_or}
use Rattle.sixel_grammar.specs.declared.command.Command.{Command}
use Rattle.sixel_grammar.specs.declared.command.Command.TheVariants.{Define, Repeat}
use Rattle.sixel_grammar.specs.declared.command.Event.{Event}
use Rattle.sixel_grammar.specs.declared.command.Event.TheVariants.{Start, Step, Finish}
use Rattle.sixel_model.specs.declared.colour.Parts.{Parts}
use Rattle.sixel_model.specs.declared.colour.Parts.TheVariants.{Rgb, Hls}
use Rattle.sixel_model.specs.Colours.{clamped, colour_in}
use Rattle.sixel_model.specs.Geometry.{band_rows}
use Rattle.sixel_model.specs.Positions.{latest}

-- the second parameter, P2, if the event is an introducer; 0 if the parameter is missing
abbrev pub second_of : Event → Option ℕ
second_of (Start eight parameters) = Some (slice_index_or parameters.items 1 0)
second_of (Step command) = None
second_of (Finish eight) = None

-- P2 of the introducer before; 0 if there is none
abbrev pub second_parameter : List Event → ℕ
second_parameter before = unwrap_or (latest second_of before) 0

-- the colour of a definition, each coordinate moved to the nearest value in range; none in a system but 1 and 2
abbrev pub nearest : ℕ → ℕ → ℕ → ℕ → Option Parts
nearest system x y z = option_map clamped (colour_in system x y z)

-- the definition of a register that gives it this colour
abbrev pub defining : ℕ → Parts → Command
defining register (Rgb red green blue) = Define register 2 red green blue
defining register (Hls hue lightness saturation) = Define register 1 hue lightness saturation

-- the upper rows of a sixel: so many of its bits, from bit 0 on
abbrev pub upper : ℕ → ℕ → ℕ
upper rows bits = bits % 2 ^ min band_rows rows

-- what is kept of a data command of so many columns with these bits where so many columns and rows are left: the
-- command itself, if nothing is cut off
abbrev pub kept : ℕ → ℕ → Command → ℕ → ℕ → Command
kept columns rows command count bits =
    if nat_le count columns && nat_le band_rows rows then command else Repeat (min count columns) (upper rows bits)

-- the greatest value that f has for one of the events; 0 if there is none
unfoldable pub greatest : (Event → ℕ) → List Event → ℕ
greatest f [] = 0
greatest f (e ∷ es) = max (f e) (greatest f es)

-- what becomes of a value by the first n events. By each it becomes another; `step` says which, with the events before
unfoldable pub after_first : {S : Type 0} → ℕ → (S → List Event → Event → S) → S → List Event → S
after_first zero step start events = start
after_first (suc n) step start events =
    option_map_or (step (after_first n step start events) (take n events)) (slice_get events n)
    (after_first n step start events)

-- what becomes of it by all the events
unfoldable pub after_each : {S : Type 0} → (S → List Event → Event → S) → S → List Event → S
after_each step start events = after_first (length events) step start events
