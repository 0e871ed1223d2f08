-- What the automaton of konsole stores, and how an event changes it.
use Rattle.std.specs.Prelude.{◌≡◌, ◌==◌, ◌&&◌, ◌||◌, Bool, true, false, not, is_none, is_some, max, if◌then◌else◌}
use Rattle.std.specs.Prelude.{List, Option, Some, None}
use Rattle.std.specs.Option.{option_map, option_or}
use Rattle.sixel_grammar.specs.declared.command.Command.TheVariants.{Sixel, Repeat, Raster, Select, Define}
use Rattle.sixel_grammar.specs.declared.command.Command.TheVariants.{CarriageReturn, NextLine}
use Rattle.sixel_grammar.specs.declared.command.Event.{Event}
use Rattle.sixel_grammar.specs.declared.command.Event.TheVariants.{Start, Step, Finish}
use Rattle.sixel_model.specs.Events.{Attributes, is_data_command, is_return, named_by}
use Rattle.sixel_konsole.specs.declared.konsole.Konsole.{Konsole}
use Rattle.sixel_konsole.specs.declared.konsole.Stated.{Stated}
use Rattle.sixel_emulator.specs.declared.reading.Reads.{Reads}
use Rattle.sixel_emulator.specs.declared.reading.Reads.TheVariants.{Nothing}
use Rattle.sixel_konsole.specs.Konsole.{counting, has_begun, has_late, has_unknown_system, has_width, is_late, is_stuck}
use Rattle.sixel_konsole.specs.Konsole.{konsole_data, konsole_define, konsole_move, konsole_raster, konsole_select}
use Rattle.sixel_konsole.specs.Konsole.{moves_or_ends}

-- what stored raster attributes say
abbrev pub said : Stated → Attributes
said s = record { pan = s.pan; pad = s.pad; width = s.width; height = s.height }

-- the raster attributes that count, if the event after the last one moves or ends (true) or doesn't
abbrev pub counting_in : Konsole → Bool → Option Attributes
counting_in k dropped = option_or (option_map said k.counting) (if dropped then None else option_map said k.waiting)

-- whether the picture has begun, likewise
abbrev pub begun_in : Konsole → Bool → Bool
begun_in k dropped = k.begun || (k.declares && not dropped)

-- a select or a data command changes nothing of what it stores; nor does a return or a new line, unless all is dropped
abbrev pub is_settled : Konsole → Bool
is_settled k = ((k.has_late && k.begun) && not k.declares) && is_none k.waiting

-- the automaton has seen these events
pub record HasSeenKonsole (k : Konsole) (before : List Event) : Type 0 where
  pub stuck_is : k.stuck ≡ is_stuck before
  pub late_is : k.has_late ≡ has_late before
  pub begun_is : (next : Option Event) → has_begun before next ≡ begun_in k (moves_or_ends next)
  pub counting_is : (next : Option Event) → counting before next ≡ counting_in k (moves_or_ends next)
  pub settled_is : k.settled ≡ true → is_settled k ≡ true

-- ---- how an event changes it

abbrev pub next_stuck : Konsole → Event → Bool
next_stuck k e = not (is_return e) && (k.stuck || has_unknown_system e)

abbrev pub next_late : Konsole → Event → Bool
next_late k e = k.has_late || is_late e

abbrev pub next_begun : Konsole → Event → Bool
next_begun k e =
    begun_in k (moves_or_ends (Some e)) || (is_some (named_by e) || (is_data_command e && not k.stuck))

abbrev pub next_declares : Konsole → Event → Bool
next_declares k e = has_width e && not k.stuck

-- the raster attributes that may count, if the event after them doesn't drop them
abbrev pub may_count_in : Konsole → Event → Option Attributes
may_count_in k (Step (Raster pan pad width height)) =
    if (width == 0) || k.has_late
    then None
    else Some (record { pan = pan; pad = pad; width = width; height = height })
may_count_in k _ = None

-- a select or a data command
abbrev pub selects_or_paints : Event → Bool
selects_or_paints (Step (Select register)) = true
selects_or_paints (Step (Sixel bits)) = true
selects_or_paints (Step (Repeat count bits)) = true
selects_or_paints _ = false

-- a settled automaton stores the same after the event
abbrev pub keeps_settled : Konsole → Event → Bool
keeps_settled k e = selects_or_paints e || (is_return e && not k.stuck)

-- ---- what it makes of an event, if the event after it moves or ends (true) or doesn't

abbrev pub konsole_in : Konsole → Bool → Event → Reads
konsole_in k dropped (Start eight parameters) = Nothing
konsole_in k dropped (Step (Raster pan pad width height)) =
    konsole_raster k.stuck
    (not ((width == 0) || (dropped || k.has_late)) && is_none (counting_in k false))
    (record { pan = pan; pad = pad; width = width; height = height })
konsole_in k dropped (Step (Define register system x y z)) =
    konsole_define (dropped || k.stuck) register system x y z
konsole_in k dropped (Step (Select register)) = konsole_select (dropped || k.stuck) register
konsole_in k dropped (Step (Sixel bits)) = konsole_data k.stuck (Sixel bits)
konsole_in k dropped (Step (Repeat count bits)) = konsole_data k.stuck (Repeat (max 1 count) bits)
konsole_in k dropped (Step CarriageReturn) = konsole_move (begun_in k true) CarriageReturn
konsole_in k dropped (Step NextLine) = konsole_move (begun_in k true) NextLine
konsole_in k dropped (Finish eight) = Nothing
