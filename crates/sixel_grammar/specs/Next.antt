-- What one byte does to what is open, as functions. Only contracts of private functions cite these.
use Rattle.std.specs.Prelude.{ℕ, ◌+◌, ◌-◌, ◌*◌, Bool, true, false, List, [], ◌∷◌, ◌++◌, length, Option, Some, None}
use Rattle.std.specs.Prelude.{◌==◌, ◌&&◌, ◌||◌, nat_le, nat_lt, if◌then◌else◌}
use Rattle.sixel_grammar.specs.declared.command.Command.TheVariants.{Sixel, Repeat, Raster, Select, Define}
use Rattle.sixel_grammar.specs.declared.command.Command.TheVariants.{CarriageReturn, NextLine}
use Rattle.sixel_grammar.specs.declared.command.Event.{Event}
use Rattle.sixel_grammar.specs.declared.command.Event.TheVariants.{Start, Step, Finish}
use Rattle.sixel_grammar.specs.Bytes.{is_filler, is_digit, is_data}
use Rattle.sixel_grammar.specs.Faults.{Form, NothingYet, Introducing, Parameters, LastSeparator, NoCommand}
use Rattle.sixel_grammar.specs.Faults.{RepeatNumber, RasterFields, ColourFields, Terminating, Ended}

-- n with the digit b appended
abbrev pub with_digit : ℕ → ℕ → ℕ
with_digit n b = n * 10 + (b - 48)

-- the open number takes a digit, if it stays at most 65,535
abbrev pub number_next : (ℕ → Form) → ℕ → ℕ → Option (Form × Option Event)
number_next with_number n b = if nat_le (with_digit n b) 65535 then Some (with_number (with_digit n b), None) else None

-- what a byte begins when no command is open, and the event that it completes
abbrev pub begin : ℕ → Option (Form × Option Event)
begin b =
    if is_data b then Some (NoCommand, Some (Step (Sixel (b - 63))))
    else (if is_filler b then Some (NoCommand, None)
    else (if b == 33 then Some (RepeatNumber 0, None)
    else (if b == 34 then Some (RasterFields [] 0, None)
    else (if b == 35 then Some (ColourFields [] 0, None)
    else (if b == 36 then Some (NoCommand, Some (Step CarriageReturn))
    else (if b == 45 then Some (NoCommand, Some (Step NextLine))
    else (if b == 27 then Some (Terminating, None)
    else (if b == 156 then Some (Ended, Some (Finish true))
    else None))))))))

-- what `;` and `q` do after a parameter
abbrev pub parameter_end : Bool → List ℕ → ℕ → ℕ → Option (Form × Option Event)
parameter_end eight ns n b =
    if b == 59 then (if nat_lt (length ns) 2
    then Some (Parameters eight (ns ++ n ∷ []) 0, None)
    else Some (LastSeparator eight (ns ++ n ∷ []), None))
    else (if b == 113 then Some (NoCommand, Some (Start eight (record { items = ns ++ n ∷ [] }))) else None)

-- how a byte continues what is open, and the event that it completes
abbrev pub within : Form → ℕ → Option (Form × Option Event)
within NothingYet b =
    if is_filler b then Some (NothingYet, None)
    else (if b == 27 then Some (Introducing, None)
    else (if b == 144 then Some (Parameters true [] 0, None) else None))
within Introducing b = if b == 80 then Some (Parameters false [] 0, None) else None
within (Parameters eight ns n) b =
    if is_digit b then number_next (Parameters eight ns) n b
    else (if nat_lt (length ns) 3 then parameter_end eight ns n b else None)
within (LastSeparator eight ns) b =
    if b == 113 then Some (NoCommand, Some (Start eight (record { items = ns }))) else None
within NoCommand b = begin b
within (RepeatNumber n) b =
    if is_digit b then number_next RepeatNumber n b
    else (if is_data b then Some (NoCommand, Some (Step (Repeat n (b - 63)))) else None)
within (RasterFields ns n) b =
    if is_digit b then number_next (RasterFields ns) n b
    else (if (b == 59) && nat_lt (length ns) 3 then Some (RasterFields (ns ++ n ∷ []) 0, None) else None)
within (ColourFields ns n) b =
    if is_digit b then number_next (ColourFields ns) n b
    else (if (b == 59) && nat_lt (length ns) 4 then Some (ColourFields (ns ++ n ∷ []) 0, None) else None)
within Terminating b = if b == 92 then Some (Ended, Some (Finish false)) else None
within Ended b = if is_filler b then Some (Ended, None) else None

-- if the byte completes nothing: the form after it
abbrev pub only_grown : Option (Form × Option Event) → Option Form
only_grown None = None
only_grown (Some (f, None)) = Some f
only_grown (Some (f, Some event)) = None

-- if the byte completes an event: the form after it, and the event
abbrev pub only_whole : Option (Form × Option Event) → Option (Form × Event)
only_whole None = None
only_whole (Some (f, None)) = None
only_whole (Some (f, Some event)) = Some (f, event)

-- the open command, if it has all its fields, so that the next byte may end it
abbrev pub settled : Form → Option Event
settled (RasterFields [] a) = Some (Step (Raster a 0 0 0))
settled (RasterFields (a ∷ []) b) = Some (Step (Raster a b 0 0))
settled (RasterFields (a ∷ b ∷ []) c) = Some (Step (Raster a b c 0))
settled (RasterFields (a ∷ b ∷ c ∷ []) d) = Some (Step (Raster a b c d))
settled (ColourFields [] a) = Some (Step (Select a))
settled (ColourFields (a ∷ b ∷ c ∷ d ∷ []) e) = Some (Step (Define a b c d e))
settled _ = None

-- whether the byte ends a repeat
abbrev pub ends_repeat : Form → ℕ → Bool
ends_repeat (RepeatNumber n) b = is_data b
ends_repeat _ b = false

-- whether the byte is a single sixel, or ends a repeat
abbrev pub makes_columns : Form → ℕ → Bool
makes_columns NoCommand b = is_data b
makes_columns f b = ends_repeat f b

-- whether the byte is a single sixel, `$` or `-`
abbrev pub makes_command : Form → ℕ → Bool
makes_command NoCommand b = (b == 36) || (b == 45) || is_data b
makes_command _ b = false

-- the command that the byte ends, what is open after it, and the event that it completes
abbrev pub chosen : Option (Form × Option Event) → Option Event → Option (Form × Option Event)
    → Option (Option Event × Form × Option Event)
chosen (Some x) ended y = Some (None, x.0, x.1)
chosen None (Some e) (Some y) = Some (Some e, y.0, y.1)
chosen None (Some e) None = None
chosen None None y = None

abbrev pub next_of : Form → ℕ → Option (Option Event × Form × Option Event)
next_of f b = chosen (within f b) (settled f) (begin b)
