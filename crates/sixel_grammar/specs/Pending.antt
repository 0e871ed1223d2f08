-- What a reader's fields say is open, and what a byte completes.
-- Only `StandsAfter` and contracts of private functions cite these.
use Rattle.std.specs.Prelude.{◌≡◌, ℕ, Bool, true, false, List, Option, Some, None, if◌then◌else◌}
use Rattle.std.specs.Option.{option_map}
use Rattle.sixel_grammar.specs.declared.command.Event.{Event}
use Rattle.sixel_grammar.specs.declared.command.Event.TheVariants as event
use Rattle.sixel_grammar.specs.declared.pending.Open.{Open}
use Rattle.sixel_grammar.specs.declared.pending.Open.TheVariants as kind
use Rattle.sixel_grammar.specs.declared.pending.Pending.{Pending}
use Rattle.sixel_grammar.specs.declared.pending.WholeEvent.{WholeEvent}
use Rattle.sixel_grammar.specs.declared.pending.WholeEvent.TheVariants.{Start, Step, Finish}
use Rattle.sixel_grammar.specs.Faults.{Form, NothingYet, Introducing, Parameters, LastSeparator, NoCommand}
use Rattle.sixel_grammar.specs.Faults.{RepeatNumber, RasterFields, ColourFields, Terminating, Ended}
use Rattle.sixel_grammar.specs.Next.{only_grown, only_whole}

-- what is open, with its numbers
abbrev pub form_by : Open → Bool → List ℕ → List ℕ → ℕ → Form
form_by kind.NothingYet eight ps ns n = NothingYet
form_by kind.Introducing eight ps ns n = Introducing
form_by kind.Parameters eight ps ns n = Parameters eight ps n
form_by kind.LastSeparator eight ps ns n = LastSeparator eight ps
form_by kind.NoCommand eight ps ns n = NoCommand
form_by kind.RepeatNumber eight ps ns n = RepeatNumber n
form_by kind.RasterFields eight ps ns n = RasterFields ns n
form_by kind.ColourFields eight ps ns n = ColourFields ns n
form_by kind.Terminating eight ps ns n = Terminating
form_by kind.Ended eight ps ns n = Ended

abbrev pub form_of : Pending → Form
form_of p = form_by p.form p.eight p.parameters.items p.fields.items p.number

-- whether a number is open
abbrev pub takes_digits : Open → Bool
takes_digits kind.Parameters = true
takes_digits kind.RepeatNumber = true
takes_digits kind.RasterFields = true
takes_digits kind.ColourFields = true
takes_digits _ = false

-- the completed event; a start has the parameters that were read
abbrev pub event_of : WholeEvent → Pending → Event
event_of Start p = event.Start p.eight p.parameters
event_of (Step command) p = event.Step command
event_of (Finish eight) p = event.Finish eight

-- `result` says whether a byte that does this completes nothing; if so, `new` is what is open after it
abbrev pub Grows : Bool → Pending → Option (Form × Option Event) → Type 0
Grows result new does = (if result then Some (form_of new) else None) ≡ only_grown does

-- `result` is the event that a byte that does this completes, if any; then `new` is what is open after it
abbrev pub MakesWhole : Option WholeEvent → Pending → Option (Form × Option Event) → Type 0
MakesWhole result new does =
    option_map (λ (whole : WholeEvent). (form_of new, event_of whole new)) result ≡ only_whole does
