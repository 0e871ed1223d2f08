-- What a measure of konsole's rectangle stores while a document is read.
use Rattle.std.specs.Prelude.{◌≡◌, ◌++◌, List, [], Option, Some, None}
use Rattle.std.specs.Option.{option_to_list}
use Rattle.sixel_grammar.specs.declared.command.Event.{Event}
use Rattle.sixel_grammar.specs.declared.command.Placed.{Placed}
use Rattle.sixel_grammar.specs.Document.{events_of}
use Rattle.sixel_konsole.specs.declared.measuring.Measuring.{Measuring}
use Rattle.sixel_konsole.specs.declared.rectangle.KonsoleMeasure.{KonsoleMeasure}
use Rattle.sixel_konsole.specs.KonsoleMeasured.{HasMeasured}

-- the measure is that of these events, before the one that waits, if there is one
abbrev pub MeasuresBefore : KonsoleMeasure → List Event → Option Event → Type 0
MeasuresBefore m read None = (next : Option Event) → HasMeasured m read next
MeasuresBefore m read (Some e) = HasMeasured m read (Some e)

-- these events were taken, and those before the one that waits are measured
pub record HasTakenAll (m : Measuring) (events : List Event) : Type 0 where
  pub read : List Event
  pub are : events ≡ read ++ option_to_list m.pending
  pub measures : MeasuresBefore m.measure read m.pending

-- the same after any that had taken none at first
abbrev pub HasTakenOn : Measuring → Measuring → List Placed → Type 0
HasTakenOn first now seen = HasTakenAll first [] → HasTakenAll now (events_of seen)
