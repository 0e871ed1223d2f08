-- Measuring a document.
use Rattle.std.specs.Prelude.{ℕ, List}
use Rattle.sixel_grammar.specs.declared.command.Placed.{Placed}
use Rattle.sixel_grammar.specs.Document.{Document, events_of}
use Rattle.sixel_mend.specs.declared.extent.Extent.{Extent}
use Rattle.sixel_mend.specs.Measures.{Measures}

-- these bytes are a document, and the extent is that of its events
abbrev pub HasMeasured : Extent → List ℕ → Type 0
HasMeasured extent bytes = (events : List Placed) × Document events bytes × Measures extent (events_of events)
