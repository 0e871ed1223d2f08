-- A checker over the bytes of a document.
use Rattle.std.specs.Prelude.{ℕ, List, IsTrue, Result, Ok, Err}
use Rattle.sixel_grammar.specs.Document.{Document}
use Rattle.sixel_grammar.specs.Reading.{Explains}
use Rattle.sixel_grammar.specs.declared.command.Placed.{Placed}
use Rattle.sixel_grammar.specs.declared.fault.InputFault.{InputFault}
use Rattle.sixel_judge.specs.Standing.{CheckerValue, StandsAfter, is_whole}

-- Ok: the bytes are a document, and the checker has seen its events; Err: a grammar fault is the fault of these bytes
abbrev pub HasSeen : ℕ → Result CheckerValue InputFault → List ℕ → Type 0
HasSeen registers (Ok checker) bytes =
    (events : List Placed) × Document events bytes × StandsAfter registers checker events
HasSeen registers (Err fault) bytes = Explains fault bytes

-- the checker has seen a whole list of events
abbrev pub IsWhole : CheckerValue → Type 0
IsWhole checker = (registers : ℕ) × (seen : List Placed) × StandsAfter registers checker seen × IsTrue (is_whole seen)
