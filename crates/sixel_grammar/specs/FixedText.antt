-- The fixed spellings of a list of events, joined.
use Rattle.std.specs.Prelude.{ℕ, ◌+◌, List, [], ◌∷◌, ◌++◌, length}
use Rattle.std.specs.List.{AllByRecursion}
use Rattle.sixel_grammar.specs.declared.command.Event.{Event}
use Rattle.sixel_grammar.specs.declared.command.Placed.{Placed}
use Rattle.sixel_grammar.specs.Spelling.{IsEvent, IsSpellable, fixed_spelling}

abbrev pub fixed_text : List Event → List ℕ
fixed_text [] = []
fixed_text (e ∷ es) = fixed_spelling e ++ fixed_text es

-- the events with their offsets in that text, which begins at offset n
abbrev pub fixed_places : ℕ → List Event → List Placed
fixed_places n [] = []
fixed_places n (e ∷ es) = record { place = n; event = e } ∷ fixed_places (n + length (fixed_spelling e)) es

-- an event that can be written
pub record CanWrite (e : Event) : Type 0 where
  pub is_event : IsEvent e
  pub spellable : IsSpellable e

abbrev pub CanWriteAll : List Placed → Type 0
CanWriteAll events = AllByRecursion (λ (p : Placed). CanWrite p.event) events
