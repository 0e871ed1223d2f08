-- What the law says of spaces behind the terminator.
use Rattle.std.specs.Prelude.{◌≡◌, ◌↔◌, ◌≤◌, ◌+◌, ◌++◌, ℕ, Bool, true, List, [], ◌∷◌, Some, length, slice_get}
use Rattle.sixel_grammar.specs.Bytes.{terminator}
use Rattle.sixel_grammar.specs.Document.{Document}
use Rattle.sixel_grammar.specs.declared.command.Event.TheVariants.{Finish}
use Rattle.sixel_grammar.specs.declared.command.Placed.{Placed}
use Rattle.sixel_emulator_check.specs.Trailer.{is_space_after}

-- in a document with this finish, the spaces with nothing but filler behind them are all spaces behind its terminator
abbrev pub SpacesAreBehindTheTerminator : Type 0
SpacesAreBehindTheTerminator =
    (bytes : List ℕ) (before : List Placed) (place : ℕ) (eight : Bool)
    → Document (before ++ record { place = place; event = Finish eight } ∷ []) bytes → (i : ℕ)
    → (is_space_after bytes i ≡ true)
    ↔ ((place + length (terminator eight) ≤ i) × (slice_get bytes i ≡ Some 32))
