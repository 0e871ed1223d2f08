-- Where a survey may allocate.
use Rattle.std.specs.Prelude.{◌≡◌, ◌++◌, ℕ, IsSomeAnd, IsTrue, List, None}
use Rattle.sixel_grammar.specs.declared.command.Event.{Event}
use Rattle.sixel_grammar.specs.declared.command.Placed.{Placed}
use Rattle.sixel_grammar.specs.Document.{events_of}
use Rattle.sixel_grammar.specs.Prefixes.{CompleteIn}
use Rattle.sixel_model.specs.Events.{has_sides, raster_of}
use Rattle.sixel_model.specs.Positions.{HoldsAtPosition}
use Rattle.sixel_model.specs.Rules.{raster_before}

-- the event is the first raster attributes, and both sides are in range
pub record DeclaresBox (before : List Event) (e : Event) : Type 0 where
  pub sides : IsSomeAnd (raster_of e) (λ a. IsTrue (has_sides a))
  pub first : raster_before before ≡ None

-- one of the events declares a box in range
abbrev pub DeclareBox : List Placed → Type 0
DeclareBox placed = (i : ℕ) × HoldsAtPosition DeclaresBox (events_of placed) i

-- one of the events that are complete in some viable prefix of the bytes declares a box in range
pub record DeclareBoxIn (bytes : List ℕ) : Type 0 where
  pub prefix : List ℕ
  pub rest : List ℕ
  pub bytes_are : bytes ≡ prefix ++ rest
  pub events : List Placed
  pub complete : CompleteIn events prefix
  pub declares : DeclareBox events
