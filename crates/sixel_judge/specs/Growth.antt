-- Where a checker may allocate.
use Rattle.std.specs.Prelude.{◌≡◌, ◌++◌, ◌∷◌, [], ℕ, None, IsSome, List}
use Rattle.sixel_grammar.specs.declared.command.Event.{Event}
use Rattle.sixel_grammar.specs.declared.command.Placed.{Placed}
use Rattle.sixel_grammar.specs.Document.{events_of}
use Rattle.sixel_grammar.specs.Prefixes.{CompleteIn}
use Rattle.sixel_model.specs.Events.{raster_of}
use Rattle.sixel_model.specs.Positions.{HoldsAtPosition}
use Rattle.sixel_model.specs.Rules.{BreaksNone, last_rule, raster_before}

-- the event is the first raster attributes, and no rule is broken before it or by it
pub record MayGrow (registers : ℕ) (before : List Event) (e : Event) : Type 0 where
  pub declares : IsSome (raster_of e)
  pub first : raster_before before ≡ None
  pub unbroken : BreaksNone registers last_rule (before ++ e ∷ [])

-- a checker may allocate at one of the events
abbrev pub MayGrowAmong : ℕ → List Placed → Type 0
MayGrowAmong registers placed = (i : ℕ) × HoldsAtPosition (MayGrow registers) (events_of placed) i

-- a checker may allocate at one of the events that are complete in some viable prefix of the bytes
pub record MayGrowIn (registers : ℕ) (bytes : List ℕ) : Type 0 where
  pub prefix : List ℕ
  pub rest : List ℕ
  pub bytes_are : bytes ≡ prefix ++ rest
  pub events : List Placed
  pub complete : CompleteIn events prefix
  pub grows : MayGrowAmong registers events
