-- What a document is.
use Rattle.std.specs.Prelude.{◌≡◌, ℕ, ◌+◌, ◌≤◌, IsTrue, List, [], ◌∷◌, ◌++◌, length, map}
use Rattle.std.specs.List.{AllByRecursion}
use Rattle.sixel_grammar.specs.declared.command.Event.{Event}
use Rattle.sixel_grammar.specs.declared.command.Event.TheVariants.{Start, Step, Finish}
use Rattle.sixel_grammar.specs.declared.command.Placed.{Placed}
use Rattle.sixel_grammar.specs.Bytes.{is_filler}
use Rattle.sixel_grammar.specs.Spelling.{Spells}

-- each byte is filler
abbrev pub AreFiller : List ℕ → Type 0
AreFiller bytes = AllByRecursion (λ b. IsTrue (is_filler b)) bytes

-- an event, the bytes that spell it, and the filler before them
pub record Piece : Type 0 where
  pub filler : List ℕ
  pub text : List ℕ
  pub event : Event

-- the text spells the event, after filler
pub record IsPiece (p : Piece) : Type 0 where
  pub filler_is : AreFiller p.filler
  pub spells : Spells p.event p.text

-- the bytes of a piece
abbrev pub bytes_of : Piece → List ℕ
bytes_of p = p.filler ++ p.text

-- the bytes of pieces, joined
abbrev pub joined : List Piece → List ℕ
joined [] = []
joined (p ∷ ps) = bytes_of p ++ joined ps

-- the events of pieces
abbrev pub events_in : List Piece → List Event
events_in [] = []
events_in (p ∷ ps) = p.event ∷ events_in ps

-- the events with their offsets, if the first piece begins at offset n
abbrev pub placed_from : ℕ → List Piece → List Placed
placed_from n [] = []
placed_from n (p ∷ ps) =
    record { place = n + length p.filler; event = p.event } ∷ placed_from (n + length (bytes_of p)) ps

-- commands, then one finish
abbrev pub AreRest : List Event → Type 0
AreRest [] = ⊥
AreRest (Start eight parameters ∷ more) = ⊥
AreRest (Step command ∷ more) = AreRest more
AreRest (Finish eight ∷ more) = more ≡ []

-- a start, commands, and a finish
abbrev pub AreWhole : List Event → Type 0
AreWhole [] = ⊥
AreWhole (Start eight parameters ∷ more) = AreRest more
AreWhole (Step command ∷ more) = ⊥
AreWhole (Finish eight ∷ more) = ⊥

-- the bytes are these pieces and then filler; the pieces are a start, commands and a finish
pub record Parses (pieces : List Piece) (bytes : List ℕ) : Type 0 where
  pub after : List ℕ
  pub bytes_are : bytes ≡ joined pieces ++ after
  pub each : AllByRecursion IsPiece pieces
  pub whole : AreWhole (events_in pieces)
  pub after_is : AreFiller after

-- the greatest length of a document, in bytes
abbrev pub most_bytes : ℕ
most_bytes = 268435456

-- the bytes are a document of these events
pub record Document (events : List Placed) (bytes : List ℕ) : Type 0 where
  pub pieces : List Piece
  pub parses : Parses pieces bytes
  pub events_are : events ≡ placed_from 0 pieces
  pub short : length bytes ≤ most_bytes

-- the bytes are a document of some events
abbrev pub IsDocument : List ℕ → Type 0
IsDocument bytes = (events : List Placed) × Document events bytes

-- the events, without their offsets
abbrev pub events_of : List Placed → List Event
events_of placed = map (λ (p : Placed). p.event) placed
