-- Runs of data bytes, each a single sixel.
use Rattle.std.specs.Prelude.{◌≡◌, ℕ, ◌+◌, ◌-◌, ◌<◌, ◌≤◌, List, [], ◌∷◌, ◌++◌, slice_index, Bool, true, false}
use Rattle.sixel_grammar.specs.Bytes.{is_data}
use Rattle.sixel_grammar.specs.Faults.{Form, NoCommand}
use Rattle.sixel_grammar.specs.declared.command.Command.TheVariants.{Sixel}
use Rattle.sixel_grammar.specs.declared.command.Event.TheVariants.{Step}
use Rattle.sixel_grammar.specs.declared.command.Placed.{Placed}
use Rattle.sixel_grammar.specs.declared.reader.Reader.{Reader}
use Rattle.sixel_grammar.specs.Standing.{StandsAfter}

-- the sixels of data bytes, the first one at this offset
abbrev pub sixels_from : ℕ → List ℕ → List Placed
sixels_from place [] = []
sixels_from place (byte ∷ bytes) =
    record { place = place; event = Step (Sixel (byte - 63)) } ∷ sixels_from (place + 1) bytes

-- whatever the reader had read, no reader can take the byte and complete just a sixel
abbrev pub IsNoSixel : Reader → ℕ → Type 0
IsNoSixel old byte =
    (after : Reader) (events : List Placed) (bytes : List ℕ) (place bits : ℕ) → StandsAfter old events bytes →
    StandsAfter after (events ++ record { place = place; event = Step (Sixel bits) } ∷ []) (bytes ++ byte ∷ []) → ⊥

-- the `count` bytes from `from` on are data bytes
abbrev pub AreData : ℕ → ℕ → List ℕ → Type 0
AreData from count bytes = (k : ℕ) → from ≤ k → k < from + count → is_data (slice_index bytes k) ≡ true

-- the `count` bytes from `from` on begin with exactly `data_bytes` data bytes
pub record CountsDataBytes (bytes : List ℕ) (from count data_bytes : ℕ) : Type 0 where
  pub few : data_bytes ≤ count
  pub each : AreData from data_bytes bytes
  pub stops : data_bytes < count → is_data (slice_index bytes (from + data_bytes)) ≡ false

-- whether the byte is a single sixel, by what is open
abbrev pub makes_sixel : Form → ℕ → Bool
makes_sixel NoCommand b = is_data b
makes_sixel _ b = false
