-- Stretches of sixels that break no rule.
use Rattle.std.specs.Prelude.{◌≡◌, ◌+◌, ◌*◌, ◌<◌, ◌≤◌, ◌⊎◌, ℕ, true, false, Option, Some, IsTrue, List}
use Rattle.std.specs.Prelude.{◌++◌, slice_index, slice_index_or}
use Rattle.sixel_grammar.specs.declared.command.Command.{Command}
use Rattle.sixel_grammar.specs.declared.command.Event.TheVariants.{Step}
use Rattle.sixel_grammar.specs.declared.command.Placed.{Placed}
use Rattle.sixel_model.specs.Geometry.{band_rows}
use Rattle.sixel_model.specs.Grids.{Grid}
use Rattle.sixel_plane.specs.Stretches.{sixel_of, stretched_grid}
use Rattle.sixel_judge.specs.declared.notes.Notes.{Notes}
use Rattle.sixel_judge.specs.Notes.{known_in}
use Rattle.sixel_judge.specs.Standing.{CheckerValue, StandsAfter, expects}
use Rattle.sixel_judge.specs.Verdicts.{capped}

-- any command may come next
abbrev pub MayStep : List Placed → Type 0
MayStep seen = (command : Command) → IsTrue (expects seen (Step command))

-- the checker stands where any command may come next
abbrev pub MayTakeSixels : CheckerValue → Type 0
MayTakeSixels checker = (registers : ℕ) × (seen : List Placed) × StandsAfter registers checker seen × MayStep seen

-- a checker where any command may come next has taken these sixels
abbrev pub TakesSixels : CheckerValue → CheckerValue → List Placed → Type 0
TakesSixels old new sixels = (registers : ℕ) (seen : List Placed) → StandsAfter registers old seen → MayStep seen
    → StandsAfter registers new (seen ++ sixels)

-- the register is known, and a command painted in it
pub record IsPaintedIn (notes : Notes) (register : ℕ) : Type 0 where
  pub known : known_in notes ≡ Some register
  pub low : register < 256
  pub painted : slice_index_or notes.painted register false ≡ true

-- count columns from the current one on lie in the box, with all six rows of their band
pub record Fits (notes : Notes) (count : ℕ) (s : Grid) : Type 0 where
  pub columns : notes.column + count ≤ s.width
  pub rows : band_rows * notes.band + band_rows ≤ s.height

-- the notes after count sixels in a register that was painted in before
abbrev pub moved_by : ℕ → Notes → Notes
moved_by count notes = record notes { column = notes.column + count }

-- the notes and the grid after a painted stretch, which breaks no rule
pub record IsStretched (kept : ℕ → ℕ) (bytes : List ℕ) (count : ℕ) (notes : Notes) (s : Grid)
    (next : Notes) (drawn : Grid) : Type 0 where
  pub register : ℕ
  pub painted_in : IsPaintedIn notes register
  pub fits : Fits notes count s
  pub next_is : next ≡ moved_by count notes
  pub drawn_is : drawn ≡ stretched_grid s notes.column notes.band count (sixel_of bytes count) (kept register)

-- the byte of the sixel without a set bit: `?`
abbrev pub blank_byte : ℕ
blank_byte = 63

-- the first count bytes are sixels without a set bit
abbrev pub AreBlank : List ℕ → ℕ → Type 0
AreBlank bytes count = (k : ℕ) → k < count → slice_index bytes k ≡ blank_byte

-- the notes after count sixels without a set bit
abbrev pub passed_by : ℕ → Notes → Notes
passed_by count notes = record notes { column = capped (notes.column + count) }

-- the notes and the grid after a stretch without a set bit, wherever it lies
pub record IsPassed (bytes : List ℕ) (count : ℕ) (notes : Notes) (s : Grid) (next : Notes) (drawn : Grid)
    :
    Type 0 where
  pub blank : AreBlank bytes count
  pub next_is : next ≡ passed_by count notes
  pub drawn_is : drawn ≡ s

-- one of these two; there is a grid
abbrev pub IsStretchedIn : (ℕ → ℕ) → List ℕ → ℕ → Notes → Option Grid → Notes → Option Grid → Type 0
IsStretchedIn kept bytes count notes (Some s) next (Some drawn) =
    IsStretched kept bytes count notes s next drawn ⊎ IsPassed bytes count notes s next drawn
IsStretchedIn kept bytes count notes _ next _ = ⊥
