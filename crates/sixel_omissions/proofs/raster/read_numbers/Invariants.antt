use Rattle.std.proofs.Common.{◌≡◌, ◌≤◌, ◌+◌, ◌++◌, ℕ, List, take}
use Rattle.sixel_omissions.specs.Rasters.{AreNumeric, written_of}
use Rattle.sixel_omissions.proofs.raster.read_numbers.Given as goal

abbrev pub invariant-loop-at : goal.invariant-loop-at
invariant-loop-at l =
    (l.raster.separators ≤ l.fn.raster.separators + l.at)
    × ((place : ℕ) (numbers : List ℕ) → AreNumeric numbers → l.fn.raster ≡ written_of place numbers
    → AreNumeric (numbers ++ take l.at l.bytes) × (l.raster ≡ written_of place (numbers ++ take l.at l.bytes)))
