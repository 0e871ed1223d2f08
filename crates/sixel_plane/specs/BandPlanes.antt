-- A plane's registers, and its coverage byte for each column of each band, as a grid.
use Rattle.std.specs.Prelude.{◌≡◌, ◌==◌, ℕ, ◌+◌, ◌*◌, ◌/◌, ◌%◌, Bool, IsTrue, List, length, slice_index}
use Rattle.std.specs.Int.{bit_at, div_ceil}
use Rattle.sixel_model.specs.Geometry.{band_rows}
use Rattle.sixel_model.specs.Pictures.{is_side}
use Rattle.sixel_model.specs.Grids.{Grid, grid_of_painted}

-- the coverage byte of the pixel's column and band has the bit of its row
abbrev pub has_coverage_bit : ℕ → List ℕ → ℕ → ℕ → Bool
has_coverage_bit width coverage x y = bit_at (slice_index coverage (y / band_rows * width + x)) (y % band_rows) == 1

abbrev pub grid_of_bands : ℕ → ℕ → List ℕ → List ℕ → Grid
grid_of_bands width height registers coverage = grid_of_painted width height registers (has_coverage_bit width coverage)

-- a register for each pixel, and a coverage byte for each column of each band
pub record AreBands (width height : ℕ) (registers coverage : List ℕ) : Type 0 where
  pub width_in_range : IsTrue (is_side width)
  pub height_in_range : IsTrue (is_side height)
  pub each_pixel : length registers ≡ width * height
  pub each_band : length coverage ≡ width * div_ceil height band_rows
