-- A coverage byte for each column of each band, as a grid whose painted pixels have register 0.
use Rattle.std.specs.Prelude.{◌≡◌, ℕ, ◌*◌, IsTrue, List, [], length}
use Rattle.std.specs.Int.{div_ceil}
use Rattle.sixel_model.specs.Geometry.{band_rows}
use Rattle.sixel_model.specs.Grids.{Grid}
use Rattle.sixel_model.specs.Pictures.{is_side}
use Rattle.sixel_plane.specs.BandPlanes.{grid_of_bands}

abbrev pub grid_of_cover : ℕ → ℕ → List ℕ → Grid
grid_of_cover width height coverage = grid_of_bands width height [] coverage

-- a coverage byte for each column of each band
pub record AreCovers (width height : ℕ) (coverage : List ℕ) : Type 0 where
  pub width_in_range : IsTrue (is_side width)
  pub height_in_range : IsTrue (is_side height)
  pub each_band : length coverage ≡ width * div_ceil height band_rows
