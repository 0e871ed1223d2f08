-- A register and a mark for each pixel, as a grid.
use Rattle.std.specs.Prelude.{◌≡◌, ℕ, ◌+◌, ◌*◌, Bool, false, IsTrue, List, length, slice_index_or}
use Rattle.sixel_model.specs.Pictures.{is_side}
use Rattle.sixel_model.specs.Grids.{Grid, grid_of_painted}

-- the pixel's mark is set
abbrev pub is_marked : ℕ → List Bool → ℕ → ℕ → Bool
is_marked width marks x y = slice_index_or marks (y * width + x) false

abbrev pub grid_of_marks : ℕ → ℕ → List ℕ → List Bool → Grid
grid_of_marks width height registers marks = grid_of_painted width height registers (is_marked width marks)

-- a register and a mark for each pixel
pub record AreMarked (width height : ℕ) (registers : List ℕ) (marks : List Bool) : Type 0 where
  pub width_in_range : IsTrue (is_side width)
  pub height_in_range : IsTrue (is_side height)
  pub each_register : length registers ≡ width * height
  pub each_mark : length marks ≡ width * height
