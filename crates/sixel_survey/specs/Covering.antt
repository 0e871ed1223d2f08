-- Covering the pixels of the box, and counting the blank ones.
use Rattle.std.specs.Prelude.{◌≡◌, ◌*◌, ◌/◌, ◌%◌, ◌<◌, ◌||◌, ℕ, Option, Some, None, count_by, length, is_none, is_some}
use Rattle.std.specs.List.{range_with_len}
use Rattle.sixel_model.specs.Geometry.{covers}
use Rattle.sixel_model.specs.Grids.{Grid, cell}

-- the grid t is s after a run: its pixels aren't blank, and the others are as before
pub record IsCoveredBy (s : Grid) (left count line bits : ℕ) (t : Grid) : Type 0 where
  pub same_width : t.width ≡ s.width
  pub same_height : t.height ≡ s.height
  pub pixels : length s.cells ≡ s.width * s.height → length t.cells ≡ s.width * s.height
  pub covered : (x y : ℕ) → x < s.width → y < s.height
      → is_some (cell t x y) ≡ (covers left count line 1 bits x y || is_some (cell s x y))

-- how many pixels are blank
abbrev pub blank_cells : Grid → ℕ
blank_cells s = count_by (λ i. is_none (cell s (i % s.width) (i / s.width))) (range_with_len 0 (s.width * s.height))

-- how many of the first n pixels of a row are blank
abbrev pub blank_cells_in_row : Grid → ℕ → ℕ → ℕ
blank_cells_in_row s y n = count_by (λ x. is_none (cell s x y)) (range_with_len 0 n)

-- there is a cell for each pixel
abbrev pub AreCells : Grid → Type 0
AreCells s = length s.cells ≡ s.width * s.height

-- the size of the grid in pixels, if there is one
abbrev pub size_in : Option Grid → Option (ℕ × ℕ)
size_in None = None
size_in (Some s) = Some (s.width, s.height)
