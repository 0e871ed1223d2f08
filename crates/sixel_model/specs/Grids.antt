-- What contracts see of a plane: its size, and the register of each pixel that is painted.
use Rattle.std.specs.Prelude.{◌≡◌, ℕ, ◌+◌, ◌*◌, ◌/◌, ◌%◌, ◌<◌, Bool, true, false, Option, Some, None, List, is_none}
use Rattle.std.specs.Prelude.{map, slice_get, slice_index, if◌then◌else◌}
use Rattle.std.specs.Option.{MatchOption, option_flatten, option_map}
use Rattle.std.specs.List.{range_with_len, position_from}
use Rattle.sixel_model.specs.Geometry.{covers}

-- f x y for each pixel, row by row
unfoldable pub row_by_row : {A : Type 0} → ℕ → ℕ → (ℕ → ℕ → A) → List A
row_by_row width height f = map (λ i. f (i % width) (i / width)) (range_with_len 0 (width * height))

-- a size in pixels, and an optional register for each pixel, row by row
pub record Grid : Type 0 where
  pub width : ℕ
  pub height : ℕ
  pub cells : List (Option ℕ)

unfoldable pub blank_grid : ℕ → ℕ → Grid
blank_grid width height = record { width = width; height = height; cells = row_by_row width height (λ x y. None) }

-- the register of a pixel, if it isn't blank
unfoldable pub cell : Grid → ℕ → ℕ → Option ℕ
cell s x y = option_flatten (slice_get s.cells (y * s.width + x))

-- the grid after a run: the pixels of its set bits have the register, and all others are as before
unfoldable pub painted_grid : Grid → ℕ → ℕ → ℕ → ℕ → ℕ → Grid
painted_grid s left band count bits register = record {
  width = s.width;
  height = s.height;
  cells = row_by_row s.width s.height (λ x y. if covers left count band 1 bits x y then Some register else cell s x y);
}

-- the column and the row of the first blank pixel in row order
unfoldable pub first_blank : Grid → Option (ℕ × ℕ)
first_blank s = option_map (λ i. (i % s.width, i / s.width)) (position_from is_none 0 s.cells)

-- no pixel is blank
abbrev pub IsFull : Grid → Type 0
IsFull s = first_blank s ≡ None

-- the register of a pixel, if it is painted
abbrev pub painted_cell : ℕ → List ℕ → (ℕ → ℕ → Bool) → ℕ → ℕ → Option ℕ
painted_cell width registers is_painted x y =
    if is_painted x y then Some (slice_index registers (y * width + x)) else None

-- the grid of these registers, one for each pixel, row by row; a pixel that isn't painted is blank
abbrev pub grid_of_painted : ℕ → ℕ → List ℕ → (ℕ → ℕ → Bool) → Grid
grid_of_painted width height registers is_painted =
    record { width = width; height = height; cells = row_by_row width height (painted_cell width registers is_painted) }

-- all pixels of the rows above this one are painted
abbrev pub RowsArePainted : ℕ → (ℕ → ℕ → Bool) → ℕ → Type 0
RowsArePainted width is_painted row = (x y : ℕ) → x < width → y < row → is_painted x y ≡ true

-- the pixel isn't painted, and all before it in row order are
pub record IsFirstUnpainted (width height : ℕ) (is_painted : ℕ → ℕ → Bool) (pixel : ℕ × ℕ) : Type 0 where
  pub inside_x : pixel.0 < width
  pub inside_y : pixel.1 < height
  pub unpainted : is_painted pixel.0 pixel.1 ≡ false
  pub rows_before : RowsArePainted width is_painted pixel.1
  pub columns_before : (x : ℕ) → x < pixel.0 → is_painted x pixel.1 ≡ true

-- the first pixel in row order that isn't painted, if there is one
abbrev pub FirstUnpainted : ℕ → ℕ → (ℕ → ℕ → Bool) → Option (ℕ × ℕ) → Type 0
FirstUnpainted width height is_painted found =
    MatchOption found (RowsArePainted width is_painted height) (IsFirstUnpainted width height is_painted)
