-- What is done to the columns of a run of data bytes.
use Rattle.std.specs.Prelude.{◌≡◌, ℕ, ◌+◌, ◌*◌, ◌-◌, ◌/◌, ◌%◌, ◌<◌, ◌==◌, ◌&&◌, Bool, Some, List, length, slice_index}
use Rattle.std.specs.Prelude.{nat_le, nat_lt, if◌then◌else◌}
use Rattle.std.specs.Int.{bit_at}
use Rattle.sixel_model.specs.Geometry.{band_rows}
use Rattle.sixel_model.specs.Positions.{any_below}
use Rattle.sixel_model.specs.Grids.{Grid, cell, row_by_row}

-- `count` bytes from `from` on are changed by f, which also gets their index among them; all others are as before
pub record AreMapped (from count : ℕ) (f : ℕ → ℕ → ℕ) (old new : List ℕ) : Type 0 where
  pub long : length new ≡ length old
  pub changed : (i : ℕ) → i < length old
      → slice_index new i
      ≡ (if nat_le from i && nat_lt i (from + count) then f (i - from) (slice_index old i) else slice_index old i)

-- the sixels of `count` data bytes from `at` on, and 0 in the lanes after them
pub record AreSixelLanes (bytes : List ℕ) (at count : ℕ) (lanes : List ℕ) : Type 0 where
  pub long : length lanes ≡ 16
  pub each : (j : ℕ) → j < 16
      → slice_index lanes j ≡ (if nat_lt j count then slice_index bytes (at + j) - 63 else 0)

-- the new register of a pixel: painted if its column's sixel has the row's bit, otherwise as before
abbrev pub register_by_sixel : List ℕ → ℕ → ℕ → ℕ → ℕ → ℕ
register_by_sixel sixels bit register j old = if bit_at (slice_index sixels j) bit == 1 then register else old

-- the sixel of column j, if each of the first `count` bytes is one column; 0 in the columns after them
abbrev pub sixel_of : List ℕ → ℕ → ℕ → ℕ
sixel_of bytes count j = if nat_lt j count then slice_index bytes j - 63 else 0

-- the sixel of column j of a run of `count` columns; 0 in the columns after them
abbrev pub run_sixel : ℕ → ℕ → ℕ → ℕ
run_sixel bits count j = if nat_lt j count then bits else 0

-- `count` lanes have the sixel, and the lanes after them have 0
pub record AreEqual (bits count : ℕ) (lanes : List ℕ) : Type 0 where
  pub long : length lanes ≡ 16
  pub each : (j : ℕ) → j < 16 → slice_index lanes j ≡ run_sixel bits count j

-- byte i is in the row of bit k, in one of `count` columns, and the column's sixel has the bit.
-- Each row has `width` bytes
abbrev pub in_row : ℕ → ℕ → ℕ → (ℕ → ℕ) → ℕ → ℕ → Bool
in_row width start count sixel i k =
    (nat_le (start + k * width) i && nat_lt i (start + k * width + count))
    && (bit_at (sixel (i - (start + k * width))) k == 1)

-- in the rows of the first `bits` bits, the pixels of the columns whose sixels have the bit get the register.
-- All others are as before
pub record ArePainted (bits width start count : ℕ) (sixel : ℕ → ℕ) (register : ℕ) (old new : List ℕ) : Type 0 where
  pub long : length new ≡ length old
  pub pixels : (i : ℕ) → i < length old
      → slice_index new i
      ≡ (if any_below bits (in_row width start count sixel i) then register else slice_index old i)

-- the pixel is in the band, in one of `count` columns from `left` on, and the column's sixel has the bit of its row
abbrev pub in_stretch : ℕ → ℕ → ℕ → (ℕ → ℕ) → ℕ → ℕ → Bool
in_stretch left band count sixel x y =
    ((nat_le left x && nat_lt x (left + count)) && (y / band_rows == band))
    && (bit_at (sixel (x - left)) (y % band_rows) == 1)

-- the grid after painting these columns: the pixels of their set bits have the register, and all others are as before
unfoldable pub stretched_grid : Grid → ℕ → ℕ → ℕ → (ℕ → ℕ) → ℕ → Grid
stretched_grid s left band count sixel register = record {
  width = s.width;
  height = s.height;
  cells = row_by_row s.width s.height
      (λ x y. if in_stretch left band count sixel x y then Some register else cell s x y);
}
