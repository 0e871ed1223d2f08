-- Where a run of columns paints outside a box.
use Rattle.std.specs.Prelude.{◌&&◌, ℕ, ◌+◌, max, nat_le, nat_lt, IsTrue, IsFalse, Option, Some, None, if◌then◌else◌}
use Rattle.sixel_model.specs.Geometry.{covers}
use Rattle.sixel_judge.specs.Verdicts.{IsFirstPixel}

-- the run covers the point (a bit is one row high), and the point lies outside a box of this width and height
pub record PaintsOutside (left count line bits width height x y : ℕ) : Type 0 where
  pub painted : IsTrue (covers left count line 1 bits x y)
  pub outside : IsFalse (nat_lt x width && nat_lt y height)

-- the pixel is the first point in row order for which P holds; None if P holds for no point
abbrev pub IsFirstIfAny : (ℕ → ℕ → Type 0) → Option (ℕ × ℕ) → Type 0
IsFirstIfAny P None = (x y : ℕ) → ¬ P x y
IsFirstIfAny P (Some pixel) = IsFirstPixel P (Some pixel)

-- the first of `count` columns from `left` on that is outside the box in this row: `left` itself in a row below the box
abbrev pub first_column : ℕ → ℕ → ℕ → ℕ → ℕ → Option ℕ
first_column left count row width height =
    if nat_le height row then Some left
    else if nat_lt width (left + count) then Some (max left width)
    else None
