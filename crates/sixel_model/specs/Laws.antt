-- What the laws say.
use Rattle.std.specs.Prelude.{◌≡◌, ◌<◌, if◌then◌else◌, ℕ, None, Some}
use Rattle.sixel_model.specs.Geometry.{covers}
use Rattle.sixel_model.specs.Grids.{Grid, blank_grid, cell, painted_grid}

-- no pixel of a blank plane has a register
abbrev pub BlankGridsAreBlank : Type 0
BlankGridsAreBlank = (width height x y : ℕ) → x < width → y < height → cell (blank_grid width height) x y ≡ None

-- after a run its pixels have the register, and all others are as before
abbrev pub RunsPaintTheirPixels : Type 0
RunsPaintTheirPixels =
    (s : Grid) (left band count bits register x y : ℕ) → x < s.width → y < s.height
    → cell (painted_grid s left band count bits register) x y
    ≡ (if covers left count band 1 bits x y then Some register else cell s x y)
