-- The class of terminals.
use Rattle.std.specs.Prelude.{◌≡◌, ℕ, ◌+◌, ◌*◌, ◌<◌, ◌≤◌, Bool, List, length}
use Rattle.sixel_model.specs.declared.colour.Parts.{Parts}
use Rattle.sixel_terminal.specs.declared.choices.Choices.{Choices}
use Rattle.sixel_terminal.specs.declared.choices.Ground.{Ground}
use Rattle.sixel_terminal.specs.declared.choices.Ground.TheVariants.{Kept, Filled}

-- a terminal: its choices, the colour that each of its registers starts with, and the colours on its screen, row by row
pub record Display : Type 0 where
  pub choices : Choices
  pub colours : List Parts
  pub screen : List Parts

-- how many registers it has
abbrev pub registers_of : Display → ℕ
registers_of t = length t.colours

-- the same choices, but the terminal clips (true) or doesn't (false)
abbrev pub with_clips : Bool → Choices → Choices
with_clips clips c = record c { clips = clips }

-- the same choices, but with 8-bit controls (true) or without (false)
abbrev pub with_eight_bit : Bool → Choices → Choices
with_eight_bit eight_bit c = record c { eight_bit = eight_bit }

-- the same terminal, but with 8-bit controls (true) or without (false)
abbrev pub with_controls : Bool → Display → Display
with_controls eight_bit t = record t { choices = with_eight_bit eight_bit t.choices }

-- the same terminal, but clipping (true) or not (false)
abbrev pub clipping : Bool → Display → Display
clipping clips t = record t { choices = with_clips clips t.choices }

-- the register of a filled ground is below `registers`
abbrev pub IsGroundBelow : ℕ → Ground → Type 0
IsGroundBelow registers Kept = Unit {0}
IsGroundBelow registers (Filled register) = register < registers

-- the terminal belongs to the class for pictures with `registers` registers: it has so many or more; the register
-- that is selected at the start, and that of a filled ground, are among its own; a repeat of 0 has at most one column,
-- and a bit at least one row; the screen has a colour for each pixel, and the origin is on it. Colours may be out of
-- range
pub record IsInClass (registers : ℕ) (t : Display) : Type 0 where
  pub enough : registers ≤ registers_of t
  pub selected : t.choices.selected < registers_of t
  pub ground : IsGroundBelow (registers_of t) t.choices.ground
  pub zero : t.choices.zero ≤ 1
  pub tall : 1 ≤ t.choices.tall
  pub screen : length t.screen ≡ t.choices.screen_width * t.choices.screen_height
  pub origin_x : t.choices.origin_x < t.choices.screen_width
  pub origin_y : t.choices.origin_y < t.choices.screen_height

-- a box of this size, which begins at the origin, fits on the screen
pub record HasRoom (t : Display) (width height : ℕ) : Type 0 where
  pub across : t.choices.origin_x + width ≤ t.choices.screen_width
  pub down : t.choices.origin_y + height ≤ t.choices.screen_height
