-- The size of a mended picture.
use Rattle.std.specs.Prelude.{◌≡◌, ◌<◌, ◌≤◌, ℕ, IsTrue, List, max}
use Rattle.std.specs.Option.{option_map_or}
use Rattle.sixel_grammar.specs.declared.command.Event.{Event}
use Rattle.sixel_model.specs.Events.{Attributes}
use Rattle.sixel_model.specs.Positions.{HoldsAtPosition}
use Rattle.sixel_model.specs.Rules.{raster_before}
use Rattle.sixel_terminal.specs.Displays.{Display}
use Rattle.sixel_terminal.specs.Drawing.{touches_on}
use Rattle.sixel_mend.specs.declared.mending.Mending.{Mending}
use Rattle.sixel_mend.specs.Screens.{mending_terminal}

-- some data command touches the point
abbrev pub IsTouched : Display → List Event → ℕ → ℕ → Type 0
IsTouched t events x y = (i : ℕ) × HoldsAtPosition (λ before e. IsTrue (touches_on t before e x y)) events i

-- each point that a data command touches has its column below the width, and its row below the height
abbrev pub Bounds : Display → List Event → ℕ → ℕ → Type 0
Bounds t events width height = (x y : ℕ) → IsTouched t events x y → (x < width) × (y < height)

-- the least width and height that bound the touched points; 0 and 0 if no point is touched
pub record IsExtent (t : Display) (events : List Event) (width height : ℕ) : Type 0 where
  pub bounds : Bounds t events width height
  pub least : (w h : ℕ) → Bounds t events w h → (width ≤ w) × (height ≤ h)

-- the greater of a side of the extent and that of the first raster attributes; without raster attributes, the extent's
abbrev pub side_over : List Event → (Attributes → ℕ) → ℕ → ℕ
side_over events declared extent = option_map_or (λ a. max extent (declared a)) (raster_before events) extent

-- the size of the picture. The terminal has a screen of this size
pub record IsSize (m : Mending) (events : List Event) (width height : ℕ) : Type 0 where
  pub extent_width : ℕ
  pub extent_height : ℕ
  pub extent : IsExtent (mending_terminal m width height) events extent_width extent_height
  pub width_is : width ≡ side_over events (λ a. a.width) extent_width
  pub height_is : height ≡ side_over events (λ a. a.height) extent_height
