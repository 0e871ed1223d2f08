-- The pixels of the declared box that the events cover.
use Rattle.std.specs.Prelude.{◌≡◌, ◌*◌, ◌<◌, ℕ, false, Option, Some, None, IsTrue, List, length, is_some}
use Rattle.sixel_grammar.specs.declared.command.Event.{Event}
use Rattle.sixel_model.specs.Events.{Attributes}
use Rattle.sixel_model.specs.Grids.{Grid, cell}
use Rattle.sixel_model.specs.Pictures.{is_side}
use Rattle.sixel_model.specs.Rules.{is_covered, raster_before}
use Rattle.sixel_judge.specs.Counting.{has_box, paints_early}

-- the grid has the size of the box; if no command painted before the box was declared, the pixels that aren't blank are
-- those that some event covers
pub record IsCoverOf (s : Grid) (events : List Event) : Type 0 where
  pub box : Attributes
  pub box_is : raster_before events ≡ Some box
  pub width_is : box.width ≡ s.width
  pub height_is : box.height ≡ s.height
  pub width : IsTrue (is_side s.width)
  pub height : IsTrue (is_side s.height)
  pub pixels : length s.cells ≡ s.width * s.height
  pub covered : paints_early events ≡ false → (x y : ℕ) → x < s.width → y < s.height
      → is_some (cell s x y) ≡ is_covered events x y

-- there is a grid exactly if the box has both sides in range
abbrev pub IsCoverAfter : Option Grid → List Event → Type 0
IsCoverAfter None events = has_box events ≡ false
IsCoverAfter (Some s) events = IsCoverOf s events
