-- What the named terminals show of a document.
use Rattle.std.specs.Prelude.{◌≡◌, ◌≤◌, ◌<◌, ◌+◌, ◌*◌, ◌&&◌, ℕ, IsTrue, List, length}
use Rattle.sixel_grammar.specs.declared.command.Placed.{Placed}
use Rattle.sixel_grammar.specs.Document.{Document, events_of}
use Rattle.sixel_model.specs.declared.colour.Parts.{Parts}
use Rattle.sixel_model.specs.Geometry.{band_rows}
use Rattle.sixel_model.specs.Pictures.{is_side}
use Rattle.sixel_terminal.specs.Screens.{Shown}
use Rattle.sixel_named_terminals.specs.declared.named.Named.{Named}
use Rattle.sixel_named_terminals.specs.declared.named.Named.TheVariants.{XTerm, MlTerm, Foot, Konsole}
use Rattle.sixel_emulator.specs.Modelled.{EndsAtPlace}
use Rattle.sixel_named_terminals.specs.Named.{IsScreenOn, heard_on, model_of}
use Rattle.sixel_mend.specs.declared.mending.Mending.{Mending}
use Rattle.sixel_mend.specs.Sizes.{IsSize}
use Rattle.sixel_differ.specs.declared.view.View.{View}
use Rattle.sixel_differ.specs.declared.view.View.TheVariants.{Screen, Unmodelled}
use Rattle.sixel_differ.specs.declared.view.Views.{Views}

abbrev pub view_in : Views → Named → View
view_in v XTerm = v.xterm
view_in v MlTerm = v.mlterm
view_in v Foot = v.foot
view_in v Konsole = v.konsole

-- the terminal's model says all, and this is its screen
abbrev pub Shows : Views → Named → Shown → Type 0
Shows v named screen = view_in v named ≡ Screen screen

-- the terminal's model ends somewhere
abbrev pub IsUnmodelled : Views → Named → Type 0
IsUnmodelled v named = (place : ℕ) × (view_in v named ≡ Unmodelled place)

-- the screen has these sides, and a colour for each pixel
pub record HasSides (screen : Shown) (width height : ℕ) : Type 0 where
  pub width_is : screen.width ≡ width
  pub height_is : screen.height ≡ height
  pub whole : length screen.colours ≡ width * height

-- each screen has the sides of the views
abbrev pub HaveSides : Views → Type 0
HaveSides v = (named : Named) (screen : Shown) → Shows v named screen → HasSides screen v.width v.height

-- ---- of a document

-- the view of a terminal: its screen after these events, all of the background before; or the offset of the event at
-- which its model ends
abbrev pub IsView : Named → Parts → ℕ × ℕ → List Placed → View → Type 0
IsView named background sides placed (Screen screen) = IsScreenOn named background sides (events_of placed) screen
IsView named background sides placed (Unmodelled place) = EndsAtPlace (model_of named) placed place

-- the least height of whole bands that isn't less
pub record IsInBands (height banded : ℕ) : Type 0 where
  pub bands : ℕ
  pub whole : banded ≡ bands * band_rows
  pub enough : height ≤ banded
  pub least : banded < height + band_rows

-- the views of the document of these bytes. The screens have the size of its mended picture, whatever is chosen for
-- mending, with the height of whole bands
pub record AreViews (background : Parts) (bytes : List ℕ) (v : Views) : Type 0 where
  pub placed : List Placed
  pub document : Document placed bytes
  pub height : ℕ
  pub size : (m : Mending) → IsSize m (events_of placed) v.width height
  pub sides : IsTrue (is_side v.width && is_side height)
  pub banded : IsInBands height v.height
  pub views : (named : Named)
      → IsView named background (v.width, v.height) (heard_on named bytes placed) (view_in v named)
