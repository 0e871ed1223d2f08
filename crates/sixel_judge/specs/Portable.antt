-- What it means that each terminal shows a picture.
use Rattle.std.specs.Prelude.{◌≡◌, ◌+◌, ◌<◌, ◌≤◌, ℕ, Some, IsSomeAnd, List}
use Rattle.sixel_grammar.specs.declared.command.Event.{Event}
use Rattle.sixel_model.specs.Colours.{palette_at}
use Rattle.sixel_model.specs.Pictures.{PictureValue, register_of}
use Rattle.sixel_model.specs.Rules.{raster_before}
use Rattle.sixel_terminal.specs.Displays.{Display, HasRoom, IsInClass}
use Rattle.sixel_terminal.specs.Drawing.{IsPainted, shown_on}
use Rattle.sixel_judge.specs.declared.verdict.Verdict.{Verdict}
use Rattle.sixel_judge.specs.declared.verdict.Verdict.TheVariants.{Portable, Broken}

-- the pixel lies in a box of this size that begins at the terminal's origin
pub record IsInBoxOn (t : Display) (width height x y : ℕ) : Type 0 where
  pub left : t.choices.origin_x ≤ x
  pub top : t.choices.origin_y ≤ y
  pub right : x < t.choices.origin_x + width
  pub bottom : y < t.choices.origin_y + height

-- after the events the terminal shows the picture's colour at the point, which is relative to the terminal's origin
abbrev pub ShowsAt : Display → List Event → PictureValue → ℕ → ℕ → Type 0
ShowsAt t events p x y =
    palette_at p.palette (register_of p x y)
    ≡ Some (shown_on t events (t.choices.origin_x + x) (t.choices.origin_y + y))

-- after the events the terminal shows the picture in the box at its origin, and no event paints a pixel outside that
-- box, on the screen or off it
pub record Shows (t : Display) (events : List Event) (p : PictureValue) : Type 0 where
  pub inside : (x y : ℕ) → x < p.width → y < p.height → ShowsAt t events p x y
  pub outside : (x y : ℕ) → ¬ IsInBoxOn t p.width p.height x y → ¬ IsPainted t events x y

-- the picture has the size that the first raster attributes declare, and each terminal of the class for this many
-- registers that has room for it shows it
pub record IsPortable (registers : ℕ) (events : List Event) (p : PictureValue) : Type 0 where
  pub size : IsSomeAnd (raster_before events) (λ a. (p.width ≡ a.width) × (p.height ≡ a.height))
  pub shown : (t : Display) → IsInClass registers t → HasRoom t p.width p.height → Shows t events p

-- the picture of a verdict is portable
abbrev pub IsShownEverywhere : ℕ → List Event → Verdict → Type 0
IsShownEverywhere registers events (Portable picture) = IsPortable registers events picture
IsShownEverywhere registers events (Broken finding) = Unit {0}
