-- Where two screens of the same sides differ. Columns and rows are from 0.
use Rattle.std.specs.Prelude.{◌≡◌, ◌≢◌, ◌⊎◌, ◌<◌, ◌+◌, ◌*◌, ◌==◌, ◌||◌, ℕ, Bool, List, Option, length, slice_get}
use Rattle.std.specs.Prelude.{if◌then◌else◌}
use Rattle.std.specs.Option.{option_map}
use Rattle.sixel_model.specs.declared.colour.Parts.{Parts}
use Rattle.sixel_model.specs.declared.colour.Parts.TheVariants.{Rgb, Hls}
use Rattle.sixel_terminal.specs.Screens.{Shown, colour_in_ink}
use Rattle.sixel_terminal.specs.declared.pixel.Ink.{Ink}

-- a hue of this lightness and saturation is a grey
abbrev pub is_grey : ℕ → ℕ → Bool
is_grey lightness saturation = (saturation == 0) || (lightness == 0) || (lightness == 100)

-- what is seen of a colour: of a grey only its lightness
abbrev pub seen_of : Parts → Parts
seen_of (Rgb red green blue) = Rgb red green blue
seen_of (Hls hue lightness saturation) =
    if is_grey lightness saturation then Hls 0 lightness 0 else Hls hue lightness saturation

-- the colour of the pixel in this column and row
abbrev pub colour_at : Shown → ℕ → ℕ → Option Parts
colour_at s x y = slice_get s.colours (y * s.width + x)

-- what is seen of it
abbrev pub seen_at : Shown → ℕ → ℕ → Option Parts
seen_at s x y = option_map seen_of (colour_at s x y)

-- one colour is seen at each pixel of the screens
abbrev pub AreAlike : Shown → Shown → Type 0
AreAlike a b = (x y : ℕ) → x < a.width → y < a.height → seen_at a x y ≡ seen_at b x y

-- the pixel in this column and row comes before the one at x and y, row by row: it is in an earlier row, or further
-- left in the same one
abbrev pub ComesBefore : (column row x y : ℕ) → Type 0
ComesBefore column row x y = (row < y) ⊎ ((row ≡ y) × (column < x))

-- this is the first pixel, row by row, in which the screens differ
pub record DifferFirstAt (a b : Shown) (x y : ℕ) : Type 0 where
  pub column : x < a.width
  pub row : y < a.height
  pub differ : seen_at a x y ≢ seen_at b x y
  pub before : (u v : ℕ) → u < a.width → v < a.height → ComesBefore u v x y → seen_at a u v ≡ seen_at b u v

-- ---- pixels by their index. Only contracts of private functions cite these

-- what is seen of an ink's colour
abbrev pub seen_in : Ink → Parts
seen_in ink = seen_of (colour_in_ink ink)

-- what is seen of the pixel with this index
abbrev pub seen_in_pixel : List Ink → ℕ → Option Parts
seen_in_pixel pixels k = option_map seen_in (slice_get pixels k)

-- the pixels below an index look the same
abbrev pub AreSameBelow : List Ink → List Ink → ℕ → Type 0
AreSameBelow a b n = (k : ℕ) → k < n → seen_in_pixel a k ≡ seen_in_pixel b k

-- this is the index of the first pixels that don't look the same
pub record IsFirstUnlike (a b : List Ink) (at : ℕ) : Type 0 where
  pub within : at < length a
  pub unlike : seen_in_pixel a at ≢ seen_in_pixel b at
  pub before : AreSameBelow a b at
