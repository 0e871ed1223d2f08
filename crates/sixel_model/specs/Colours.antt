-- Colours by their coordinates.
use Rattle.std.specs.Prelude.{ℕ, ◌≤◌, ◌==◌, ◌&&◌, Bool, false, Option, Some, None, List, slice_get, nat_le, min}
use Rattle.std.specs.Prelude.{if◌then◌else◌}
use Rattle.std.specs.Option.{option_flatten}
use Rattle.sixel_model.specs.declared.colour.Parts.{Parts}
use Rattle.sixel_model.specs.declared.colour.Parts.TheVariants.{Rgb, Hls}

-- each coordinate is in range
abbrev pub IsColour : Parts → Type 0
IsColour (Rgb red green blue) = (red ≤ 100) × (green ≤ 100) × (blue ≤ 100)
IsColour (Hls hue lightness saturation) = (hue ≤ 360) × (lightness ≤ 100) × (saturation ≤ 100)

-- the same, as a test
abbrev pub is_colour : Parts → Bool
is_colour (Rgb red green blue) = nat_le red 100 && nat_le green 100 && nat_le blue 100
is_colour (Hls hue lightness saturation) = nat_le hue 360 && nat_le lightness 100 && nat_le saturation 100

-- the colour with these coordinates in a colour system: system 1 is hue, lightness and saturation, system 2 is red,
-- green and blue, and there is no other
abbrev pub colour_in : ℕ → ℕ → ℕ → ℕ → Option Parts
colour_in system x y z = if system == 1 then Some (Hls x y z) else if system == 2 then Some (Rgb x y z) else None

-- the colour with each coordinate moved to the nearest value in range
abbrev pub clamped : Parts → Parts
clamped (Rgb red green blue) = Rgb (min red 100) (min green 100) (min blue 100)
clamped (Hls hue lightness saturation) = Hls (min hue 360) (min lightness 100) (min saturation 100)

-- the colour of a register, if it has one; a palette is a list of optional colours, one for each register
abbrev pub palette_at : List (Option Parts) → ℕ → Option Parts
palette_at palette register = option_flatten (slice_get palette register)

-- whether two colours are the same: the same system and the same coordinates
abbrev pub is_same : Parts → Parts → Bool
is_same (Rgb red green blue) (Rgb r g b) = (red == r) && (green == g) && (blue == b)
is_same (Hls hue lightness saturation) (Hls h l s) = (hue == h) && (lightness == l) && (saturation == s)
is_same (Rgb red green blue) (Hls h l s) = false
is_same (Hls hue lightness saturation) (Rgb r g b) = false

-- whether an entry of a palette is this colour
abbrev pub is_entry : Parts → Option Parts → Bool
is_entry colour None = false
is_entry colour (Some other) = is_same colour other
