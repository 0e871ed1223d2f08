-- The pixels of a screen as numbers of four bytes.
use Rattle.std.specs.Prelude.{◌≡◌, ◌==◌, ◌<◌, ◌≤◌, ◌^◌, ◌+◌, ◌-◌, ◌*◌, ◌/◌, ◌%◌, ◌∷◌, [], ℕ, Bool, true, false, List}
use Rattle.std.specs.Prelude.{Option, Some, None, IsSome, slice_index_or, if◌then◌else◌}
use Rattle.sixel_model.specs.declared.colour.Parts.TheVariants.{Rgb, Hls}
use Rattle.sixel_model.specs.Colours.{IsColour}
use Rattle.sixel_terminal.specs.Canvases.{black}
use Rattle.sixel_terminal.specs.declared.pixel.Ink.{Ink}
use Rattle.sixel_terminal.specs.declared.pixel.Ink.TheVariants.{Fixed, Bound}

-- four bytes as a number, the lowest first
abbrev pub packed : ℕ → ℕ → ℕ → ℕ → ℕ
packed a b c highest = a + 256 * (b + 256 * (c + 256 * highest))

-- the number of an ink
abbrev pub code_of : Ink → ℕ
code_of (Fixed (Rgb red green blue)) = packed red green blue 0
code_of (Fixed (Hls hue lightness saturation)) = packed (hue % 256) lightness saturation (1 + hue / 256)
code_of (Bound register) = packed (register % 256) (register / 256) 0 3

-- the ink whose number has these bytes
abbrev pub ink_of_bytes : ℕ → ℕ → ℕ → ℕ → Ink
ink_of_bytes a b c highest =
    if highest == 0 then Fixed (Rgb a b c)
    else if highest == 3 then Bound (a + 256 * b)
    else Fixed (Hls (a + 256 * (highest - 1)) b c)

-- the ink with this number
unfoldable pub ink_of : ℕ → Ink
ink_of code = ink_of_bytes (code % 256) (code / 256 % 256) (code / 65536 % 256) (code / 16777216)

-- the bytes of an ink, the lowest first
abbrev pub bytes_of : Ink → List ℕ
bytes_of (Fixed (Rgb red green blue)) = red ∷ green ∷ blue ∷ 0 ∷ []
bytes_of (Fixed (Hls hue lightness saturation)) = (hue % 256) ∷ lightness ∷ saturation ∷ (1 + hue / 256) ∷ []
bytes_of (Bound register) = (register % 256) ∷ (register / 256) ∷ 0 ∷ 3 ∷ []

-- the ink is an RGB colour
abbrev pub is_rgb_ink : Ink → Bool
is_rgb_ink (Fixed (Rgb red green blue)) = true
is_rgb_ink (Fixed (Hls hue lightness saturation)) = false
is_rgb_ink (Bound register) = false

-- the register whose colour an ink shows, if it shows one
abbrev pub register_in_ink : Ink → Option ℕ
register_in_ink (Fixed colour) = None
register_in_ink (Bound register) = Some register

-- this ink of a list is a register's
abbrev pub IsBoundAt : List Ink → ℕ → Type 0
IsBoundAt inks at = IsSome (register_in_ink (slice_index_or inks at black))

-- the inks of a list from one index up to another are registers'
abbrev pub AreBoundIn : List Ink → ℕ → ℕ → Type 0
AreBoundIn inks from to = (i : ℕ) → from ≤ i → i < to → IsBoundAt inks i

-- the inks of a list from one index up to another are this one
abbrev pub AreAlikeIn : List Ink → ℕ → ℕ → Ink → Type 0
AreAlikeIn inks from to ink = (i : ℕ) → from ≤ i → i < to → slice_index_or inks i black ≡ ink

-- the colour is in range, and the register a `u16`
abbrev pub IsInk : Ink → Type 0
IsInk (Fixed colour) = IsColour colour
IsInk (Bound register) = register < 2 ^ 16

-- the number is that of an ink
pub record IsInkCode (code : ℕ) : Type 0 where
  pub same : code ≡ code_of (ink_of code)
  pub ink : IsInk (ink_of code)
