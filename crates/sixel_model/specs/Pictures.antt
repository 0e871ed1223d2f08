-- A picture, as contracts see it.
use Rattle.std.specs.Prelude.{◌≡◌, ◌==◌, ◌&&◌, ℕ, ◌+◌, ◌*◌, Bool, Option, Some, None, IfSome, List, All, length, not}
use Rattle.std.specs.Prelude.{nat_le, nat_lt, is_some, slice_index, if◌then◌else◌}
use Rattle.std.specs.List.{list_all}
use Rattle.sixel_model.specs.Colours.{IsColour, palette_at}
use Rattle.sixel_model.specs.declared.colour.Parts.{Parts}
use Rattle.sixel_model.specs.Profiles.{count_of}
use Rattle.sixel_model.specs.declared.picture.PictureReason.{PictureReason}
use Rattle.sixel_model.specs.declared.picture.PictureReason.TheVariants.{Size, Count, Register, NoColour}
use Rattle.sixel_model.specs.declared.profile.Profile.{Profile}

-- the size in pixels, an optional colour for each register, and a register for each pixel, row by row
pub record PictureValue : Type 0 where
  pub width : ℕ
  pub height : ℕ
  pub palette : List (Option Parts)
  pub registers : List ℕ

-- a picture of these parts
abbrev pub picture_of_parts : ℕ → ℕ → List (Option Parts) → List ℕ → PictureValue
picture_of_parts width height palette registers =
    record { width = width; height = height; palette = palette; registers = registers }

-- the register of the pixel in column x, row y, which must be inside the picture
abbrev pub register_of : PictureValue → ℕ → ℕ → ℕ
register_of p x y = slice_index p.registers (y * p.width + x)

-- the greatest side of a picture, in pixels
abbrev pub most_side : ℕ
most_side = 2048

-- whether a picture may have a side of n pixels: from 1 to `most_side`
abbrev pub is_side : ℕ → Bool
is_side n = nat_le 1 n && nat_le n most_side

-- the first reason why the parts don't make a picture with `count` registers
abbrev pub picture_fault : ℕ → ℕ → ℕ → List (Option Parts) → List ℕ → Option PictureReason
picture_fault count width height palette registers =
    if not (is_side width && is_side height) then Some Size
    else if not (length registers == width * height) then Some Count
    else if not (list_all (λ r. nat_lt r count) registers) then Some Register
    else if not (list_all (λ r. is_some (palette_at palette r)) registers) then Some NoColour
    else None

-- a palette of `count` registers: one entry for each, and each colour is in range
pub record IsPalette (count : ℕ) (palette : List (Option Parts)) : Type 0 where
  pub entries : length palette ≡ count
  pub in_range : All (λ o. IfSome o IsColour) palette

-- a picture with `count` registers: its parts make one
pub record IsPicture (count : ℕ) (p : PictureValue) : Type 0 where
  pub accepted : picture_fault count p.width p.height p.palette p.registers ≡ None
  pub palette : IsPalette count p.palette

-- a palette of a profile
pub record IsAnyPalette (palette : List (Option Parts)) : Type 0 where
  pub profile : Profile
  pub entries : IsPalette (count_of profile) palette

-- a picture with the registers of a profile
pub record IsAnyPicture (p : PictureValue) : Type 0 where
  pub profile : Profile
  pub parts : IsPicture (count_of profile) p
