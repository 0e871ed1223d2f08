-- Rows of one colour below a picture.
use Rattle.std.specs.Prelude.{◌≡◌, ◌-◌, ◌*◌, ◌++◌, ℕ, Bool, true, false, List, Option, Some, None, is_none, position}
use Rattle.std.specs.Prelude.{replicate, slice_set}
use Rattle.std.specs.Option.{option_or}
use Rattle.sixel_model.specs.declared.colour.Parts.{Parts}
use Rattle.sixel_model.specs.declared.colour.Parts.TheVariants.{Rgb, Hls}
use Rattle.sixel_model.specs.Colours.{is_entry}
use Rattle.sixel_model.specs.Pictures.{PictureValue, picture_of_parts}

-- the first register that has this colour; if none has it, the first one without a colour
abbrev pub pad_register : Parts → List (Option Parts) → Option ℕ
pad_register pad palette = option_or (position (is_entry pad) palette) (position is_none palette)

-- the picture, and rows of the register below it down to this height. The register gets the colour
abbrev pub with_rows : PictureValue → ℕ → Parts → ℕ → PictureValue
with_rows p height pad register =
    picture_of_parts p.width height (slice_set p.palette register (Some pad))
    (p.registers ++ replicate (p.width * (height - p.height)) register)

-- it is the picture with rows of this colour below it
pub record HasRowsBelow (pad : Parts) (p fitted : PictureValue) : Type 0 where
  pub register : ℕ
  pub takes : pad_register pad p.palette ≡ Some register
  pub is : fitted ≡ with_rows p fitted.height pad register

-- the entry is a colour by hue, lightness and saturation
abbrev pub is_hue : Option Parts → Bool
is_hue (Some (Hls hue lightness saturation)) = true
is_hue (Some (Rgb red green blue)) = false
is_hue None = false
