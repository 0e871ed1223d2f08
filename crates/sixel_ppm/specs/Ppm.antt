-- The text of a picture file, and how writing it changes a sink.
use Rattle.std.specs.Prelude.{ℕ, ◌≡◌, ◌&&◌, Bool, true, false, IsTrue, IsFalse, Result, Ok, Err, List, [], ◌∷◌}
use Rattle.std.specs.Prelude.{◌++◌, codes, decimal, nat_le}
use Rattle.std.specs.List.{filter_map, flat_map, list_all}
use Rattle.sixel_io.specs.Devices.{SinkState, Writes}
use Rattle.sixel_model.specs.Colours.{palette_at}
use Rattle.sixel_model.specs.Pictures.{PictureValue}
use Rattle.sixel_model.specs.declared.colour.Parts.{Parts}
use Rattle.sixel_model.specs.declared.colour.Parts.TheVariants.{Rgb, Hls}
use Rattle.sixel_ppm.specs.declared.ppm.PpmFault.{PpmFault}
use Rattle.sixel_ppm.specs.declared.ppm.PpmFault.TheVariants.{NotRgb, Write}

abbrev pub is_rgb : Parts → Bool
is_rgb (Rgb red green blue) = true
is_rgb (Hls hue lightness saturation) = false

abbrev pub are_rgb : List Parts → Bool
are_rgb colours = list_all is_rgb colours

-- the three bytes of a pixel; an HLS colour has none
abbrev pub samples_of : Parts → List ℕ
samples_of (Rgb red green blue) = red ∷ green ∷ blue ∷ []
samples_of (Hls hue lightness saturation) = []

-- P6, a line feed, the width, a space, the height, a line feed, 100, a line feed
unfoldable pub ppm_header : ℕ → ℕ → List ℕ
ppm_header width height = codes "P6" ++ 10 ∷ decimal width ++ 32 ∷ decimal height ++ 10 ∷ codes "100" ++ 10 ∷ []

-- the header, then the samples of each pixel
unfoldable pub ppm_text : ℕ → ℕ → List Parts → List ℕ
ppm_text width height colours = ppm_header width height ++ flat_map samples_of colours

-- the colours of a picture's pixels, row by row; each pixel has one
abbrev pub colours_of : PictureValue → List Parts
colours_of p = filter_map (palette_at p.palette) p.registers

-- the greatest side of a picture file that is written, in pixels
abbrev pub most_file_side : ℕ
most_file_side = 4096

-- a side of a picture file that is written
abbrev pub is_file_side : ℕ → Bool
is_file_side n = nat_le 1 n && nat_le n most_file_side

-- all colours are RGB, and the text was written, or on `Write` a prefix of it; or some colour isn't RGB, and nothing
-- was done. Writing has no other fault
abbrev pub WritesPpm : {A : Type 0} → Result A PpmFault → SinkState → SinkState → ℕ → ℕ → List Parts → Type 0
WritesPpm {A = A} (Ok x) old new width height colours =
    IsTrue (are_rgb colours) × Writes {A = A} {E = PpmFault} (Ok x) old new (ppm_text width height colours)
WritesPpm {A = A} (Err Write) old new width height colours =
    IsTrue (are_rgb colours) × Writes {A = A} {E = PpmFault} (Err Write) old new (ppm_text width height colours)
WritesPpm (Err NotRgb) old new width height colours = IsFalse (are_rgb colours) × (new ≡ old)
WritesPpm (Err fault) old new width height colours = ⊥
