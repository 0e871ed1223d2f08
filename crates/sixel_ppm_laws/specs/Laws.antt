-- What the laws say.
use Rattle.std.specs.Prelude.{◌≡◌, ℕ, List, Ok, Some, map}
use Rattle.sixel_model.specs.Colours.{palette_at}
use Rattle.sixel_model.specs.Pictures.{PictureValue, IsPicture}
use Rattle.sixel_ppm.specs.Ppm.{colours_of}
use Rattle.sixel_ppm_laws.specs.PpmFiles.{IsPictureFile}
use Rattle.sixel_ppm.specs.PpmReading.{ppm_read}

-- the colours of a picture are those of the registers of its pixels, one for each
abbrev pub PixelsHaveColours : ℕ → Type 0
PixelsHaveColours count =
    (p : PictureValue) → IsPicture count p
    → map (λ c. Some c) (colours_of p) ≡ map (palette_at p.palette) p.registers

-- each file of a picture is read as that picture, and bytes that are read as a picture are a file of it
abbrev pub PictureFilesAreRead : ℕ → Type 0
PictureFilesAreRead registers =
    (bytes : List ℕ) (picture : PictureValue)
    → (IsPictureFile registers picture bytes → ppm_read registers bytes ≡ Ok picture)
    × (ppm_read registers bytes ≡ Ok picture → IsPictureFile registers picture bytes)
