-- The samples of pixels, which `ToRgbx` and `write_ppm_pixels` give, and a table of them by register.
use Rattle.std.specs.Prelude.{◌≡◌, ◌<◌, ℕ, Option, Some, None, List, [], ◌∷◌, get_or, take}
use Rattle.std.specs.List.{flat_map}
use Rattle.sixel_model.specs.Colours.{palette_at}
use Rattle.sixel_model.specs.declared.colour.Parts.{Parts}
use Rattle.sixel_model.specs.declared.colour.Parts.TheVariants.{Rgb, Hls}

-- the samples of an RGB colour, otherwise zeros, and one more byte
abbrev pub rgbx_of : Option Parts → List ℕ
rgbx_of None = 0 ∷ 0 ∷ 0 ∷ 0 ∷ []
rgbx_of (Some (Rgb red green blue)) = red ∷ green ∷ blue ∷ 0 ∷ []
rgbx_of (Some (Hls hue lightness saturation)) = 0 ∷ 0 ∷ 0 ∷ 0 ∷ []

-- each register's entry in the table has the bytes of its palette entry
abbrev pub IsTable : List (Option Parts) → List (List ℕ) → Type 0
IsTable palette table = (r : ℕ) → r < 256 → get_or table r [] ≡ rgbx_of (palette_at palette r)

-- the samples of these pixels, by the four bytes of each
abbrev pub samples_from : {P : Type 0} → (P → List ℕ) → List P → List ℕ
samples_from rgbx pixels = flat_map (λ p. take 3 (rgbx p)) pixels
