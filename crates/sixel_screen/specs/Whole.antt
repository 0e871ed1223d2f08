-- A screen that has the pixels of its sides.
use Rattle.std.specs.Prelude.{◌≡◌, ◌*◌, ℕ, IsTrue, Result, Err, length}
use Rattle.sixel_io.specs.Devices.{one_more}
use Rattle.sixel_ppm.specs.Ppm.{is_file_side}
use Rattle.sixel_png.specs.declared.png.PngFault.{PngFault}
use Rattle.sixel_png.specs.declared.png.PngFault.TheVariants.{Write}
use Rattle.sixel_terminal.specs.Screens.{Shown}

-- each side is from 1 to 4,096 pixels, and there is a colour for each pixel
pub record IsWhole (screen : Shown) : Type 0 where
  pub wide : IsTrue (is_file_side screen.width)
  pub high : IsTrue (is_file_side screen.height)
  pub pixels : length screen.colours ≡ screen.width * screen.height

-- the failures of a sink after a PNG was written, or not
abbrev pub png_failures : {A : Type 0} → Result A PngFault → ℕ → ℕ
png_failures (Err Write) n = one_more n
png_failures result n = n

-- the sink counts a failure exactly if the answer is Write
abbrev pub CountsPng : {A : Type 0} → Result A PngFault → ℕ → ℕ → Type 0
CountsPng result old new = new ≡ png_failures result old
