-- Numbering colours. Only contracts of private functions cite these.
use Rattle.std.specs.Prelude.{◌≡◌, ◌≤◌, ◌<◌, ◌-◌, ℕ, IfSome, List, None, Option, Some, length, map, slice_get, take}
use Rattle.sixel_model.specs.declared.colour.Parts.{Parts}
use Rattle.sixel_ppm.specs.PpmColours.{HasRegister}
use Rattle.sixel_ppm.specs.declared.ppm.colours.Colours.{Colours}
use Rattle.sixel_ppm.specs.PpmReading.{distinct}
use Rattle.sixel_ppm.specs.PpmSamples.{HoldsPixels}
use Rattle.sixel_terminal.specs.Screens.{colour_in_ink}
use Rattle.sixel_terminal.specs.declared.pixel.Ink.{Ink}
use Rattle.sixel_mend.specs.declared.numbering.Numbered.{Numbered}
use Rattle.sixel_mend.specs.declared.mending.MendFault.{MendFault}
use Rattle.sixel_mend.specs.declared.mending.MendFault.TheVariants.{OutOfMemory, TooManyColours}

-- TooManyColours: there are more different colours than registers. The only other fault is OutOfMemory
abbrev pub IsNumberingFault : ℕ → List Parts → MendFault → Type 0
IsNumberingFault registers colours TooManyColours = registers < length (distinct colours)
IsNumberingFault registers colours OutOfMemory = Unit {0}
IsNumberingFault registers colours fault = ⊥

-- the last pixel's colour was seen, and has that register
abbrev pub KnowsLast : Option Numbered → List Parts → Type 0
KnowsLast last seen = IfSome last (λ l. HasRegister seen (colour_in_ink l.pixel) l.register)

-- the pixels from one index up to another show the same as this one
abbrev pub AreAll : List Ink → ℕ → ℕ → Ink → Type 0
AreAll pixels from to pixel = (k : ℕ) → from ≤ k → k < to → slice_get pixels k ≡ Some pixel

-- the first pixels are numbered: each has the register of its colour, among those seen in order, and so has the last one
pub record AreNumbered (kept : Colours) (last : Option Numbered) (registers : List ℕ) (pixels : List Ink) (at : ℕ) : Type
    0 where
  pub holds : HoldsPixels kept None 0 registers (length pixels - at) (length pixels)
      (map colour_in_ink (take at pixels))
  pub knows : KnowsLast last (distinct (map colour_in_ink (take at pixels)))
