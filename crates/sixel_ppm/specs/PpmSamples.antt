-- The state of a reading within the samples. Only contracts of private functions cite these.
use Rattle.std.specs.Prelude.{◌≡◌, ◌≤◌, ◌<◌, ℕ, ◌+◌, ◌-◌, ◌*◌, true, Option, Some, None, List, [], ◌∷◌, ◌++◌, length}
use Rattle.std.specs.Prelude.{map, Result, Ok, take}
use Rattle.std.specs.List.{list_any}
use Rattle.sixel_model.specs.Colours.{is_same}
use Rattle.sixel_model.specs.Pictures.{PictureValue}
use Rattle.sixel_ppm.specs.PpmColours.{Fills}
use Rattle.sixel_ppm.specs.PpmPartialPixel.{partial_samples}
use Rattle.sixel_ppm.specs.PpmPixelCache.{PutsHits}
use Rattle.sixel_ppm.specs.PpmReading.{◌>>=◌, at_fault, colour_of, distinct, picture_of, pixels, register_among}
use Rattle.sixel_ppm.specs.PpmReading.{with_colour}
use Rattle.sixel_model.specs.declared.colour.Parts.{Parts}
use Rattle.sixel_ppm.specs.declared.ppm.PpmFault.{PpmFault}
use Rattle.sixel_ppm.specs.declared.ppm.PpmFault.TheVariants.{Format}
use Rattle.sixel_ppm.specs.declared.ppm.PpmReason.TheVariants.{TooManyColours}
use Rattle.sixel_ppm.specs.declared.ppm.colours.Colours.{Colours}
use Rattle.sixel_ppm.specs.declared.ppm.header.Header.{Header}
use Rattle.sixel_ppm.specs.declared.ppm.samples.PartialPixel.{PartialPixel}
use Rattle.sixel_ppm.specs.declared.ppm.samples.PartialPixel.TheVariants.{Nothing, Red, RedGreen}
use Rattle.sixel_ppm.specs.declared.ppm.samples.Pixel.{Pixel}
use Rattle.sixel_ppm.specs.declared.ppm.samples.Samples.{Samples}

-- the pixel's samples are at most the maximum, its colour was seen, and its register is that of the colour
pub record IsKnown (maxval : ℕ) (seen : List Parts) (p : Pixel) : Type 0 where
  pub red : p.red ≤ maxval
  pub green : p.green ≤ maxval
  pub blue : p.blue ≤ maxval
  pub is_seen : list_any (is_same (colour_of maxval p.red p.green p.blue)) seen ≡ true
  pub register : p.register ≡ register_among seen (colour_of maxval p.red p.green p.blue)

abbrev pub KnowsLast : Option Pixel → ℕ → List Parts → Type 0
KnowsLast None maxval seen = Unit {0}
KnowsLast (Some p) maxval seen = IsKnown maxval seen p

-- each of the colours was seen
abbrev pub AllSeen : List Parts → List Parts → Type 0
AllSeen seen [] = Unit {0}
AllSeen seen (c ∷ colours) = (list_any (is_same c) seen ≡ true) × AllSeen seen colours

-- what the state holds after the pixels of these colours, in a picture of `total` pixels
pub record HoldsPixels (kept : Colours) (last : Option Pixel) (maxval : ℕ) (registers : List ℕ) (left total : ℕ)
    (colours : List Parts) : Type 0 where
  pub fills : Fills kept (distinct colours)
  pub knows_last : KnowsLast last maxval (distinct colours)
  pub numbered : registers ≡ map (register_among (distinct colours)) colours
  pub all_seen : AllSeen (distinct colours) colours
  pub whole : length colours + left ≡ total

-- how many registers the palette has
abbrev pub registers_in : Samples → ℕ
registers_in s = length s.colours.palette

abbrev pub Holds : Samples → List Parts → Type 0
Holds s colours = HoldsPixels s.colours s.last s.maxval s.registers.items s.left (s.width * s.height) colours

-- the last pixel has these samples and this register
abbrev pub IsLast : Option Pixel → ℕ → ℕ → ℕ → ℕ → Type 0
IsLast last red green blue register = last
    ≡ Some (record { red = red; green = green; blue = blue; register = register })

-- only the colours, the cache and the last pixel may have changed
pub record KeepsPixels (old new : Samples) : Type 0 where
  pub width : new.width ≡ old.width
  pub height : new.height ≡ old.height
  pub maxval : new.maxval ≡ old.maxval
  pub left : new.left ≡ old.left
  pub place : new.place ≡ old.place
  pub partial : new.partial ≡ old.partial
  pub registers : new.registers.items ≡ old.registers.items

-- a pixel with this register was added; the colours and the last pixel are as before
pub record PutsPixel (old new : Samples) (register : ℕ) : Type 0 where
  pub width : new.width ≡ old.width
  pub height : new.height ≡ old.height
  pub maxval : new.maxval ≡ old.maxval
  pub left : new.left + 1 ≡ old.left
  pub place : new.place ≡ old.place + 3
  pub partial : new.partial ≡ old.partial
  pub last : new.last ≡ old.last
  pub colours : new.colours ≡ old.colours
  pub registers : new.registers.items ≡ old.registers.items ++ register ∷ []

-- `count` pixels with the samples at the beginning of `bytes` were added; the colours and the last pixel are as before
pub record PutsPixels (old new : Samples) (bytes : List ℕ) (count : ℕ) : Type 0 where
  pub width : new.width ≡ old.width
  pub height : new.height ≡ old.height
  pub maxval : new.maxval ≡ old.maxval
  pub left : new.left + count ≡ old.left
  pub place : new.place ≡ old.place + 3 * count
  pub partial : new.partial ≡ old.partial
  pub last : new.last ≡ old.last
  pub colours : new.colours ≡ old.colours
  pub registers : PutsHits old.maxval old.colours.palette (take (3 * count) bytes) old.registers.items
      new.registers.items

-- the pixel's register is that of its colour, among the colours seen, this one included
pub record IsRegistered (old new : Samples) (seen : List Parts) (red green blue register : ℕ) : Type 0 where
  pub same_registers : registers_in new ≡ registers_in old
  pub fills : Fills new.colours seen
  pub knows_last : KnowsLast new.last old.maxval seen
  pub known : IsKnown old.maxval seen (record { red = red; green = green; blue = blue; register = register })

abbrev pub Registers : Samples → Samples → ℕ → ℕ → ℕ → ℕ → Type 0
Registers old new red green blue register =
    (colours : List Parts) → Holds old colours
    → IsRegistered old new (with_colour (distinct colours) (colour_of old.maxval red green blue)) red green blue
    register

-- the colour would be one too many
abbrev pub TooMany : Samples → ℕ → ℕ → ℕ → PpmFault → Type 0
TooMany old red green blue fault =
    (fault ≡ Format TooManyColours old.place)
    × ((colours : List Parts) → Holds old colours
    → registers_in old < length (with_colour (distinct colours) (colour_of old.maxval red green blue)))

-- what the bytes to come make of the reading, after the pixels of these colours
abbrev pub pixels_on : Samples → List Parts → List ℕ → Result PictureValue PpmFault
pixels_on s colours rest = do
  all ← pixels (registers_in s) s.maxval s.left colours s.place rest
  Ok (picture_of (registers_in s) s.width s.height all)

-- the same, with the samples that are held back
abbrev pub samples_on : Samples → List Parts → List ℕ → Result PictureValue PpmFault
samples_on s colours rest = pixels_on s colours (partial_samples s.partial ++ rest)

-- the fault is that of the reading; here it is neither `OutOfMemory` nor one of a device
abbrev pub Refuses : PpmFault → Result PictureValue PpmFault → Type 0
Refuses (Format reason place) result = result ≡ at_fault reason place
Refuses fault result = ⊥

-- reading these samples of whole pixels leads from `old` to `new`
abbrev pub Leads : Samples → Samples → List ℕ → Type 0
Leads old new samples =
    (colours : List Parts) → Holds old colours
    → (more : List Parts) × Holds new more × ((rest : List ℕ)
    → pixels_on old colours (samples ++ rest) ≡ pixels_on new more rest)

-- with these samples the reading ends in this fault, whatever follows
abbrev pub Fails : Samples → PpmFault → List ℕ → Type 0
Fails old fault samples =
    (colours : List Parts) → Holds old colours → (rest : List ℕ)
    → Refuses fault (pixels_on old colours (samples ++ rest))

-- reading these bytes leads from `old` to `new`
abbrev pub LeadsOn : Samples → Samples → List ℕ → Type 0
LeadsOn old new bytes =
    (colours : List Parts) → Holds old colours
    → (more : List Parts) × Holds new more × ((rest : List ℕ)
    → samples_on old colours (bytes ++ rest) ≡ samples_on new more rest)

-- with these bytes the reading ends in this fault, whatever follows
abbrev pub FailsOn : Samples → PpmFault → List ℕ → Type 0
FailsOn old fault bytes =
    (colours : List Parts) → Holds old colours → (rest : List ℕ)
    → Refuses fault (samples_on old colours (bytes ++ rest))

-- the samples held back, with one more that doesn't complete the pixel
abbrev pub IsNextPartial : PartialPixel → ℕ → PartialPixel → Type 0
IsNextPartial Nothing sample partial = partial ≡ Red sample
IsNextPartial (Red red) sample partial = partial ≡ RedGreen red sample
IsNextPartial (RedGreen red green) sample partial = ⊥

-- how many samples are still to come
abbrev pub budget : Samples → ℕ
budget s = 3 * s.left - length (partial_samples s.partial)

-- the bytes before `rest` were read
pub record HasRead (old new : Samples) (bytes rest : List ℕ) : Type 0 where
  pub prefix : List ℕ
  pub joined : bytes ≡ prefix ++ rest
  pub fewer : budget new + length prefix ≡ budget old
  pub leads : LeadsOn old new prefix

-- no sample was read after the header, and there are `count` registers
pub record Begins (count : ℕ) (header : Header) (s : Samples) : Type 0 where
  pub width : s.width ≡ header.width
  pub height : s.height ≡ header.height
  pub maxval : s.maxval ≡ header.maxval
  pub left : s.left ≡ header.width * header.height
  pub place : s.place ≡ header.place
  pub partial : s.partial ≡ Nothing
  pub registers : registers_in s ≡ count
  pub holds : Holds s []
