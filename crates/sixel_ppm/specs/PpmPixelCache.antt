-- The cache of registers by samples. Only contracts of private functions cite these.
use Rattle.std.specs.Prelude.{◌≡◌, ◌⊎◌, ◌<◌, ◌≤◌, ◌+◌, ◌*◌, ◌%◌, ◌/◌, ◌^◌, ℕ, Option, Some, List, [], ◌∷◌, ◌++◌}
use Rattle.std.specs.Prelude.{get_or, length, position, take}
use Rattle.sixel_model.specs.Colours.{is_entry}
use Rattle.sixel_ppm.specs.PpmReading.{colour_of}
use Rattle.sixel_model.specs.declared.colour.Parts.{Parts}
use Rattle.sixel_ppm.specs.declared.ppm.pixel_cache.PixelCache.{PixelCache}

-- the samples of a pixel and its register as one number
abbrev pub entry_of : ℕ → ℕ → ℕ → ℕ → ℕ
entry_of red green blue register = 256 * red + 65536 * green + 16777216 * blue + register

-- the place of a pixel in the cache, by its entry with register 0
unfoldable pub place_of : ℕ → ℕ
place_of key = key * 2654435761 % 2 ^ 32 / 2 ^ 20

-- its second place
unfoldable pub second_of : ℕ → ℕ
second_of key = key * 2654435761 % 2 ^ 32 / 2 ^ 8 % 4096

-- the pixel's samples are at most the maximum, and its register is the first one of its colour
pub record IsHit (maxval : ℕ) (palette : List (Option Parts)) (red green blue register : ℕ) : Type 0 where
  pub good_red : red ≤ maxval
  pub good_green : green ≤ maxval
  pub good_blue : blue ≤ maxval
  pub first : position (is_entry (colour_of maxval red green blue)) palette ≡ Some register

-- one of the two places of the pixel with these samples
abbrev pub IsPlaceOf : ℕ → ℕ → ℕ → ℕ → Type 0
IsPlaceOf red green blue place =
    let key = entry_of red green blue 0 in (place ≡ place_of key) ⊎ (place ≡ second_of key)

-- each register that is in a place of its pixel is correct
pub record Knows (cache : PixelCache) (maxval : ℕ) (palette : List (Option Parts)) : Type 0 where
  pub long : length cache.entries ≡ 4096
  pub hits : (red green blue register place : ℕ) → red < 256 → green < 256 → blue < 256 → register < 256
      → IsPlaceOf red green blue place → get_or cache.entries place 0 ≡ entry_of red green blue register
      → IsHit maxval palette red green blue register

-- the pixels with these samples have these registers
abbrev pub AreHits : ℕ → List (Option Parts) → List ℕ → List ℕ → Type 0
AreHits maxval palette [] [] = Unit {0}
AreHits maxval palette (red ∷ green ∷ blue ∷ samples) (register ∷ registers) =
    IsHit maxval palette red green blue register × AreHits maxval palette samples registers
AreHits maxval palette [] (register ∷ registers) = ⊥
AreHits maxval palette (red ∷ []) registers = ⊥
AreHits maxval palette (red ∷ green ∷ []) registers = ⊥
AreHits maxval palette (red ∷ green ∷ blue ∷ samples) [] = ⊥

-- the registers of the pixels with these samples were appended
abbrev pub PutsHits : ℕ → List (Option Parts) → List ℕ → List ℕ → List ℕ → Type 0
PutsHits maxval palette samples old new =
    (registers : List ℕ) × (new ≡ old ++ registers) × AreHits maxval palette samples registers

-- the `many` bytes at `at` are the same as those at `from`
abbrev pub AreSame : ℕ → ℕ → ℕ → List ℕ → Type 0
AreSame many from at bytes = (i : ℕ) → i < many → get_or bytes (at + i) 0 ≡ get_or bytes (from + i) 0

-- the registers of the pixels from `from` up to `to` were appended to those of the pixels before
abbrev pub GoesOn : PixelCache → List ℕ → ℕ → ℕ → List ℕ → List ℕ → Type 0
GoesOn cache bytes from to old new =
    (maxval : ℕ) (palette : List (Option Parts)) (first : List ℕ) → Knows cache maxval palette
    → PutsHits maxval palette (take (3 * from) bytes) first old
    → PutsHits maxval palette (take (3 * to) bytes) first new
