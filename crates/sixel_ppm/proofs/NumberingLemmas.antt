-- RGB colours in a cache of samples: percentages are samples whose maximum is 100.
use Rattle.std.proofs.Common.{◌≡◌, ℕ, Some, List, arith, refl, sym, subst, ◌∙◌, Option}
use Rattle.std.specs.Prelude.{position}
use Rattle.sixel_model.specs.Colours.{IsColour, is_entry}
use Rattle.sixel_model.specs.declared.colour.Parts.{Parts}
use Rattle.sixel_model.specs.declared.colour.Parts.TheVariants.{Rgb}
use Rattle.sixel_ppm.specs.PpmPixelCache.{IsHit}
use Rattle.sixel_ppm.specs.PpmReading.{colour_of, percent}

percent_of_100 : (v : ℕ) → percent 100 v ≡ v
percent_of_100 v = omega arith

colour_of_100 : (red green blue : ℕ) → colour_of 100 red green blue ≡ Rgb red green blue
colour_of_100 red green blue = rw (percent_of_100 red, percent_of_100 green, percent_of_100 blue) refl

-- a colour that the cache has
pub found : (palette : List (Option Parts)) (colour : Parts) (red green blue register : ℕ)
    → colour ≡ Rgb red green blue → IsHit 100 palette red green blue register
    → position (is_entry colour) palette ≡ Some register
found palette colour red green blue register is hit =
    subst (λ (x : Parts). position (is_entry x) palette ≡ Some register) (colour_of_100 red green blue ∙ sym is)
    hit.first

-- a colour that is put into the cache
pub hit_of : (palette : List (Option Parts)) (colour : Parts) (red green blue register : ℕ)
    → colour ≡ Rgb red green blue → IsColour colour → position (is_entry colour) palette ≡ Some register
    → IsHit 100 palette red green blue register
hit_of palette colour red green blue register is good first =
    let in_range : IsColour (Rgb red green blue) = subst IsColour is good in
    record {
      good_red = in_range.0;
      good_green = in_range.1;
      good_blue = in_range.2;
      first = subst (λ (x : Parts). position (is_entry x) palette ≡ Some register)
          (is ∙ sym (colour_of_100 red green blue)) first;
    }
