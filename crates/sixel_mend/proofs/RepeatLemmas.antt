-- Pixels whose colours were seen.
use Rattle.std.proofs.Common.{◌≡◌, ℕ, true, List, Option, Some, refl, subst, sym}
use Rattle.std.specs.List.{list_any}
use Rattle.sixel_model.specs.Colours.{is_same}
use Rattle.sixel_model.specs.declared.colour.Parts.{Parts}
use Rattle.sixel_ppm.specs.declared.ppm.colours.Colours.{Colours}
use Rattle.sixel_ppm.specs.PpmColours.{Fills, HasRegister}
use Rattle.sixel_ppm.specs.PpmReading.{register_among, with_colour}
use Rattle.sixel_terminal.specs.declared.pixel.Ink.{Ink}
use Rattle.sixel_terminal.specs.Screens.{colour_in_ink}
use Rattle.sixel_mend.specs.declared.numbering.Numbered.{Numbered}
use Rattle.sixel_mend.specs.Numbering.{KnowsLast}

pub seen_before : (seen : List Parts) (colour : Parts) → list_any (is_same colour) seen ≡ true
    → with_colour seen colour ≡ seen
seen_before seen colour any = rw any refl

-- the register of a colour that was seen, and what is known of the last pixel, are those of before
pub seen_again : {c : Colours} {seen : List Parts} (last : Option Numbered) (ink : Ink) (register : ℕ)
    → HasRegister seen (colour_in_ink ink) register → Fills c seen → KnowsLast last seen
    → (register ≡ register_among (with_colour seen (colour_in_ink ink)) (colour_in_ink ink))
    × Fills c (with_colour seen (colour_in_ink ink)) × KnowsLast last (with_colour seen (colour_in_ink ink))
seen_again {c} {seen} last ink register has fills knows =
    subst (λ (s : List Parts). (register ≡ register_among s (colour_in_ink ink)) × Fills c s × KnowsLast last s)
    (sym (seen_before seen (colour_in_ink ink) has.0)) (has.1, fills, knows)

-- the register of a pixel that repeats the last one
pub repeats : {c : Colours} {seen : List Parts} (last : Option Numbered) (ink : Ink) (register : ℕ)
    → last ≡ Some (record { pixel = ink; register = register }) → Fills c seen → KnowsLast last seen
    → (register ≡ register_among (with_colour seen (colour_in_ink ink)) (colour_in_ink ink))
    × Fills c (with_colour seen (colour_in_ink ink)) × KnowsLast last (with_colour seen (colour_in_ink ink))
repeats {seen} last ink register is fills knows =
    let known = subst (λ (o : Option Numbered). KnowsLast o seen) is knows in
    seen_again last ink register known fills knows
