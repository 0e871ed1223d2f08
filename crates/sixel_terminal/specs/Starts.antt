-- The colours with which registers start on a VT340.
use Rattle.std.specs.Prelude.{[], ◌∷◌, List}
use Rattle.sixel_model.specs.declared.colour.Parts.{Parts}
use Rattle.sixel_model.specs.declared.colour.Parts.TheVariants.{Rgb}

-- those of a VT340's registers, from register 0 on
abbrev pub vt340_colours : List Parts
vt340_colours =
    Rgb 0 0 0 ∷ Rgb 20 20 80 ∷ Rgb 80 13 13 ∷ Rgb 20 80 20 ∷ Rgb 80 20 80 ∷ Rgb 20 80 80 ∷ Rgb 80 80 20 ∷ Rgb 53 53 53
    ∷ Rgb 26 26 26 ∷ Rgb 33 33 60 ∷ Rgb 60 26 26 ∷ Rgb 33 60 33 ∷ Rgb 60 33 60 ∷ Rgb 33 60 60 ∷ Rgb 60 60 33
    ∷ Rgb 80 80 80 ∷ []
