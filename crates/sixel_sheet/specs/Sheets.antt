-- What the named terminals show, side by side.
use Rattle.std.specs.Prelude.{◌≡◌, ◌==◌, ◌+◌, ◌*◌, ◌&&◌, ◌++◌, ℕ, Bool, true, List, [], ◌∷◌, ◌<◌, ⊤, flat_map}
use Rattle.std.specs.Prelude.{replicate, slice_range, if◌then◌else◌}
use Rattle.std.specs.List.{range_with_len}
use Rattle.sixel_model.specs.declared.colour.Parts.{Parts}
use Rattle.sixel_model.specs.declared.colour.Parts.TheVariants.{Rgb}
use Rattle.sixel_ppm.specs.Ppm.{are_rgb, ppm_text}
use Rattle.sixel_differ.specs.declared.view.View.{View}
use Rattle.sixel_differ.specs.declared.view.View.TheVariants.{Screen, Unmodelled as Ends}
use Rattle.sixel_differ.specs.declared.view.Views.{Views}
use Rattle.sixel_differ.specs.Views.{HasSides}
use Rattle.sixel_report.specs.Texts.{Text}

-- the columns between two screens of a sheet
abbrev pub gap_width : ℕ
gap_width = 8

-- as many grey pixels
abbrev pub grey_pixels : ℕ → List Parts
grey_pixels count = replicate count (Rgb 50 50 50)

-- a row of what a terminal shows; if its model ends, all is grey
abbrev pub row_of : ℕ → ℕ → View → List Parts
row_of width y (Screen screen) = slice_range screen.colours (y * width) (y * width + width)
row_of width y (Ends place) = grey_pixels width

-- the columns before the next screen, and a row of that
abbrev pub next_row : ℕ → ℕ → View → List Parts
next_row width y view = grey_pixels gap_width ++ row_of width y view

-- a row of the four screens, side by side
abbrev pub sheet_row : Views → ℕ → List Parts
sheet_row v y =
    row_of v.width y v.xterm ++ (next_row v.width y v.mlterm ++ (next_row v.width y v.foot
    ++ next_row v.width y v.konsole))

abbrev pub sheet_width : ℕ → ℕ
sheet_width width = 4 * width + 3 * gap_width

-- all rows
abbrev pub sheet_colours : Views → List Parts
sheet_colours v = flat_map (sheet_row v) (range_with_len 0 v.height)

-- whether all that a terminal shows is RGB
abbrev pub is_rgb_view : View → Bool
is_rgb_view (Screen screen) = are_rgb screen.colours
is_rgb_view (Ends place) = true

abbrev pub are_rgb_views : Views → Bool
are_rgb_views v =
    is_rgb_view v.xterm && (is_rgb_view v.mlterm && (is_rgb_view v.foot && is_rgb_view v.konsole))

abbrev pub sheet_text : Views → Text
sheet_text v = ppm_text (sheet_width v.width) v.height (sheet_colours v)

-- a screen has this width, and this row
abbrev pub HasRow : View → ℕ → ℕ → Type 0
HasRow (Screen screen) width y = (height : ℕ) × HasSides screen width height × (y < height)
HasRow (Ends place) width y = Unit {0}
