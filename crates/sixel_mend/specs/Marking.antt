-- Drawing over a mark: a colour that shows which pixels aren't painted. Only contracts of private functions cite these.
use Rattle.std.specs.Prelude.{◌≡◌, ◌≤◌, ℕ, Bool, false, true, List, Option, length, map, unwrap_or}
use Rattle.std.specs.List.{list_any}
use Rattle.sixel_grammar.specs.declared.command.Placed.{Placed}
use Rattle.sixel_grammar.specs.Document.{Document, events_of}
use Rattle.sixel_model.specs.declared.colour.Parts.{Parts}
use Rattle.sixel_model.specs.declared.colour.Parts.TheVariants.{Hls, Rgb}
use Rattle.sixel_model.specs.Colours.{is_entry, is_same}
use Rattle.sixel_ppm.specs.PpmReading.{distinct, palette_of, register_among}
use Rattle.sixel_mend.specs.declared.mending.Mending.{Mending}
use Rattle.sixel_mend.specs.Painted.{hidden_among, painted_colours}
use Rattle.sixel_mend.specs.Sizes.{IsSize}

abbrev pub is_hls : Parts → Bool
is_hls (Rgb red green blue) = false
is_hls (Hls hue lightness saturation) = true

-- the colours shown if the screen had this colour before anything was painted
abbrev pub over : Parts → List (Option Parts) → List Parts
over background painted = map (λ o. unwrap_or o background) painted

-- the palette has exactly these colours, in the order in which they first appear, and each pixel has its colour's
-- register
pub record IsNumbered (count : ℕ) (palette : List (Option Parts)) (registers : List ℕ) (colours : List Parts) : Type 0
  where
    pub palette_is : palette ≡ palette_of count (distinct colours)
    pub registers_are : registers ≡ map (register_among (distinct colours)) colours
    pub few : length (distinct colours) ≤ count

-- the numbers are those of what is shown over the background, and no painted pixel is hidden there
pub record IsSettled (count : ℕ) (palette : List (Option Parts)) (registers : List ℕ) (background : Parts)
    (painted : List (Option Parts)) : Type 0 where
  pub numbered : IsNumbered count palette registers (over background painted)
  pub none_hidden : hidden_among background painted ≡ 0

-- the screen was drawn over the mark, and if nothing can be painted in HLS, nothing is painted in the mark
pub record IsMarked (mark : Parts) (has_hls : Bool) (painted : List (Option Parts)) (colours : List Parts) : Type 0
  where
    pub colours_are : colours ≡ over mark painted
    pub unpainted : has_hls ≡ false → list_any (is_entry mark) painted ≡ false

-- the screen was drawn over a mark that isn't the background's colour, from these bytes and in their size
pub record IsMarkedScreen (m : Mending) (bytes : List ℕ) (width height : ℕ) (colours : List Parts) : Type 0 where
  pub mark : Parts
  pub other : is_same mark m.background ≡ false
  pub events : List Placed
  pub document : Document events bytes
  pub size : IsSize m (events_of events) width height
  pub colours_are : colours ≡ over mark (painted_colours m (events_of events) width height)
