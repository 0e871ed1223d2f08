-- The canonical list of events of a picture.
use Rattle.std.specs.Prelude.{◌==◌, ◌&&◌, ◌+◌, ◌*◌, ◌^◌, ℕ, Bool, false, Option, List, [], ◌∷◌, ◌++◌, length, map}
use Rattle.std.specs.Prelude.{replicate, sum_by, filter, flat_map, filter_map, nat_lt, nat_le, not, if◌then◌else◌}
use Rattle.std.specs.Int.{div_ceil}
use Rattle.std.specs.Option.{option_map}
use Rattle.std.specs.List.{range_with_len, list_any, join_by}
use Rattle.sixel_grammar.specs.declared.command.Command.{Command}
use Rattle.sixel_grammar.specs.declared.command.Command.TheVariants.{Sixel, Repeat, Raster, Select, Define}
use Rattle.sixel_grammar.specs.declared.command.Command.TheVariants.{CarriageReturn, NextLine}
use Rattle.sixel_grammar.specs.declared.command.Event.{Event}
use Rattle.sixel_grammar.specs.declared.command.Event.TheVariants.{Start, Step, Finish}
use Rattle.sixel_grammar.specs.FixedText.{fixed_text}
use Rattle.sixel_model.specs.declared.colour.Parts.{Parts}
use Rattle.sixel_model.specs.declared.colour.Parts.TheVariants.{Rgb, Hls}
use Rattle.sixel_model.specs.Colours.{palette_at}
use Rattle.sixel_model.specs.Geometry.{band_rows}
use Rattle.sixel_model.specs.Pictures.{PictureValue, register_of, most_side}

-- the numbers below n, in increasing order
abbrev pub below : ℕ → List ℕ
below n = range_with_len 0 n

-- ---- runs

-- a run of equal items: how many there are, and the item
pub record Run : Type 0 where
  pub count : ℕ
  pub item : ℕ

-- the runs with one more item in front, which lengthens the first run if it is equal
abbrev pub onto_runs : ℕ → List Run → List Run
onto_runs b [] = record { count = 1; item = b } ∷ []
onto_runs b (r ∷ rs) =
    if r.item == b then record { count = r.count + 1; item = b } ∷ rs
    else record { count = 1; item = b } ∷ r ∷ rs

-- the longest runs of equal items
unfoldable pub runs : List ℕ → List Run
runs [] = []
runs (b ∷ bs) = onto_runs b (runs bs)

-- a run of columns with the same bits, as data commands: four or more are one repeat
abbrev pub run_commands : Run → List Command
run_commands r = if nat_le 4 r.count then Repeat r.count r.item ∷ [] else replicate r.count (Sixel r.item)

-- ---- columns

-- this row of the band is in the picture, and its pixel in column x has the register
abbrev pub has_pixel : PictureValue → ℕ → ℕ → ℕ → ℕ → Bool
has_pixel p band register x k =
    nat_lt (band_rows * band + k) p.height && (register_of p x (band_rows * band + k) == register)

-- the bits of a register in a column of a band: bit k is row k of the band
unfoldable pub column_bits : PictureValue → ℕ → ℕ → ℕ → ℕ
column_bits p band register x = sum_by (λ k. if has_pixel p band register x k then 2 ^ k else 0) (below band_rows)

-- some column has a set bit
abbrev pub has_bits : List ℕ → Bool
has_bits columns = list_any (λ bits. not (bits == 0)) columns

-- the columns up to the last one with a set bit
abbrev pub without_blanks : List ℕ → List ℕ
without_blanks [] = []
without_blanks (bits ∷ columns) = if has_bits (bits ∷ columns) then bits ∷ without_blanks columns else []

-- the bits of a register in all columns of a band
abbrev pub all_columns : PictureValue → ℕ → ℕ → List ℕ
all_columns p band register = map (column_bits p band register) (below p.width)

-- the bits of a register in the columns of a band, up to the last one with a set bit
unfoldable pub band_columns : PictureValue → ℕ → ℕ → List ℕ
band_columns p band register = without_blanks (all_columns p band register)

-- ---- bands

-- how many bands of six rows there are; the last one may have fewer rows
abbrev pub bands : PictureValue → ℕ
bands p = div_ceil p.height band_rows

-- the register occurs in the band
unfoldable pub occurs : PictureValue → ℕ → ℕ → Bool
occurs p band register = has_bits (all_columns p band register)

-- the registers that occur in a band, in increasing order
unfoldable pub band_registers : PictureValue → ℕ → List ℕ
band_registers p band = filter (occurs p band) (below (length p.palette))

-- a select, then the columns of the register
unfoldable pub register_commands : PictureValue → ℕ → ℕ → List Command
register_commands p band register = Select register ∷ flat_map run_commands (runs (band_columns p band register))

-- the registers of a band, with a carriage return between two
unfoldable pub band_commands : PictureValue → ℕ → List Command
band_commands p band = join_by (register_commands p band) (CarriageReturn ∷ []) (band_registers p band)

-- ---- the list

-- the definition of a colour: system 1 is hue, lightness and saturation, 2 is red, green and blue
abbrev pub define_command : ℕ → Parts → Command
define_command register (Rgb red green blue) = Define register 2 red green blue
define_command register (Hls hue lightness saturation) = Define register 1 hue lightness saturation

-- a definition for each entry of the palette, in increasing order
unfoldable pub define_commands : List (Option Parts) → List Command
define_commands palette =
    filter_map (λ r. option_map (define_command r) (palette_at palette r)) (below (length palette))

-- the raster attributes, then the definitions, even of entries that no pixel uses
abbrev pub opening_commands : PictureValue → List Command
opening_commands p = Raster 1 1 p.width p.height ∷ define_commands p.palette

-- how many bands the tallest picture has
abbrev pub most_bands : ℕ
most_bands = div_ceil most_side band_rows

-- the bands, with a new line between two
unfoldable pub picture_commands : PictureValue → List Command
picture_commands p = join_by (band_commands p) (NextLine ∷ []) (below (bands p))

-- the opening, then the bands
unfoldable pub canon_commands : PictureValue → List Command
canon_commands p = opening_commands p ++ picture_commands p

-- a 7-bit introducer with the parameters 0 and 1
abbrev pub canon_start : Event
canon_start = Start false (record { items = 0 ∷ 1 ∷ [] })

-- the canonical list of events
unfoldable pub canon : PictureValue → List Event
canon p = canon_start ∷ (map Step (canon_commands p) ++ Finish false ∷ [])

-- ---- texts

-- the fixed spellings of commands, joined
unfoldable pub commands_text : List Command → List ℕ
commands_text commands = fixed_text (map Step commands)

-- the canonical text of a picture
abbrev pub canon_text : PictureValue → List ℕ
canon_text p = fixed_text (canon p)
