-- What the rules need to know of the events so far, and how an event changes it.
use Rattle.std.specs.Prelude.{◌≡◌, ◌==◌, ◌+◌, ◌<◌, ◌≤◌, ◌^◌, ◌&&◌, ℕ, Bool, true, false, not, Option, Some, None}
use Rattle.std.specs.Prelude.{List, length, min, nat_lt, slice_index_or, slice_set, if◌then◌else◌}
use Rattle.std.specs.Option.{option_map, option_map_or}
use Rattle.sixel_grammar.specs.declared.command.Command.TheVariants.{Define}
use Rattle.sixel_grammar.specs.declared.command.Event.{Event}
use Rattle.sixel_grammar.specs.declared.command.Event.TheVariants.{Step}
use Rattle.sixel_model.specs.declared.colour.Parts.{Parts}
use Rattle.sixel_model.specs.declared.colour.Parts.TheVariants.{Rgb as rgb_parts, Hls as hls_parts}
use Rattle.sixel_model.specs.Events.{Attributes, columns_of, is_next_line, is_return, named_by}
use Rattle.sixel_model.specs.Events.{select_of}
use Rattle.sixel_model.specs.Geometry.{band, column}
use Rattle.sixel_model.specs.Positions.{latest}
use Rattle.sixel_model.specs.Rules.{colour_of, known_by, raster_before}
use Rattle.sixel_emulator.specs.Places.{most}
use Rattle.sixel_emulator_rules.specs.Asked as asked
use Rattle.sixel_emulator_rules.specs.Stale.{colour_at_select}
use Rattle.sixel_emulator_rules.specs.declared.notes.Declared.{Declared}
use Rattle.sixel_emulator_rules.specs.declared.notes.Notes.{Notes}
use Rattle.sixel_emulator_rules.specs.declared.shade.Shade.{Shade}
use Rattle.sixel_emulator_rules.specs.declared.shade.Shade.TheVariants.{Rgb, Hls}

-- ---- what is stored

abbrev pub attributes : Declared → Attributes
attributes d = record { pan = d.pan; pad = d.pad; width = d.width; height = d.height }

-- the sides are numbers that a command can have
abbrev pub AreNarrow : Option Declared → Type 0
AreNarrow None = Unit {0}
AreNarrow (Some d) = (d.width < 2 ^ 16) × (d.height < 2 ^ 16)

abbrev pub parts_of : Shade → Parts
parts_of (Rgb x y z) = rgb_parts x y z
parts_of (Hls x y z) = hls_parts x y z

-- the colour that a definition gives
abbrev pub shade_in : ℕ → ℕ → ℕ → ℕ → Option Shade
shade_in system x y z = if system == 1 then Some (Hls x y z) else if system == 2 then Some (Rgb x y z) else None

abbrev pub is_same : Option Shade → Option Shade → Bool
is_same None None = true
is_same (Some (Rgb x y z)) (Some (Rgb u v w)) = (x == u) && ((y == v) && (z == w))
is_same (Some (Hls x y z)) (Some (Hls u v w)) = (x == u) && ((y == v) && (z == w))
is_same _ _ = false

-- the stored colour of a register up to 255
abbrev pub shade_at : List (Option Shade) → ℕ → Option Shade
shade_at shades r = if nat_lt r 256 then slice_index_or shades r None else None

-- the notes after these events
pub record IsNotesAfter (n : Notes) (events : List Event) : Type 0 where
  pub column_is : n.column ≡ min (column 0 events) most
  pub band_is : n.band ≡ min (band events) most
  pub declared_is : option_map attributes n.declared ≡ raster_before events
  pub narrow : AreNarrow n.declared
  pub droppable_is : n.droppable ≡ option_map_or asked.is_droppable (latest (λ (d : Event). Some d) events) false
  pub selected_is : n.selected ≡ latest select_of events
  pub named_is : n.named ≡ latest named_by events
  pub entries : length n.shades ≡ 256
  pub shades_are : (r : ℕ) → r < 256 → option_map parts_of (shade_at n.shades r) ≡ colour_of events r
  pub picked_is : (r : ℕ) → r < 256 → n.selected ≡ Some r → option_map parts_of n.picked ≡ colour_at_select events r
  pub picked_none : (r : ℕ) → 256 ≤ r → n.selected ≡ Some r → n.picked ≡ None

-- ---- how an event changes it

abbrev pub is_droppable : Event → Bool
is_droppable e = asked.is_droppable e

-- so many columns further right
abbrev pub end_of : Notes → ℕ → ℕ
end_of n columns = min (n.column + columns) most

abbrev pub next_column : Notes → Event → ℕ
next_column n e = if is_return e then 0 else end_of n (columns_of 0 e)

abbrev pub next_band : Notes → Event → ℕ
next_band n e = if is_next_line e then min (n.band + 1) most else n.band

abbrev pub next_picked : Notes → Event → Option Shade
next_picked n e = option_map_or (shade_at n.shades) (select_of e) n.picked

abbrev pub next_shades : List (Option Shade) → Event → List (Option Shade)
next_shades shades (Step (Define register system x y z)) =
    if nat_lt register 256 then slice_set shades register (shade_in system x y z) else shades
next_shades shades _ = shades

-- ---- a select, a return, and a new line

abbrev pub selecting : Notes → ℕ → Notes
selecting n r = record n {
  droppable = true;
  selected = Some r;
  named = Some r;
  picked = shade_at n.shades r;
}

abbrev pub returned : Notes → Notes
returned n = record n { column = 0; droppable = false }

abbrev pub lowered : Notes → Notes
lowered n = record n { column = 0; band = min (n.band + 1) most; droppable = false }

-- ---- the colour of the known register

-- it isn't the one that it had when it was selected
abbrev pub stale_in : Notes → Bool
stale_in n = option_map_or (λ r. not (is_same (shade_at n.shades r) n.picked)) (known_by n.selected n.named) false

-- ---- sixels one after the other

-- the notes after so many sixels, one or more
abbrev pub passed : Notes → ℕ → Notes
passed n columns = record n {
  column = end_of n columns;
  droppable = false;
}
