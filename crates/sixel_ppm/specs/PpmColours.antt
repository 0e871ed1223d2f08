-- Colours numbered in the order in which they first appear.
use Rattle.std.specs.Prelude.{◌≡◌, ◌<◌, ◌≤◌, ℕ, true, List, Option, None, Some, MatchOption, get_or, length, position}
use Rattle.std.specs.List.{list_any}
use Rattle.sixel_model.specs.Colours.{is_entry, is_same}
use Rattle.sixel_ppm.specs.PpmReading.{palette_of, register_among}
use Rattle.sixel_model.specs.declared.colour.Parts.{Parts}
use Rattle.sixel_ppm.specs.declared.ppm.colours.Colours.{Colours}

-- the palette has exactly these colours, and stores how many
pub record Fills (c : Colours) (seen : List Parts) : Type 0 where
  pub palette : c.palette ≡ palette_of (length c.palette) seen
  pub count : c.count ≡ length seen
  pub few : length seen ≤ length c.palette

-- the register of a colour that was seen; none if there are too many colours
abbrev pub Numbers : Option ℕ → Colours → List Parts → Parts → Type 0
Numbers result new seen colour =
    MatchOption result (length new.palette < length seen)
    (λ register. (register ≡ register_among seen colour) × Fills new seen)

-- the colour was seen, and has this register
abbrev pub HasRegister : List Parts → Parts → ℕ → Type 0
HasRegister seen colour register = (list_any (is_same colour) seen ≡ true) × (register ≡ register_among seen colour)

-- no register from the count on has a colour
abbrev pub IsUnusedFrom : List (Option Parts) → ℕ → Type 0
IsUnusedFrom palette count = (r : ℕ) → count ≤ r → get_or palette r None ≡ None

-- each colour that has a register keeps it
abbrev pub KeepsRegisters : List (Option Parts) → List (Option Parts) → Type 0
KeepsRegisters old new =
    (colour : Parts) (register : ℕ) → position (is_entry colour) old ≡ Some register
    → position (is_entry colour) new ≡ Some register
