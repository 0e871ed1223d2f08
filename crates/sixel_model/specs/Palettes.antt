-- The entries of a palette, as a list of optional colours.
use Rattle.std.specs.Prelude.{◌≡◌, ◌==◌, ℕ, List, Option, length, if◌then◌else◌}
use Rattle.sixel_model.specs.Pictures.{IsAnyPalette}
use Rattle.sixel_model.specs.Profiles.{count_of}
use Rattle.sixel_model.specs.declared.colour.Parts.{Parts}
use Rattle.sixel_model.specs.declared.palette.Entries.{Entries}
use Rattle.sixel_model.specs.declared.palette.Entries.TheVariants.{Registers16, Registers256}
use Rattle.sixel_model.specs.declared.profile.Profile.TheVariants as Profile

-- an optional colour for each register
abbrev pub colours_of_entries : Entries → List (Option Parts)
colours_of_entries (Registers16 entries) = entries
colours_of_entries (Registers256 entries) = entries

-- the entries that have these colours
abbrev pub entries_of : List (Option Parts) → Entries
entries_of colours =
    if length colours == count_of Profile.Registers16 then Registers16 colours else Registers256 colours

-- how many registers the entries are for
abbrev pub registers_for : Entries → ℕ
registers_for (Registers16 entries) = count_of Profile.Registers16
registers_for (Registers256 entries) = count_of Profile.Registers256

-- there is an entry for each register, and each colour is in range
pub record AreEntries (entries : Entries) : Type 0 where
  pub whole : length (colours_of_entries entries) ≡ registers_for entries
  pub palette : IsAnyPalette (colours_of_entries entries)
