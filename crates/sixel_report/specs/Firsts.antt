-- The first of the entries of a survey. Only contracts of private functions cite these.
use Rattle.std.specs.Prelude.{◌≡◌, ◌==◌, ◌&&◌, ◌||◌, ◌≤◌, Bool, List, All, Contains, nat_lt}
use Rattle.sixel_emulator_rules.specs.Asked.{number_of}
use Rattle.sixel_emulator_rules.specs.declared.tally.AskedEntry.{AskedEntry}
use Rattle.sixel_emulator_check.specs.declared.verdict.NamedFinding.{NamedFinding}
use Rattle.sixel_emulator_check.specs.declared.verdict.NamedFinding.TheVariants.{Asked}

-- an entry has a smaller place than another, or the same place and a smaller number
abbrev pub asked_before : AskedEntry → AskedEntry → Bool
asked_before entry other =
    nat_lt entry.place other.place
    || ((entry.place == other.place) && nat_lt (number_of entry.rule) (number_of other.rule))

-- one of the entries: none has a smaller place, and none with this place a smaller number
pub record IsFirstAskedEntry (entries : List AskedEntry) (entry : AskedEntry) : Type 0 where
  pub among : Contains entries entry
  pub least_place : All (λ (e : AskedEntry). entry.place ≤ e.place) entries
  pub least_number : All (λ (e : AskedEntry). e.place ≡ entry.place → number_of entry.rule ≤ number_of e.rule) entries

-- the finding of an entry
abbrev pub asked_finding : AskedEntry → NamedFinding
asked_finding e = Asked (record { rule = e.rule; place = e.place })
