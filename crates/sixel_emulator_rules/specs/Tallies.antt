-- How often the rules count that terminals ask for.
use Rattle.std.specs.Prelude.{◌≡◌, ◌<◌, ℕ, IsTrue, List, Option, Some, None, filter_map, slice_get}
use Rattle.std.specs.Option.{option_map}
use Rattle.sixel_grammar.specs.Document.{events_of}
use Rattle.sixel_grammar.specs.declared.command.Event.{Event}
use Rattle.sixel_grammar.specs.declared.command.Placed.{Placed}
use Rattle.sixel_model.specs.Positions.{HoldsAtPosition, HoldsNowhere}
use Rattle.sixel_model.specs.Rules.{known}
use Rattle.sixel_judge.specs.Counting.{is_below}
use Rattle.sixel_survey.specs.Counting.{HoldsOften}
use Rattle.sixel_emulator_rules.specs.Asked.{BreaksAsked, is_asked}
use Rattle.sixel_emulator_rules.specs.Counts.{in_order}
use Rattle.sixel_emulator_rules.specs.Stale.{IsStale}
use Rattle.sixel_emulator_rules.specs.declared.rule.AskedRule.{AskedRule}
use Rattle.sixel_emulator_rules.specs.declared.rule.AskedRule.TheVariants.{Stale}
use Rattle.sixel_emulator_rules.specs.declared.tally.AskedEntry.{AskedEntry}
use Rattle.sixel_emulator_rules.specs.declared.terminals.Terminals.{Terminals}

-- the rule counts at the event: the event breaks it; `Stale` counts only for registers up to 255, since `Register` tells
-- of a greater one
abbrev pub CountsAsked : AskedRule → List Event → Event → Type 0
CountsAsked Stale before e = IsStale before e × IsTrue (is_below 256 (known before))
CountsAsked rule before e = BreaksAsked rule before e

-- the entry of its rule: the rule counts first at position i, and so often; the entry has the place of the event there
pub record IsAskedEntryAt (placed : List Placed) (entry : AskedEntry) (i : ℕ) : Type 0 where
  pub counts : HoldsAtPosition (CountsAsked entry.rule) (events_of placed) i
  pub none_earlier : (j : ℕ) → j < i → ¬ HoldsAtPosition (CountsAsked entry.rule) (events_of placed) j
  pub place : option_map (λ (p : Placed). p.place) (slice_get placed i) ≡ Some entry.place
  pub often : HoldsOften (CountsAsked entry.rule) (events_of placed) entry.count

-- the entry of the rule, if it is asked for and counts anywhere
abbrev pub IsAskedEntryOf : Terminals → List Placed → AskedRule → Option AskedEntry → Type 0
IsAskedEntryOf t placed rule None = IsTrue (is_asked t rule) → HoldsNowhere (CountsAsked rule) (events_of placed)
IsAskedEntryOf t placed rule (Some entry) =
    IsTrue (is_asked t rule) × (entry.rule ≡ rule) × (i : ℕ) × IsAskedEntryAt placed entry i

-- the entries of the rules that are asked for and count anywhere, in order of number
pub record AreAskedEntries (t : Terminals) (placed : List Placed) (entries : List AskedEntry) : Type 0 where
  pub entry_of : AskedRule → Option AskedEntry
  pub each : (rule : AskedRule) → IsAskedEntryOf t placed rule (entry_of rule)
  pub entries_are : entries ≡ filter_map entry_of in_order
