-- The survey of a list of events with their places.
use Rattle.std.specs.Prelude.{◌≡◌, ◌<◌, ℕ, Option, Some, None, List, [], ◌∷◌, filter_map, slice_get}
use Rattle.std.specs.Option.{option_map}
use Rattle.sixel_grammar.specs.declared.command.Placed.{Placed}
use Rattle.sixel_grammar.specs.Document.{events_of}
use Rattle.sixel_model.specs.Pictures.{PictureValue}
use Rattle.sixel_model.specs.Positions.{HoldsAtPosition, HoldsNowhere}
use Rattle.sixel_model.specs.Rules.{all_rules, picture_left}
use Rattle.sixel_model.specs.declared.rule.Rule.{Rule}
use Rattle.sixel_judge.specs.Verdicts.{IsPixel}
use Rattle.sixel_survey.specs.declared.entry.Entry.{Entry}
use Rattle.sixel_survey.specs.declared.entry.Survey.{Survey}
use Rattle.sixel_judge.specs.Counting.{Counts}
use Rattle.sixel_survey.specs.Counting.{IsHowOften}

-- the entry of its rule: the rule counts first at position i; the entry has the place and the pixel of the event there,
-- and how often the rule counts
pub record IsEntryAt (registers : ℕ) (placed : List Placed) (entry : Entry) (i : ℕ) : Type 0 where
  pub counts : HoldsAtPosition (Counts registers entry.rule) (events_of placed) i
  pub none_earlier : (j : ℕ) → j < i → ¬ HoldsAtPosition (Counts registers entry.rule) (events_of placed) j
  pub place : option_map (λ (p : Placed). p.place) (slice_get placed i) ≡ Some entry.place
  pub pixel : HoldsAtPosition (IsPixel entry.rule entry.pixel) (events_of placed) i
  pub often : IsHowOften registers entry.rule (events_of placed) entry.count

-- the entry of the rule, if the rule counts anywhere
abbrev pub IsEntryOf : ℕ → List Placed → Rule → Option Entry → Type 0
IsEntryOf registers placed rule None = HoldsNowhere (Counts registers rule) (events_of placed)
IsEntryOf registers placed rule (Some entry) = (entry.rule ≡ rule) × (i : ℕ) × IsEntryAt registers placed entry i

-- the size of the picture, if there are no entries
abbrev pub size_if_none : List Entry → PictureValue → Option (ℕ × ℕ)
size_if_none [] p = Some (p.width, p.height)
size_if_none (entry ∷ more) p = None

-- the entries of the rules that count anywhere, in order of number
pub record AreEntries (registers : ℕ) (placed : List Placed) (entries : List Entry) : Type 0 where
  pub entry_of : Rule → Option Entry
  pub each : (rule : Rule) → IsEntryOf registers placed rule (entry_of rule)
  pub entries_are : entries ≡ filter_map entry_of all_rules

-- the survey: the entries, and the size of the picture if there are none
pub record IsSurvey (registers : ℕ) (placed : List Placed) (survey : Survey) : Type 0 where
  pub entries : AreEntries registers placed survey.entries.items
  pub size : survey.size ≡ size_if_none survey.entries.items (picture_left registers (events_of placed))
