-- What a tallying has counted while a document is read.
use Rattle.std.specs.Prelude.{◌≡◌, ◌++◌, ◌+◌, ◌-◌, ◌<◌, ℕ, Bool, true, false, IsTrue, List, [], Option, Some, None}
use Rattle.std.specs.Prelude.{length, slice_get, slice_set}
use Rattle.std.specs.List.{fold}
use Rattle.std.specs.Option.{option_flatten, option_map}
use Rattle.sixel_grammar.specs.Document.{events_of}
use Rattle.sixel_grammar.specs.declared.command.Event.{Event}
use Rattle.sixel_grammar.specs.declared.command.Placed.{Placed}
use Rattle.sixel_model.specs.Positions.{HoldsAtPosition, HoldsNowhere}
use Rattle.sixel_judge.specs.Verdicts.{capped}
use Rattle.sixel_survey.specs.Counting.{HoldsOften}
use Rattle.sixel_emulator_rules.specs.Asked.{is_asked, number_of}
use Rattle.sixel_emulator_rules.specs.Counts.{asked_in, in_order}
use Rattle.sixel_emulator_rules.specs.Notes.{IsNotesAfter}
use Rattle.sixel_emulator_rules.specs.Tallies.{CountsAsked}
use Rattle.sixel_emulator_rules.specs.declared.notes.Notes.{Notes}
use Rattle.sixel_emulator_rules.specs.declared.rule.AskedRule.{AskedRule}
use Rattle.sixel_emulator_rules.specs.declared.tally.AskedEntry.{AskedEntry}
use Rattle.sixel_emulator_rules.specs.declared.tallying.Tallying.{Tallying}
use Rattle.sixel_emulator_rules.specs.declared.terminals.Terminals.{Terminals}

-- ---- one more event

-- the tally of the rule in a list of tallies, in order of number
abbrev pub tally_in : List (Option AskedEntry) → AskedRule → Option AskedEntry
tally_in tallies rule = option_flatten (slice_get tallies (number_of rule - 14))

-- the tally after one more event with this offset, at which the rule counts or not
abbrev pub next_tally : AskedRule → ℕ → Bool → Option AskedEntry → Option AskedEntry
next_tally rule place false tally = tally
next_tally rule place true None = Some (record { rule = rule; count = 1; place = place })
next_tally rule place true (Some tally) = Some (record tally { count = capped (tally.count + 1) })

-- the tallies after the event was counted for the rule
abbrev pub tallied : Terminals → Notes → ℕ → Event → List (Option AskedEntry) → AskedRule → List (Option AskedEntry)
tallied t n place e tallies rule =
    slice_set tallies (number_of rule - 14) (next_tally rule place (asked_in t n e rule) (tally_in tallies rule))

-- the tallies after it was counted for each rule
abbrev pub tallied_each : Terminals → Notes → ℕ → Event → List (Option AskedEntry) → List (Option AskedEntry)
tallied_each t n place e tallies = fold (tallied t n place e) tallies in_order

-- ---- what is kept while events come

-- the first position at which the rule of the tally counts, and the number of positions, capped
pub record IsAskedTallyAt (placed : List Placed) (tally : AskedEntry) (i : ℕ) : Type 0 where
  pub counts : HoldsAtPosition (CountsAsked tally.rule) (events_of placed) i
  pub none_earlier : (j : ℕ) → j < i → ¬ HoldsAtPosition (CountsAsked tally.rule) (events_of placed) j
  pub place : option_map (λ (p : Placed). p.place) (slice_get placed i) ≡ Some tally.place
  pub often : ℕ
  pub holds_often : HoldsOften (CountsAsked tally.rule) (events_of placed) often
  pub count_is : tally.count ≡ capped often

-- the tally of the rule, if it is asked for and counts anywhere
abbrev pub IsAskedTallyOf : Terminals → List Placed → AskedRule → Option AskedEntry → Type 0
IsAskedTallyOf t placed rule None = IsTrue (is_asked t rule) → HoldsNowhere (CountsAsked rule) (events_of placed)
IsAskedTallyOf t placed rule (Some tally) =
    IsTrue (is_asked t rule) × (tally.rule ≡ rule) × (i : ℕ) × IsAskedTallyAt placed tally i

-- these events were taken
pub record HasTallied (tallying : Tallying) (placed : List Placed) : Type 0 where
  pub notes_are : IsNotesAfter tallying.notes (events_of placed)
  pub rules : length tallying.tallies ≡ 11
  pub each : (rule : AskedRule) → IsAskedTallyOf tallying.terminals placed rule (tally_in tallying.tallies rule)

-- the same after any that had taken none at first, for the same terminals
abbrev pub HasTalliedOn : Tallying → Tallying → List Placed → Type 0
HasTalliedOn first now seen = (now.terminals ≡ first.terminals) × (HasTallied first [] → HasTallied now seen)

-- what had taken some events has now taken those and `more`, for the same terminals
abbrev pub TalliesOn : Tallying → Tallying → List Placed → Type 0
TalliesOn old new more =
    (new.terminals ≡ old.terminals) × ((seen : List Placed) → HasTallied old seen → HasTallied new (seen ++ more))
