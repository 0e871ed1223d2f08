-- What the laws say.
use Rattle.std.specs.Prelude.{◌≡◌, ◌↔◌, ◌≤◌, ◌<◌, ℕ, List, [], Contains, All, None, Ok, false}
use Rattle.sixel_grammar.specs.declared.command.Placed.{Placed}
use Rattle.sixel_grammar.specs.Document.{Document, events_of}
use Rattle.sixel_model.specs.Rules.{BreaksNone, last_rule}
use Rattle.sixel_judge.specs.declared.verdict.Verdict.{Verdict}
use Rattle.sixel_judge.specs.declared.verdict.Verdict.TheVariants as verdict
use Rattle.sixel_check.specs.Answers.{Answers}
use Rattle.sixel_survey.specs.Laws.{IsFirstFinding}
use Rattle.sixel_survey.specs.declared.entry.Entry.{Entry}
use Rattle.sixel_emulator_rules.specs.Asked.{BreaksNoneAsked, no_rules}
use Rattle.sixel_emulator_rules.specs.Asked as asked
use Rattle.sixel_emulator_rules.specs.declared.tally.AskedEntry.{AskedEntry}
use Rattle.sixel_emulator_rules.specs.declared.terminals.Terminals.{Terminals}
use Rattle.sixel_emulator_check.specs.Answers.{AnswersOn}
use Rattle.sixel_emulator_check.specs.Written.{IsBareOn, IsSpaceOn, IsSurveyOf, IsVerdictOf}
use Rattle.sixel_emulator_check.specs.declared.surveying.NamedSurvey.{NamedSurvey}
use Rattle.sixel_emulator_check.specs.declared.verdict.NamedFinding.{NamedFinding}
use Rattle.sixel_emulator_check.specs.declared.verdict.NamedFinding.TheVariants as finding
use Rattle.sixel_emulator_check.specs.declared.verdict.NamedVerdict.{NamedVerdict}
use Rattle.sixel_emulator_check.specs.declared.verdict.NamedVerdict.TheVariants.{Portable, Broken, Asked}

-- the finding of one of the entries of a survey: none of either list has a smaller place; with this place a rule of
-- portable pictures comes first, and of these or of those asked for the one with the smallest number
abbrev pub IsFirstOf : List Entry → List AskedEntry → NamedFinding → Type 0
IsFirstOf entries more (finding.Portable f) =
    IsFirstFinding entries f × All (λ (e : AskedEntry). f.place ≤ e.place) more
IsFirstOf entries more (finding.Asked f) =
    All (λ (e : Entry). f.place < e.place) entries × (entry : AskedEntry) × Contains more entry
    × (f ≡ record { rule = entry.rule; place = entry.place }) × All (λ (e : AskedEntry). f.place ≤ e.place) more
    × All (λ (e : AskedEntry). e.place ≡ f.place → asked.number_of f.rule ≤ asked.number_of e.rule) more

-- the verdict with this finding
abbrev pub verdict_with : NamedFinding → NamedVerdict
verdict_with (finding.Portable f) = Broken f
verdict_with (finding.Asked f) = Asked f

-- a survey has no entry exactly if no rule is broken
abbrev pub EmptyIfNoneOn : ℕ → Type 0
EmptyIfNoneOn registers =
    (t : Terminals) (bytes : List ℕ) (placed : List Placed) (survey : NamedSurvey)
    → IsSurveyOf registers t bytes placed survey
    → ((survey.entries.items ≡ []) × (survey.asked.items ≡ []))
    ↔ (BreaksNone registers last_rule (events_of placed) × BreaksNoneAsked t (events_of placed)
    × IsBareOn t bytes None × IsSpaceOn t bytes None)

-- the first entry of a survey of a document is the verdict on it
abbrev pub FirstIsVerdictOn : ℕ → Type 0
FirstIsVerdictOn registers =
    (t : Terminals) (placed : List Placed) (bytes : List ℕ) (survey : NamedSurvey) (f : NamedFinding)
    → Document placed bytes → IsSurveyOf registers t bytes placed survey
    → IsFirstOf survey.entries.items survey.asked.items f → IsVerdictOf registers t bytes placed (verdict_with f)

-- ---- no terminal

abbrev pub none : Terminals
none = record { xterm = false; mlterm = false; foot = false; konsole = false; ignored = no_rules }

-- a verdict as one for named terminals
abbrev pub named_verdict : Verdict → NamedVerdict
named_verdict (verdict.Portable picture) = Portable picture
named_verdict (verdict.Broken f) = Broken f

-- what a check answers, a check for no terminal answers too
abbrev pub SameAsCheck : ℕ → Type 0
SameAsCheck registers =
    (bytes : List ℕ) (v : Verdict) → Answers registers (Ok v) bytes
    → AnswersOn registers none (Ok (named_verdict v)) bytes
