-- What the laws say.
use Rattle.std.specs.Prelude.{◌≡◌, ◌≢◌, ◌↔◌, ◌≤◌, ◌==◌, ◌&&◌, ◌||◌, ℕ, Bool, List, [], All, Contains, nat_lt}
use Rattle.sixel_grammar.specs.declared.command.Placed.{Placed}
use Rattle.sixel_grammar.specs.Document.{Document, events_of}
use Rattle.sixel_model.specs.Rules.{BreaksNone, last_rule, number_of}
use Rattle.sixel_judge.specs.declared.verdict.Finding.{Finding}
use Rattle.sixel_judge.specs.declared.verdict.Verdict.TheVariants.{Broken}
use Rattle.sixel_judge.specs.Verdicts.{IsVerdict}
use Rattle.sixel_survey.specs.declared.entry.Entry.{Entry}
use Rattle.sixel_survey.specs.declared.entry.Survey.{Survey}
use Rattle.sixel_survey.specs.Surveys.{IsSurvey}

-- one of the entries: none has a smaller place, and none with this place a smaller number
pub record IsFirstEntry (entries : List Entry) (entry : Entry) : Type 0 where
  pub among : Contains entries entry
  pub least_place : All (λ (e : Entry). entry.place ≤ e.place) entries
  pub least_number : All (λ (e : Entry). e.place ≡ entry.place → number_of entry.rule ≤ number_of e.rule) entries

-- an entry has a smaller place than another, or the same place and a smaller number
abbrev pub comes_before : Entry → Entry → Bool
comes_before entry other =
    nat_lt entry.place other.place
    || ((entry.place == other.place) && nat_lt (number_of entry.rule) (number_of other.rule))

-- the rule, the place and the pixel of an entry
abbrev pub finding_of : Entry → Finding
finding_of entry = record { rule = entry.rule; place = entry.place; pixel = entry.pixel }

-- the finding of the first entry
abbrev pub IsFirstFinding : List Entry → Finding → Type 0
IsFirstFinding entries finding = (entry : Entry) × IsFirstEntry entries entry × (finding ≡ finding_of entry)

-- the survey is empty exactly if no rule is broken
abbrev pub EmptyIfNone : ℕ → Type 0
EmptyIfNone registers =
    (events : List Placed) (survey : Survey) → IsSurvey registers events survey
    → (survey.entries.items ≡ []) ↔ BreaksNone registers last_rule (events_of events)

-- if the survey of a document isn't empty, it has a first entry
abbrev pub SomeFirst : ℕ → Type 0
SomeFirst registers =
    (events : List Placed) (bytes : List ℕ) (survey : Survey) → Document events bytes
    → IsSurvey registers events survey → survey.entries.items ≢ []
    → (entry : Entry) × IsFirstEntry survey.entries.items entry

-- the first entry is the verdict on the document: the first broken rule
abbrev pub FirstIsVerdict : ℕ → Type 0
FirstIsVerdict registers =
    (events : List Placed) (bytes : List ℕ) (survey : Survey) (entry : Entry) → Document events bytes
    → IsSurvey registers events survey → IsFirstEntry survey.entries.items entry
    → IsVerdict registers events (Broken (finding_of entry))

-- a list of events has at least one survey
abbrev pub SomeSurvey : ℕ → Type 0
SomeSurvey registers = (placed : List Placed) → (survey : Survey) × IsSurvey registers placed survey

-- a list of events has at most one survey
abbrev pub OneSurvey : ℕ → Type 0
OneSurvey registers =
    (placed : List Placed) (s t : Survey) → IsSurvey registers placed s → IsSurvey registers placed t → s ≡ t
