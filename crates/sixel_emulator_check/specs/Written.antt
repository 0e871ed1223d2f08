-- Verdicts and surveys of a string: those on its events, and rules of which only its bytes tell.
use Rattle.std.specs.Prelude.{◌≡◌, ◌++◌, ℕ, Bool, true, false, List, [], ◌∷◌, Option, Some, None, nat_lt}
use Rattle.std.specs.Prelude.{Result, Ok, Err, if◌then◌else◌}
use Rattle.sixel_grammar.specs.Document.{Document}
use Rattle.sixel_grammar.specs.Reading.{Explains}
use Rattle.sixel_grammar.specs.declared.command.Placed.{Placed}
use Rattle.sixel_grammar.specs.declared.fault.InputFault.{InputFault}
use Rattle.sixel_omissions.specs.Omissions.{IsFirstBare, bare_count}
use Rattle.sixel_emulator_rules.specs.Asked.{is_asked}
use Rattle.sixel_emulator_rules.specs.declared.asking.AskedFinding.{AskedFinding}
use Rattle.sixel_emulator_rules.specs.declared.rule.AskedRule.{AskedRule}
use Rattle.sixel_emulator_rules.specs.declared.rule.AskedRule.TheVariants.{Bare, SpaceAfter}
use Rattle.sixel_emulator_rules.specs.declared.tally.AskedEntry.{AskedEntry}
use Rattle.sixel_emulator_rules.specs.declared.terminals.Terminals.{Terminals}
use Rattle.sixel_emulator_check.specs.Surveys.{IsSurveyOn}
use Rattle.sixel_emulator_check.specs.Trailer.{IsFirstSpace, space_count}
use Rattle.sixel_emulator_check.specs.Verdicts.{IsVerdictOn}
use Rattle.sixel_emulator_check.specs.declared.surveying.NamedSurvey.{NamedSurvey}
use Rattle.sixel_emulator_check.specs.declared.verdict.NamedVerdict.{NamedVerdict}
use Rattle.sixel_emulator_check.specs.declared.verdict.NamedVerdict.TheVariants.{Portable, Broken, Asked}

-- ---- the rules of the bytes

-- where a rule is broken first, if it is asked for
abbrev pub IsIfAsked : Bool → (Option ℕ → Type 0) → Option ℕ → Type 0
IsIfAsked true first place = first place
IsIfAsked false first place = place ≡ None

-- where `Bare` is broken first, if a terminal of the set asks for it: at the first select without a number
abbrev pub IsBareOn : Terminals → List ℕ → Option ℕ → Type 0
IsBareOn t bytes place = IsIfAsked (is_asked t Bare) (IsFirstBare bytes) place

-- where `SpaceAfter` is broken first, if a terminal of the set asks for it: at the first space behind the terminator
abbrev pub IsSpaceOn : Terminals → List ℕ → Option ℕ → Type 0
IsSpaceOn t bytes place = IsIfAsked (is_asked t SpaceAfter) (IsFirstSpace bytes) place

-- ---- the verdict

-- the earlier of the two: a finding of such a rule, or another finding at this offset. At the same offset it is the
-- other, whose rule has a smaller number
abbrev pub earlier : AskedFinding → ℕ → NamedVerdict → NamedVerdict
earlier found place v = if nat_lt found.place place then Asked found else v

abbrev pub with_finding : AskedFinding → NamedVerdict → NamedVerdict
with_finding found (Portable picture) = Asked found
with_finding found (Broken f) = earlier found f.place (Broken f)
with_finding found (Asked f) = earlier found f.place (Asked f)

-- the verdict, where such a rule is broken first at this offset, if it is
abbrev pub with_rule : AskedRule → Option ℕ → NamedVerdict → NamedVerdict
with_rule rule None v = v
with_rule rule (Some place) v = with_finding (record { rule = rule; place = place }) v

-- the verdict on a string of these bytes and these events
pub record IsVerdictOf (registers : ℕ) (t : Terminals) (bytes : List ℕ) (placed : List Placed)
    (verdict : NamedVerdict) : Type 0 where
  pub by_events : NamedVerdict
  pub is : IsVerdictOn registers t placed by_events
  pub bare : Option ℕ
  pub bare_is : IsBareOn t bytes bare
  pub space : Option ℕ
  pub space_is : IsSpaceOn t bytes space
  pub verdict_is : verdict ≡ with_rule SpaceAfter space (with_rule Bare bare by_events)

-- ---- the survey

-- the entry of such a rule, if it is broken: how often, and the offset where first
abbrev pub entry_at : AskedRule → ℕ → Option ℕ → List AskedEntry
entry_at rule often None = []
entry_at rule often (Some place) = record { rule = rule; count = often; place = place } ∷ []

abbrev pub size_unless : Option ℕ → Option (ℕ × ℕ) → Option (ℕ × ℕ)
size_unless None size = size
size_unless (Some place) size = None

-- the survey of a string of these bytes and these events
pub record IsSurveyOf (registers : ℕ) (t : Terminals) (bytes : List ℕ) (placed : List Placed) (survey : NamedSurvey) :
    Type 0 where
  pub by_events : NamedSurvey
  pub is : IsSurveyOn registers t placed by_events
  pub bare : Option ℕ
  pub bare_is : IsBareOn t bytes bare
  pub space : Option ℕ
  pub space_is : IsSpaceOn t bytes space
  pub entries_are : survey.entries.items ≡ by_events.entries.items
  pub asked_are : survey.asked.items
      ≡ (by_events.asked.items ++ entry_at Bare (bare_count bytes) bare)
      ++ entry_at SpaceAfter (space_count bytes) space
  pub size_is : survey.size ≡ size_unless space (size_unless bare by_events.size)

-- Ok: the bytes are a document, and the survey is that of it; Err: a grammar fault is the fault of these bytes
abbrev pub SurveysOn : ℕ → Terminals → Result NamedSurvey InputFault → List ℕ → Type 0
SurveysOn registers t (Ok survey) bytes =
    (events : List Placed) × Document events bytes × IsSurveyOf registers t bytes events survey
SurveysOn registers t (Err fault) bytes = Explains fault bytes
