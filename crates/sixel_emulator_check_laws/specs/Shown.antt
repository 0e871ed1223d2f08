-- What named terminals show of a picture for which a check for them finds no broken rule.
use Rattle.std.specs.Prelude.{◌≡◌, ◌≤◌, ℕ, List, Ok, IsTrue, false}
use Rattle.sixel_grammar.specs.declared.command.Placed.{Placed}
use Rattle.sixel_grammar.specs.Document.{Document, events_of}
use Rattle.sixel_model.specs.declared.colour.Parts.{Parts}
use Rattle.sixel_model.specs.Pictures.{PictureValue}
use Rattle.sixel_model.specs.Rules.{picture_left}
use Rattle.sixel_named_terminals.specs.declared.named.Named.{Named}
use Rattle.sixel_named_terminals.specs.declared.named.Named.TheVariants.{XTerm, MlTerm, Foot, Konsole}
use Rattle.sixel_named_terminals.specs.Named.{heard_on}
use Rattle.sixel_judge.specs.Portable.{IsPortable}
use Rattle.sixel_emulator_rules.specs.Asked.{asks, has_rule}
use Rattle.sixel_emulator_rules.specs.declared.rule.AskedRule.{AskedRule}
use Rattle.sixel_emulator_rules.specs.declared.terminals.Terminals.{Terminals}
use Rattle.sixel_emulator_rules_laws.specs.Laws.{IsShownOn}
use Rattle.sixel_emulator_check.specs.Answers.{AnswersOutcomeOn}
use Rattle.sixel_emulator_check.specs.Written.{IsVerdictOf}
use Rattle.sixel_emulator_check.specs.declared.verdict.NamedOutcome.TheVariants as outcome
use Rattle.sixel_emulator_check.specs.declared.verdict.NamedVerdict.TheVariants.{Portable}

-- the terminal is one of the set
abbrev pub IsNamed : Terminals → Named → Type 0
IsNamed t XTerm = IsTrue t.xterm
IsNamed t MlTerm = IsTrue t.mlterm
IsNamed t Foot = IsTrue t.foot
IsNamed t Konsole = IsTrue t.konsole

-- the terminal is one of the set, and none of the rules that it asks for is ignored
abbrev pub IsHeeded : Terminals → Named → Type 0
IsHeeded t named = IsNamed t named × ((rule : AskedRule) → IsTrue (asks named rule) → has_rule t.ignored rule ≡ false)

-- each terminal of the set that is heeded shows the picture on each screen of one colour with room: of the document of
-- these bytes, as the terminal hears it
abbrev pub IsShownOnEach : Terminals → List ℕ → List Placed → PictureValue → Type 0
IsShownOnEach t bytes placed p =
    (named : Named) (background : Parts) (width height : ℕ) → IsHeeded t named → p.width ≤ width → p.height ≤ height
    → IsShownOn named background (width, height) (events_of (heard_on named bytes placed)) p

-- the picture of the verdict on a document is shown by each terminal of the set that is heeded
abbrev pub VerdictsAreShown : ℕ → Type 0
VerdictsAreShown registers =
    (t : Terminals) (placed : List Placed) (bytes : List ℕ) (picture : PictureValue) → Document placed bytes
    → IsVerdictOf registers t bytes placed (Portable picture) → IsShownOnEach t bytes placed picture

-- the picture that the events of these bytes leave has these sides, it is portable, and each terminal of the set that is
-- heeded shows it
pub record LeavesShown (registers : ℕ) (t : Terminals) (bytes : List ℕ) (placed : List Placed) (width height : ℕ) :
    Type 0 where
  pub width_is : (picture_left registers (events_of placed)).width ≡ width
  pub height_is : (picture_left registers (events_of placed)).height ≡ height
  pub portable : IsPortable registers (events_of placed) (picture_left registers (events_of placed))
  pub shown : IsShownOnEach t bytes placed (picture_left registers (events_of placed))

-- bytes for which the answer is the size of a picture are a document, whose events leave such a picture
abbrev pub OutcomesAreShown : ℕ → Type 0
OutcomesAreShown registers =
    (t : Terminals) (bytes : List ℕ) (width height : ℕ)
    → AnswersOutcomeOn registers t (Ok (outcome.Portable width height)) bytes
    → (placed : List Placed) × Document placed bytes × LeavesShown registers t bytes placed width height
