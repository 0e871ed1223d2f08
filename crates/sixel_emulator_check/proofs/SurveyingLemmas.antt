-- Surveys for named terminals, by a surveying and a tallying that take the same events.
use Rattle.std.proofs.Common.{◌≡◌, ℕ, Option, None, List, [], ◌∷◌, refl, subst, ◌∙◌}
use Rattle.sixel_grammar.specs.Document.{events_of}
use Rattle.sixel_grammar.specs.Source.{FollowsSource, HaltsSource, IsFollowed}
use Rattle.sixel_grammar.specs.declared.command.Placed.{Placed}
use Rattle.sixel_grammar.specs.declared.source.SourceHalt.TheVariants.{Stopped}
use Rattle.sixel_model.specs.Pictures.{PictureValue}
use Rattle.sixel_model.specs.Rules.{picture_left}
use Rattle.sixel_survey.specs.Declaring.{DeclareBoxIn}
use Rattle.sixel_survey.specs.Surveying.{HasSurveyed, SurveyorValue}
use Rattle.sixel_survey.specs.Surveys.{IsSurvey, size_if_none}
use Rattle.sixel_survey.specs.declared.entry.Entry.{Entry}
use Rattle.sixel_survey.specs.declared.entry.Survey.{Survey}
use Rattle.sixel_survey.proofs.FollowLemmas.{HasTaken, MayStop, begins, declares_in}
use Rattle.sixel_emulator_rules.specs.Tallies.{AreAskedEntries}
use Rattle.sixel_emulator_rules.specs.Tallying.{HasTallied, HasTalliedOn}
use Rattle.sixel_emulator_rules.specs.declared.tally.AskedEntry.{AskedEntry}
use Rattle.sixel_emulator_rules.specs.declared.tallying.Tallying.{Tallying}
use Rattle.sixel_emulator_rules.specs.declared.terminals.Terminals.{Terminals}
use Rattle.sixel_emulator_check.specs.Laws.{none}
use Rattle.sixel_emulator_check.specs.Surveys.{IsSurveyOn, size_beside, size_without}
use Rattle.sixel_emulator_check.specs.declared.surveying.NamedSurvey.{NamedSurvey}

-- ---- what a pair has taken, whose parts these are

abbrev pub HaveTaken : {F : Type 0} → (F → SurveyorValue) → (F → Tallying) → F → F → List Placed → Type 0
HaveTaken one other first now seen = HasTaken one first now seen × HasTalliedOn (other first) (other now) seen

pub begin : {F : Type 0} (one : F → SurveyorValue) (other : F → Tallying) (registers : ℕ) (f : F)
    → HasSurveyed registers (one f) [] → HaveTaken one other f f []
begin one other registers f h = (begins one registers f h, (refl, λ t. t))

-- a pair has taken these events, for these registers and terminals
abbrev pub HaveAll : {F : Type 0} → (F → SurveyorValue) → (F → Tallying) → ℕ → Terminals → F → List Placed → Type 0
HaveAll one other registers t f seen =
    HasSurveyed registers (one f) seen × HasTallied (other f) seen × ((other f).terminals ≡ t)

pub all_taken : {F : Type 0} (one : F → SurveyorValue) (other : F → Tallying) (registers : ℕ) (t : Terminals)
    (old now : F) (known : Option (List ℕ)) → HasSurveyed registers (one old) [] → HasTallied (other old) []
    → (other old).terminals ≡ t → FollowsSource (HaveTaken one other) old now known
    → IsFollowed (HaveAll one other registers t) now known
all_taken one other registers t old now known h tallied is follows =
    let f = follows old (begin one other registers old h) in
    record {
      events = f.events;
      bytes = f.bytes;
      document = f.document;
      taken = (
        subst (λ (n : ℕ). HasSurveyed n (one now) f.events) h.registers_are f.taken.0,
        f.taken.1.1 tallied,
        f.taken.1.0 ∙ is,
      );
      known_are = f.known_are;
    }

pub declare_in : {F S : Type 0} (one : F → SurveyorValue) (other : F → Tallying) (registers : ℕ) (old new : F)
    (stop : S) (bytes : List ℕ) → HasSurveyed registers (one old) []
    → HaltsSource (HaveTaken one other) MayStop old new (Stopped stop) bytes → DeclareBoxIn bytes
declare_in one other registers old new stop bytes h halts =
    declares_in one registers old new stop bytes h (λ first taken. halts old (begin one other registers old h))

-- ---- the survey

sizes_are : (entries : List Entry) (more : List AskedEntry) (size : Option (ℕ × ℕ)) (p : PictureValue)
    → size ≡ size_if_none entries p → size_beside more size ≡ size_without entries more p
sizes_are [] [] size p is = is
sizes_are (e ∷ es) [] size p is = is
sizes_are [] (d ∷ ds) size p is = refl
sizes_are (e ∷ es) (d ∷ ds) size p is = refl

pub joined : {registers : ℕ} {t : Terminals} {placed : List Placed} {survey : Survey} {more : List AskedEntry}
    (named : NamedSurvey) → named.entries ≡ survey.entries → named.asked.items ≡ more
    → named.size ≡ size_beside more survey.size → IsSurvey registers placed survey → AreAskedEntries t placed more
    → IsSurveyOn registers t placed named
joined {registers} {t} {placed} {survey} {more} named entries asked size s a = record {
  entries = rw entries s.entries;
  asked = rw asked a;
  size = rw (entries, asked)
      (size ∙ sizes_are survey.entries.items more survey.size (picture_left registers (events_of placed)) s.size);
}

-- without a terminal no rule is asked for
pub none_asked_for : (placed : List Placed) → AreAskedEntries none placed []
none_asked_for placed = record { entry_of = λ rule. None; each = λ rule asked. cc; entries_are = refl }
