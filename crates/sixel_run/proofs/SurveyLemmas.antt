-- What a run of `survey` owes.
use Rattle.std.proofs.Common.{◌≡◌, ◌∙◌, ℕ, List, [], Option, Some, None, ap, inl, inr, refl, subst}
use Rattle.std.specs.Prelude.{Result, Ok, Err, IfSome}
use Rattle.sixel_grammar.specs.declared.command.Placed.{Placed}
use Rattle.sixel_grammar.specs.declared.fault.Fault.{Fault}
use Rattle.sixel_grammar.specs.Faults.{IsFaultOf}
use Rattle.sixel_grammar.specs.Document.{Document, events_of}
use Rattle.sixel_grammar.proofs.TotalLemmas.{judged}
use Rattle.sixel_grammar.proofs.UniqueLemmas.{document_once, fault_no_document, fault_once}
use Rattle.sixel_model.specs.Profiles.{count_of}
use Rattle.sixel_model.specs.Rules.{picture_left}
use Rattle.sixel_model.specs.declared.profile.Profile.{Profile}
use Rattle.sixel_model.proofs.PictureLemmas.{at_most_256}
use Rattle.sixel_emulator_rules.specs.declared.terminals.Terminals.{Terminals}
use Rattle.sixel_emulator_check.specs.Laws.{verdict_with}
use Rattle.sixel_emulator_check.specs.Written.{IsSurveyOf, IsVerdictOf, SurveysOn}
use Rattle.sixel_emulator_check.specs.declared.surveying.NamedSurvey.{NamedSurvey}
use Rattle.sixel_emulator_check.specs.declared.verdict.NamedFinding.{NamedFinding}
use Rattle.sixel_emulator_check.specs.declared.verdict.NamedFinding.TheVariants as finding
use Rattle.sixel_emulator_check.specs.declared.verdict.NamedVerdict.{NamedVerdict}
use Rattle.sixel_emulator_check.specs.declared.verdict.NamedVerdict.TheVariants.{Portable}
use Rattle.sixel_emulator_check.proofs.WrittenLawLemmas.{empty_if_none_of, first_is_verdict_of}
use Rattle.sixel_report.specs.declared.fault.RunFault.{RunFault}
use Rattle.sixel_report.specs.declared.fault.RunFault.TheVariants.{Grammar}
use Rattle.sixel_report.specs.declared.task.Status.{Status}
use Rattle.sixel_report.specs.declared.task.Status.TheVariants as status
use Rattle.sixel_report.specs.declared.task.Status.TheVariants.{Done}
use Rattle.sixel_run.specs.Outputs.{SurveyGives, survey_status}
use Rattle.sixel_run.specs.LineTasks.{IsStatusOf}
use Rattle.sixel_report.specs.RuleSets.{rules_of}
use Rattle.sixel_report.specs.Texts.{Text, survey_text}
use Rattle.sixel_report.specs.declared.rule_set.RuleSet.{RuleSet}
use Rattle.sixel_report.proofs.OutputLemmas.{both_are}
use Rattle.sixel_run.proofs.CheckLemmas.{same_verdict_on}
use Rattle.sixel_emulator_check.proofs.WrittenLemmas.{survey_of_exists, survey_of_once, verdict_of_exists}

-- ---- one output

-- two surveys of one document are the same
same_survey : (registers : ℕ) (t : Terminals) (bytes : List ℕ) (d e : List Placed) (s u : NamedSurvey)
    → Document d bytes → Document e bytes → IsSurveyOf registers t bytes d s → IsSurveyOf registers t bytes e u → s ≡ u
same_survey registers t bytes d e s u p q a b =
    survey_of_once registers t bytes e s u
    (subst (λ (l : List Placed). IsSurveyOf registers t bytes l s) (document_once bytes d e p q) a) b

-- the lines of the survey of a document, and the status of its verdict
of_document : (registers : ℕ) (t : Terminals) (bytes : List ℕ) (d : List Placed) (s : NamedSurvey) (v : NamedVerdict)
    → Document d bytes → IsSurveyOf registers t bytes d s → IsVerdictOf registers t bytes d v
    → (text : Text) (a : Result Status RunFault) → SurveyGives registers t bytes text a
    → (text ≡ survey_text s) × (a ≡ Ok (survey_status s v))
of_document registers t bytes d s v doc is rules text (Ok r) g =
    let same = same_survey registers t bytes g.0 d g.2.0 s g.1 doc g.2.1 is in (
      g.2.2 ∙ ap survey_text same,
      ap (λ (k : Status). Ok k)
          (g.2.3.2 ∙ ap (λ (k : NamedSurvey). survey_status k g.2.3.0) same
          ∙ ap (survey_status s) (same_verdict_on registers t bytes g.0 d g.2.3.0 v g.1 doc g.2.3.1 rules)),
    )
of_document registers t bytes d s v doc is rules text (Err (Grammar f)) g =
    absurd (fault_no_document bytes f g.1 (d, doc))
of_document registers t bytes d s v doc is rules text (Err other) g = absurd g

-- the fault of other bytes
of_fault : (registers : ℕ) (t : Terminals) (bytes : List ℕ) (f : Fault) → IsFaultOf bytes f → (text : Text)
    (a : Result Status RunFault) → SurveyGives registers t bytes text a → (text ≡ []) × (a ≡ Err (Grammar f))
of_fault registers t bytes f is text (Ok s) g = absurd (fault_no_document bytes f is (g.0, g.1))
of_fault registers t bytes f is text (Err (Grammar e)) g =
    (g.0, ap (λ (k : Fault). Err (Grammar k)) (fault_once bytes e f g.1 is))
of_fault registers t bytes f is text (Err other) g = absurd g

pub survey-once : (registers : ℕ) (t : Terminals) (bytes : List ℕ) (first second : Text) (a b : Result Status RunFault)
    → SurveyGives registers t bytes first a → SurveyGives registers t bytes second b → (first ≡ second) × (a ≡ b)
survey-once registers t bytes first second a b g h = elim (judged bytes) [
  | inl d ↦
      let s = survey_of_exists registers t bytes d.0 in
      let v = verdict_of_exists registers t bytes d.0 in
      let gives = of_document registers t bytes d.0 s.0 v.0 d.1 s.1 v.1 in
      both_are first second a b (gives first a g) (gives second b h)
  | inr f ↦
      let gives = of_fault registers t bytes f.0 f.1 in both_are first second a b (gives first a g) (gives second b h)
]

pub survey-gives : (registers : ℕ) (t : Terminals) (bytes : List ℕ)
    → (text : Text) × (answer : Result Status RunFault) × SurveyGives registers t bytes text answer
survey-gives registers t bytes =
    elim (judged bytes) [
      | inl d ↦
          let s = survey_of_exists registers t bytes d.0 in
          let v = verdict_of_exists registers t bytes d.0 in
          (survey_text s.0, Ok (survey_status s.0 v.0), (d.0, d.1, (s.0, s.1, refl, (v.0, v.1, refl))))
      | inr f ↦ ([], Err (Grammar f.0), (refl, f.1))
    ]

-- ---- the status

-- the status with this first finding
abbrev surveyed_with : NamedSurvey → NamedFinding → Status
surveyed_with survey f = status.Surveyed f (rules_of survey.entries.items survey.asked.items)

first_status : (survey : NamedSurvey) (f : NamedFinding) → surveyed_with survey f ≡ survey_status survey (verdict_with f)
first_status survey (finding.Portable f) = refl
first_status survey (finding.Asked f) = refl

-- the status after a survey is that of the verdict
status_is : (profile : Profile) (t : Terminals) (bytes : List ℕ) (events : List Placed) (survey : NamedSurvey)
    (s : Status) → Document events bytes → IsSurveyOf (count_of profile) t bytes events survey → IsStatusOf survey s
    → (verdict : NamedVerdict) × IsVerdictOf (count_of profile) t bytes events verdict
    × (s ≡ survey_status survey verdict)
status_is profile t bytes events survey Done doc is none =
    let unbroken = (empty_if_none_of (count_of profile) (at_most_256 profile) t bytes events survey is).0 none in
    let picture : NamedVerdict = Portable (picture_left (count_of profile) (events_of events)) in (
      picture,
      record {
        by_events = picture;
        is = (unbroken.0, unbroken.1, refl);
        bare = None;
        bare_is = unbroken.2;
        space = None;
        space_is = unbroken.3;
        verdict_is = refl;
      },
      refl,
    )
status_is profile t bytes events survey (status.Surveyed f rules) doc is given = (
  verdict_with f,
  first_is_verdict_of (count_of profile) (at_most_256 profile) t events bytes survey f doc is given.0,
  ap (λ (set : RuleSet). status.Surveyed f set) given.1 ∙ first_status survey f,
)
status_is profile t bytes events survey (status.Broken f) doc is never = absurd never
status_is profile t bytes events survey (status.Asked f) doc is never = absurd never
status_is profile t bytes events survey (status.Noted note) doc is never = absurd never
status_is profile t bytes events survey status.Differing doc is never = absurd never
status_is profile t bytes events survey (status.Unfit wrapped) doc is never = absurd never

pub surveyed : (profile : Profile) (t : Terminals) (told : Option (List ℕ)) (survey : NamedSurvey) (s : Status)
    → IfSome told (SurveysOn (count_of profile) t (Ok survey)) → IsStatusOf survey s
    → IfSome told (λ bytes. SurveyGives (count_of profile) t bytes (survey_text survey) (Ok s))
surveyed profile t None survey s given is = tt
surveyed profile t (Some bytes) survey s given is = (
  given.0,
  given.1,
  (survey, given.2, refl, status_is profile t bytes given.0 survey s given.1 given.2 is),
)
