-- What a run of `check` owes, and when one runs out of memory.
use Rattle.std.proofs.Common.{◌≡◌, ◌∙◌, ◌∷◌, ℕ, List, [], Option, Some, None, refl, ap, subst, inl, inr}
use Rattle.std.specs.Prelude.{Result, Ok, Err, IfSome}
use Rattle.std.proofs.lemmas.List.{append-nil}
use Rattle.sixel_grammar.specs.declared.command.Placed.{Placed}
use Rattle.sixel_grammar.specs.declared.fault.Fault.{Fault}
use Rattle.sixel_grammar.specs.Faults.{IsFaultOf}
use Rattle.sixel_grammar.specs.declared.fault.InputFault.{InputFault}
use Rattle.sixel_grammar.specs.declared.fault.InputFault.TheVariants as input
use Rattle.sixel_grammar.specs.Document.{Document}
use Rattle.sixel_grammar.proofs.TotalLemmas.{judged}
use Rattle.sixel_grammar.proofs.UniqueLemmas.{document_once, fault_no_document, fault_once}
use Rattle.sixel_judge.specs.declared.verdict.Verdict.{Verdict}
use Rattle.sixel_judge.specs.Verdicts.{IsVerdict}
use Rattle.sixel_judge.proofs.VerdictLemmas.{verdict_once}
use Rattle.sixel_emulator_rules.specs.declared.terminals.Terminals.{Terminals}
use Rattle.sixel_emulator_check.specs.Answers.{AnswersOutcomeOn}
use Rattle.sixel_emulator_check.specs.Verdicts.{named_outcome_of}
use Rattle.sixel_emulator_check.specs.Written.{IsVerdictOf}
use Rattle.sixel_emulator_check.specs.declared.verdict.NamedOutcome.{NamedOutcome}
use Rattle.sixel_emulator_check.specs.declared.verdict.NamedVerdict.{NamedVerdict}
use Rattle.sixel_emulator_check.specs.declared.verdict.NamedVerdict.TheVariants.{Portable, Broken, Asked}
use Rattle.sixel_report.specs.declared.fault.RunFault.{RunFault}
use Rattle.sixel_report.specs.declared.fault.RunFault.TheVariants.{Grammar, OutOfMemory}
use Rattle.sixel_report.specs.declared.task.Status.{Status}
use Rattle.sixel_report.specs.Conversions.{of_input}
use Rattle.sixel_run.specs.Outputs.{CheckGives, outcome_status, status_of}
use Rattle.sixel_report.specs.Texts.{Text, item_line, item_of, items_text, named_verdict_line}
use Rattle.sixel_emulator_check.proofs.WrittenLemmas.{verdict_of_exists, verdict_of_once}
use Rattle.sixel_report.proofs.OutputLemmas.{both_are}

-- two verdicts on one document are the same
pub same_verdict : (registers : ℕ) (bytes : List ℕ) (d e : List Placed) (v w : Verdict)
    → Document d bytes → Document e bytes → IsVerdict registers d v → IsVerdict registers e w → v ≡ w
same_verdict registers bytes d e v w p q a b =
    verdict_once _ e v w (subst (λ (l : List Placed). IsVerdict registers l v) (document_once bytes d e p q) a) b

-- the same for named terminals
pub same_verdict_on : (registers : ℕ) (t : Terminals) (bytes : List ℕ) (d e : List Placed) (v w : NamedVerdict)
    → Document d bytes → Document e bytes → IsVerdictOf registers t bytes d v → IsVerdictOf registers t bytes e w
    → v ≡ w
same_verdict_on registers t bytes d e v w p q a b =
    verdict_of_once _ t bytes e v w
    (subst (λ (l : List Placed). IsVerdictOf registers t bytes l v) (document_once bytes d e p q) a) b

-- the line and the status of the verdict on a document
of_document : (registers : ℕ) (t : Terminals) (bytes : List ℕ) (d : List Placed) (v : NamedVerdict)
    → Document d bytes → IsVerdictOf registers t bytes d v → (text : Text) (a : Result Status RunFault)
    → CheckGives registers t bytes text a → (text ≡ named_verdict_line v) × (a ≡ Ok (status_of v))
of_document registers t bytes d v doc is text (Ok s) g =
    let same = same_verdict_on registers t bytes g.0 d g.2.0 v g.1 doc g.2.1 is in
    (g.2.2 ∙ ap named_verdict_line same, ap (λ (k : Status). Ok k) (g.2.3 ∙ ap status_of same))
of_document registers t bytes d v doc is text (Err (Grammar f)) g = absurd (fault_no_document bytes f g.1 (d, doc))
of_document registers t bytes d v doc is text (Err other) g = absurd g

-- the fault of other bytes
of_fault : (registers : ℕ) (t : Terminals) (bytes : List ℕ) (f : Fault) → IsFaultOf bytes f → (text : Text)
    (a : Result Status RunFault) → CheckGives registers t bytes text a → (text ≡ []) × (a ≡ Err (Grammar f))
of_fault registers t bytes f is text (Ok s) g = absurd (fault_no_document bytes f is (g.0, g.1))
of_fault registers t bytes f is text (Err (Grammar e)) g =
    (g.0, ap (λ (k : Fault). Err (Grammar k)) (fault_once bytes e f g.1 is))
of_fault registers t bytes f is text (Err other) g = absurd g

pub check-once : (registers : ℕ) (t : Terminals) (bytes : List ℕ) (first second : Text) (a b : Result Status RunFault)
    → CheckGives registers t bytes first a → CheckGives registers t bytes second b → (first ≡ second) × (a ≡ b)
check-once registers t bytes first second a b g h = elim (judged bytes) [
  | inl d ↦
      let v = verdict_of_exists registers t bytes d.0 in
      let gives = of_document registers t bytes d.0 v.0 d.1 v.1 in
      both_are first second a b (gives first a g) (gives second b h)
  | inr f ↦
      let gives = of_fault registers t bytes f.0 f.1 in both_are first second a b (gives first a g) (gives second b h)
]

pub check-gives : (registers : ℕ) (t : Terminals) (bytes : List ℕ)
    → (text : Text) × (answer : Result Status RunFault) × CheckGives registers t bytes text answer
check-gives registers t bytes =
    elim (judged bytes) [
      | inl d ↦
          let v = verdict_of_exists registers t bytes d.0 in
          (named_verdict_line v.0, Ok (status_of v.0), (d.0, d.1, (v.0, v.1, refl, refl)))
      | inr f ↦ ([], Err (Grammar f.0), (refl, f.1))
    ]

-- ---- the line

-- an outcome has the line and the status of its verdict
line_same : (v : NamedVerdict) → item_line (item_of (named_outcome_of v)) ≡ named_verdict_line v
line_same (Portable p) = refl
line_same (Broken f) = refl
line_same (Asked f) = refl

status_same : (v : NamedVerdict) → outcome_status (named_outcome_of v) ≡ status_of v
status_same (Portable p) = refl
status_same (Broken f) = refl
status_same (Asked f) = refl

pub checked : (registers : ℕ) (t : Terminals) (told : Option (List ℕ)) (o : NamedOutcome)
    → IfSome told (AnswersOutcomeOn registers t (Ok o))
    → IfSome told (λ bytes. CheckGives registers t bytes (items_text (item_of o ∷ [])) (Ok (outcome_status o)))
checked registers t None o given = tt
checked registers t (Some bytes) o given = (
  given.1.0,
  given.1.1,
  (
    given.0,
    given.1.2,
    append-nil (item_line (item_of o)) ∙ ap (λ (k : NamedOutcome). item_line (item_of k)) given.2 ∙ line_same given.0,
    ap outcome_status given.2 ∙ status_same given.0,
  ),
)

-- ---- memory

-- if a task ran out of memory because an allocation failed, `grows` holds of the bytes
pub grown : (A : Type 0) (grows : List ℕ → Type 0) (told : Option (List ℕ)) (fault : InputFault) (y : RunFault)
    (r : Result Status RunFault)
    → IfSome told
    (λ bytes. (let k : Result A InputFault = Err fault in k) ≡ Err input.OutOfMemory → grows bytes)
    → r ≡ Err y → y ≡ of_input fault → r ≡ Err OutOfMemory → IfSome told grows
grown A grows None fault y r h e f o = tt
grown A grows (Some bytes) (input.Grammar k) y r h e f o = cc
grown A grows (Some bytes) input.OutOfMemory y r h e f o = h refl
grown A grows (Some bytes) input.Read y r h e f o = cc
