-- Lemmas for a run of `render`.
use Rattle.std.proofs.Common.{◌≡◌, ◌∙◌, ◌⊎◌, ℕ, Bool, true, false, List, [], take, drop, Option, Some, None, refl, sym}
use Rattle.std.proofs.Common.{ap, inl, inr}
use Rattle.std.specs.Prelude.{Result, Ok, Err, IfSome}
use Rattle.std.proofs.lemmas.List.{take-append-drop}
use Rattle.sixel_grammar.specs.declared.command.Placed.{Placed}
use Rattle.sixel_grammar.specs.declared.fault.Fault.{Fault}
use Rattle.sixel_grammar.specs.Document.{Document}
use Rattle.sixel_grammar.specs.Faults.{IsFaultOf}
use Rattle.sixel_io.specs.Devices.{SinkState}
use Rattle.sixel_report.proofs.OutputLemmas.{nothing-written}
use Rattle.sixel_io.proofs.SinkLemmas.{Appends-none}
use Rattle.sixel_grammar.proofs.TotalLemmas.{judged}
use Rattle.sixel_grammar.proofs.UniqueLemmas.{fault_no_document, fault_once}
use Rattle.sixel_model.specs.Pictures.{PictureValue}
use Rattle.sixel_ppm.specs.Ppm.{are_rgb, colours_of, ppm_text}
use Rattle.sixel_judge.specs.declared.verdict.Finding.{Finding}
use Rattle.sixel_judge.specs.declared.verdict.Verdict.{Verdict}
use Rattle.sixel_judge.specs.declared.verdict.Verdict.TheVariants.{Portable, Broken}
use Rattle.sixel_check.specs.Answers.{Answers as CheckAnswers}
use Rattle.sixel_judge.specs.Verdicts.{IsVerdict}
use Rattle.sixel_judge.proofs.DecideLemmas.{verdict_exists}
use Rattle.sixel_report.specs.declared.fault.RunFault.{RunFault}
use Rattle.sixel_report.specs.declared.fault.RunFault.TheVariants.{Grammar, NotRgb, Write}
use Rattle.sixel_report.specs.declared.task.Status.{Status}
use Rattle.sixel_report.specs.declared.task.Status.TheVariants as status
use Rattle.sixel_report.specs.declared.task.Status.TheVariants.{Done}
use Rattle.sixel_report.specs.declared.task.PictureFormat.{PictureFormat}
use Rattle.sixel_report.specs.declared.task.PictureFormat.TheVariants.{Ppm}
use Rattle.sixel_report.proofs.FormatLemmas.{as_nothing, as_unwritten, as_written}
use Rattle.sixel_run.specs.Outputs.{RenderGives, render_output}
use Rattle.sixel_report.specs.Outputs.{WritesFile, WroteBy, WroteNothing, WrotePicture}
use Rattle.sixel_report.specs.Texts.{Text}
use Rattle.sixel_run.proofs.CheckLemmas.{same_verdict}

-- ---- at most one output

-- the text and the answer are those for the verdict on a document
record Renders (registers : ℕ) (bytes : List ℕ) (text : Text) (answer : Result Status RunFault) : Type 0 where
  events : List Placed
  document : Document events bytes
  verdict : Verdict
  is : IsVerdict registers events verdict
  output : (text, answer) ≡ render_output verdict

-- the answer is a fault of the grammar, and nothing is written
record Refuses (bytes : List ℕ) (text : Text) (answer : Result Status RunFault) : Type 0 where
  fault : Fault
  answer_is : answer ≡ Err (Grammar fault)
  nothing : text ≡ []
  is : IsFaultOf bytes fault

either : (registers : ℕ) (bytes : List ℕ) (text : Text) (answer : Result Status RunFault)
    → RenderGives registers bytes text answer
    → Refuses bytes text answer ⊎ Renders registers bytes text answer
either registers bytes text (Err (Grammar fault)) g =
    inl (record { fault = fault; answer_is = refl; nothing = g.0; is = g.1 })
either registers bytes text (Ok s) g =
    inr (record { events = g.0; document = g.1; verdict = g.2.0; is = g.2.1; output = g.2.2 })
either registers bytes text (Err other) g =
    inr (record { events = g.0; document = g.1; verdict = g.2.0; is = g.2.1; output = g.2.2 })

both_refuse : (bytes : List ℕ) (first second : Text) (a b : Result Status RunFault) → Refuses bytes first a
    → Refuses bytes second b → (first ≡ second) × (a ≡ b)
both_refuse bytes first second a b g h = (
  g.nothing ∙ sym h.nothing,
  g.answer_is ∙ ap (λ (k : Fault). Err (Grammar k)) (fault_once bytes g.fault h.fault g.is h.is) ∙ sym h.answer_is,
)

both_render : (registers : ℕ) (bytes : List ℕ) (first second : Text) (a b : Result Status RunFault)
    → Renders registers bytes first a → Renders registers bytes second b → (first ≡ second) × (a ≡ b)
both_render registers bytes first second a b g h =
    let same = same_verdict _ bytes g.events h.events g.verdict h.verdict g.document h.document g.is h.is in
    let whole : (first, a) ≡ (second, b) = g.output ∙ ap render_output same ∙ sym h.output in
    (ap (λ p. p.0) whole, ap (λ p. p.1) whole)

pub render-once : (registers : ℕ) (bytes : List ℕ) (first second : Text) (a b : Result Status RunFault)
    → RenderGives registers bytes first a → RenderGives registers bytes second b → (first ≡ second) × (a ≡ b)
render-once registers bytes first second a b g h = elim (either _ bytes first a g) [
  | inl f ↦ elim (either _ bytes second b h) [
    | inl e ↦ both_refuse bytes first second a b f e
    | inr r ↦ absurd (fault_no_document bytes f.fault f.is (r.events, r.document))
  ]
  | inr r ↦ elim (either _ bytes second b h) [
    | inl e ↦ absurd (fault_no_document bytes e.fault e.is (r.events, r.document))
    | inr q ↦ both_render _ bytes first second a b r q
  ]
]

-- ---- at least one output

Gives : ℕ → List ℕ → Type 0
Gives registers bytes = (text : Text) × (answer : Result Status RunFault) × RenderGives registers bytes text answer

of_picture : (registers : ℕ) (bytes : List ℕ) (d : List Placed) (p : PictureValue) → Document d bytes
    → IsVerdict registers d (Portable p) → (b : Bool) → are_rgb (colours_of p) ≡ b → Gives registers bytes
unfolding Gives
of_picture registers bytes d p doc is true e =
    (ppm_text p.width p.height (colours_of p), Ok Done, (d, doc, (Portable p, is, rw e refl)))
of_picture registers bytes d p doc is false e = ([], Err NotRgb, (d, doc, (Portable p, is, rw e refl)))

of_verdict : (registers : ℕ) (bytes : List ℕ) (d : List Placed) (v : Verdict) → Document d bytes
    → IsVerdict registers d v → Gives registers bytes
unfolding Gives
of_verdict registers bytes d (Portable p) doc is = of_picture _ bytes d p doc is (are_rgb (colours_of p)) refl
of_verdict registers bytes d (Broken f) doc is = ([], Ok (status.Broken f), (d, doc, (Broken f, is, refl)))

pub render-gives : (registers : ℕ) (bytes : List ℕ)
    → (text : Text) × (answer : Result Status RunFault) × RenderGives registers bytes text answer
unfolding Gives
render-gives registers bytes =
    elim (judged bytes) [
      | inl d ↦ let v = verdict_exists registers d.0 in of_verdict _ bytes d.0 v.0 d.1 v.1
      | inr f ↦ ([], Err (Grammar f.0), (refl, f.1))
    ]

-- ---- the text written

ppm_rendered : (registers : ℕ) (bytes : List ℕ) (p : PictureValue) (had has : SinkState)
    → CheckAnswers registers (Ok (Portable p)) bytes
    → WritesFile {A = Unit {0}} Ppm (Ok tt) had has p.width p.height (colours_of p)
    → WroteBy (RenderGives registers bytes) WroteNothing (Ok Done) had.taken has.taken
ppm_rendered registers bytes p had has given put = (
  ppm_text p.width p.height (colours_of p),
  (given.0, given.1, (Portable p, given.2, rw put.0 refl)),
  put.1.taken,
)

pub rendered : (format : PictureFormat) (registers : ℕ) (a : Option (List ℕ)) (p : PictureValue) (had has : SinkState)
    → IfSome a (CheckAnswers registers (Ok (Portable p)))
    → WritesFile {A = Unit {0}} format (Ok tt) had has p.width p.height (colours_of p)
    → IfSome a (λ bytes. WrotePicture format (RenderGives registers bytes) (Ok Done) had.taken has.taken)
rendered format registers None p had has given put = tt
rendered format registers (Some bytes) p had has given put =
    as_written (RenderGives registers bytes) WroteNothing WroteNothing format tt Done had has p.width p.height
    (colours_of p) (λ b c. ppm_rendered registers bytes p b c given) put

ppm_unrendered : (registers : ℕ) (bytes : List ℕ) (p : PictureValue) (fault : RunFault) (had has : SinkState)
    → CheckAnswers registers (Ok (Portable p)) bytes
    → WritesFile {A = Unit {0}} Ppm (Err fault) had has p.width p.height (colours_of p)
    → WroteBy (RenderGives registers bytes) WroteNothing (Err fault) had.taken has.taken
ppm_unrendered registers bytes p Write had has given put =
    let whole : Text = ppm_text p.width p.height (colours_of p) in (
      take put.1.taken.0 whole,
      put.1.taken.1,
      λ text answer g.
          let same = (render-once _ bytes text whole answer (Ok Done) g
          (given.0, given.1, (Portable p, given.2, rw put.0 refl))).0 in
          (drop put.1.taken.0 whole, same ∙ sym (take-append-drop put.1.taken.0 whole)),
    )
ppm_unrendered registers bytes p NotRgb had has given put =
    ([], (given.0, given.1, (Portable p, given.2, rw put.0 refl)), nothing-written had has put.1)
ppm_unrendered registers bytes p _ had has given put = absurd put

pub unrendered : (format : PictureFormat) (registers : ℕ) (a : Option (List ℕ)) (p : PictureValue) (fault : RunFault)
    (had has : SinkState) → IfSome a (CheckAnswers registers (Ok (Portable p)))
    → WritesFile {A = Unit {0}} format (Err fault) had has p.width p.height (colours_of p)
    → IfSome a (λ bytes. WrotePicture format (RenderGives registers bytes) (Err fault) had.taken has.taken)
unrendered format registers None p fault had has given put = tt
unrendered format registers (Some bytes) p fault had has given put =
    as_unwritten (RenderGives registers bytes) WroteNothing WroteNothing (Unit {0}) format fault had has p.width p.height
    (colours_of p) (λ b c. ppm_unrendered registers bytes p fault b c given) put

-- for a broken picture nothing was written
pub broken_rendered : (format : PictureFormat) (registers : ℕ) (a : Option (List ℕ)) (f : Finding)
    (had : Option (List ℕ)) → IfSome a (CheckAnswers registers (Ok (Broken f)))
    → IfSome a (λ bytes. WrotePicture format (RenderGives registers bytes) (Ok (status.Broken f)) had had)
broken_rendered format registers None f had given = tt
broken_rendered format registers (Some bytes) f had given =
    as_nothing (RenderGives registers bytes) WroteNothing WroteNothing format (Ok (status.Broken f)) had
    (λ same. ([], (given.0, given.1, (Broken f, given.2, refl)), Appends-none same))
