-- A check for no terminal gives what `check` answers.
use Rattle.std.proofs.Common.{◌≡◌, ◌∙◌, ℕ, List, Option, None, Ok, ap, ap₂, refl, subst, sym}
use Rattle.sixel_grammar.specs.Document.{Document}
use Rattle.sixel_grammar.specs.declared.command.Placed.{Placed}
use Rattle.sixel_grammar.proofs.TotalLemmas.{document_whole}
use Rattle.sixel_model.specs.Profiles.{count_of}
use Rattle.sixel_judge.specs.declared.verdict.Verdict.{Verdict}
use Rattle.sixel_judge.specs.declared.verdict.Verdict.TheVariants.{Portable, Broken}
use Rattle.sixel_judge.proofs.AnswerLemmas.{verdict_everywhere}
use Rattle.sixel_judge.proofs.DifferenceLemmas.{verdict_matters}
use Rattle.sixel_check.specs.Answers.{Answers}
use Rattle.sixel_emulator_check.specs.Laws.{named_verdict, none}
use Rattle.sixel_emulator_check.specs.Verdicts.{IsVerdictOn}
use Rattle.sixel_emulator_rules.specs.declared.rule.AskedRule.TheVariants.{Bare, SpaceAfter}
use Rattle.sixel_emulator_check.specs.Written.{IsVerdictOf, with_rule}
use Rattle.sixel_emulator_check.specs.declared.verdict.NamedVerdict.{NamedVerdict}
use Rattle.sixel_emulator_check.proofs.NoneLemmas.{same_as_check}
use Rattle.sixel_report.specs.Texts.{named_verdict_line, verdict_line}
use Rattle.sixel_run.specs.Outputs.{status_of}
use Rattle.sixel_run_laws.proofs.OneStringLemmas.{verdict_alone}
use Rattle.sixel_promise_laws.specs.Twice.{CheckGivesTheVerdict, SameInCheck}

-- for no terminal it is that on the events
events_alone : (registers : ℕ) (bytes : List ℕ) (events : List Placed) (w : NamedVerdict)
    → IsVerdictOf registers none bytes events w → IsVerdictOn registers none events w
events_alone registers bytes events w is =
    let none_bare : is.bare ≡ None = is.bare_is in
    let none_space : is.space ≡ None = is.space_is in
    let same : w ≡ is.by_events =
    is.verdict_is
    ∙ ap₂ (λ (s b : Option ℕ). with_rule SpaceAfter s (with_rule Bare b is.by_events)) none_space none_bare in
    subst (IsVerdictOn registers none events) (sym same) is.is

-- a verdict for no terminal is one that `check` answers
alone : (registers : ℕ) (bytes : List ℕ) (events : List Placed) (w : NamedVerdict) → Document events bytes
    → IsVerdictOf registers none bytes events w
    → (v : Verdict) × Answers registers (Ok v) bytes × (w ≡ named_verdict v)
alone registers bytes events w document is =
    let v = verdict_alone registers events w (events_alone registers bytes events w is) in
    let whole = document_whole events bytes document in (
      v.0,
      (
        events,
        document,
        v.1,
        verdict_everywhere registers events v.0 whole v.1,
        verdict_matters registers events v.0 whole v.1,
      ),
      v.2,
    )

pub same_in_check : (registers : ℕ) → SameInCheck registers
same_in_check registers bytes w given = alone registers bytes given.0 w given.1 given.2

one_line : (v : Verdict) → named_verdict_line (named_verdict v) ≡ verdict_line v
one_line (Portable picture) = refl
one_line (Broken f) = refl

pub check_gives_the_verdict : CheckGivesTheVerdict
check_gives_the_verdict profile bytes text status = (
  λ g.
      (let v = alone (count_of profile) bytes g.0 g.2.0 g.1 g.2.1 in (
        v.0,
        v.1,
        g.2.2 ∙ ap named_verdict_line v.2 ∙ one_line v.0,
        g.2.3 ∙ ap status_of v.2,
      )),
  λ a.
      (let given = same_as_check (count_of profile) bytes a.0 a.1 in
      (given.0, given.1, (named_verdict a.0, given.2, a.2 ∙ sym (one_line a.0), a.3))),
)
