-- What a check for named terminals answers, the terminals show.
use Rattle.std.proofs.Common.{◌≡◌, ◌≤◌, ◌∙◌, ℕ, List, Ok, ap, subst, sym}
use Rattle.sixel_grammar.specs.declared.command.Placed.{Placed}
use Rattle.sixel_grammar.specs.Document.{Document, events_of}
use Rattle.sixel_grammar.proofs.TotalLemmas.{document_whole}
use Rattle.sixel_model.specs.Pictures.{PictureValue}
use Rattle.sixel_model.specs.Rules.{picture_left}
use Rattle.sixel_judge.specs.Portable.{IsPortable}
use Rattle.sixel_emulator_rules.specs.declared.terminals.Terminals.{Terminals}
use Rattle.sixel_emulator_check.specs.Answers.{AnswersOn}
use Rattle.sixel_emulator_check.specs.Verdicts.{IsVerdictOn, named_outcome_of}
use Rattle.sixel_emulator_check.specs.Written.{IsVerdictOf}
use Rattle.sixel_emulator_check.specs.declared.verdict.NamedOutcome.{NamedOutcome}
use Rattle.sixel_emulator_check.specs.declared.verdict.NamedOutcome.TheVariants as outcome
use Rattle.sixel_emulator_check.specs.declared.verdict.NamedVerdict.{NamedVerdict}
use Rattle.sixel_emulator_check.specs.declared.verdict.NamedVerdict.TheVariants.{Portable, Broken, Asked}
use Rattle.sixel_emulator_check.proofs.WrittenLemmas.{picture_of}
use Rattle.sixel_emulator_check_laws.specs.Shown.{IsShownOnEach, LeavesShown, OutcomesAreShown, VerdictsAreShown}
use Rattle.sixel_emulator_check_laws.proofs.RightLemmas.{shown_on_all, shown_on_each}

pub verdicts_are_shown : (registers : ℕ) → registers ≤ 256 → VerdictsAreShown registers
verdicts_are_shown registers few t placed bytes picture document w =
    let of = picture_of picture w in
    let is : IsVerdictOn registers t placed (Portable picture) = of.is in
    shown_on_each registers t bytes placed picture of.no_bare is.0
    (shown_on_all registers t (events_of placed) picture few (document_whole placed bytes document) is.0 is.1 is.2)

-- the sides of an outcome
abbrev width_in : NamedOutcome → ℕ
width_in (outcome.Portable width height) = width
width_in (outcome.Broken f) = 0
width_in (outcome.Asked f) = 0

abbrev height_in : NamedOutcome → ℕ
height_in (outcome.Portable width height) = height
height_in (outcome.Broken f) = 0
height_in (outcome.Asked f) = 0

of_picture : (registers : ℕ) (t : Terminals) (bytes : List ℕ) (placed : List Placed) (p : PictureValue)
    (width height : ℕ) → outcome.Portable width height ≡ outcome.Portable p.width p.height
    → IsPortable registers (events_of placed) p → IsShownOnEach t bytes placed p
    → p ≡ picture_left registers (events_of placed) → LeavesShown registers t bytes placed width height
of_picture registers t bytes placed p width height same portable shown left = record {
  width_is = ap (λ (q : PictureValue). q.width) (sym left) ∙ sym (ap width_in same);
  height_is = ap (λ (q : PictureValue). q.height) (sym left) ∙ sym (ap height_in same);
  portable = subst (IsPortable registers (events_of placed)) left portable;
  shown = subst (IsShownOnEach t bytes placed) left shown;
}

of_verdict : (registers : ℕ) (t : Terminals) (bytes : List ℕ) (width height : ℕ) (v : NamedVerdict) → registers ≤ 256
    → AnswersOn registers t (Ok v) bytes → outcome.Portable width height ≡ named_outcome_of v
    → (placed : List Placed) × Document placed bytes × LeavesShown registers t bytes placed width height
of_verdict registers t bytes width height (Portable p) few h same =
    let w : IsVerdictOf registers t bytes h.0 (Portable p) = h.2 in
    let of = picture_of p w in
    let is : IsVerdictOn registers t h.0 (Portable p) = of.is in (
      h.0,
      h.1,
      of_picture registers t bytes h.0 p width height same h.3
          (verdicts_are_shown registers few t h.0 bytes p h.1 w) is.2,
    )
of_verdict registers t bytes width height (Broken f) few h same = cc same
of_verdict registers t bytes width height (Asked f) few h same = cc same

pub outcomes_are_shown : (registers : ℕ) → registers ≤ 256 → OutcomesAreShown registers
outcomes_are_shown registers few t bytes width height h =
    of_verdict registers t bytes width height h.0 few h.1 h.2
