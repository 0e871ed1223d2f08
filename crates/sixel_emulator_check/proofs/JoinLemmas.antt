-- What is made of the answer of a checker and that of an asking.
use Rattle.std.proofs.Common.{◌≡◌, ◌∙◌, ◌≤◌, ◌<◌, ℕ, Bool, true, false, Option, Some, None, List, Ok, ap, refl}
use Rattle.std.specs.Prelude.{nat_lt, if◌then◌else◌}
use Rattle.std.proofs.lemmas.Bool.{lt-ltb, ltb-true}
use Rattle.sixel_grammar.specs.Document.{Document, events_of}
use Rattle.sixel_grammar.specs.declared.command.Placed.{Placed}
use Rattle.sixel_judge.specs.Outcomes.{IsOutcome}
use Rattle.sixel_judge.specs.Portable.{IsShownEverywhere}
use Rattle.sixel_judge.specs.Verdicts.{IsFinding, IsVerdict, outcome_of}
use Rattle.sixel_judge.specs.declared.verdict.Finding.{Finding}
use Rattle.sixel_judge.specs.declared.verdict.Outcome.{Outcome}
use Rattle.sixel_judge.specs.declared.verdict.Verdict.{Verdict}
use Rattle.sixel_judge.specs.declared.verdict.Verdict.TheVariants.{Portable, Broken}
use Rattle.sixel_emulator_rules.specs.Asking.{IsAnswer, IsFindingAt}
use Rattle.sixel_emulator_rules.specs.declared.asking.AskedFinding.{AskedFinding}
use Rattle.sixel_emulator_rules.specs.declared.rule.AskedRule.TheVariants.{Bare, SpaceAfter}
use Rattle.sixel_emulator_rules.specs.declared.terminals.Terminals.{Terminals}
use Rattle.sixel_emulator_rules.proofs.LawLemmas.{none_is_exact}
use Rattle.sixel_emulator_check.specs.Answers.{AnswersOn, AnswersOutcomeOn}
use Rattle.sixel_emulator_check.specs.Checking.{broken_outcome_or, earlier_than, joined_outcome, outcome_with}
use Rattle.sixel_emulator_check.specs.Verdicts.{IsRightOn, IsVerdictOn, named_outcome_of}
use Rattle.sixel_emulator_check.specs.Written.{IsBareOn, IsSpaceOn, with_rule}
use Rattle.sixel_emulator_check.specs.declared.verdict.NamedVerdict.{NamedVerdict}
use Rattle.sixel_emulator_check.specs.declared.verdict.NamedVerdict.TheVariants as named
use Rattle.sixel_emulator_check.proofs.FirstLemmas.{asked_alone, asked_first, broken_alone, broken_first}
use Rattle.sixel_emulator_check.proofs.WrittenLemmas.{right_with, with_same}

-- ---- the verdict

abbrev pub broken_or : Finding → Option AskedFinding → NamedVerdict
broken_or f None = named.Broken f
broken_or f (Some asked) = named.Asked asked

-- the first of both findings; at the same place that of portable pictures
abbrev pub joined : Verdict → Option AskedFinding → NamedVerdict
joined (Portable picture) None = named.Portable picture
joined (Portable picture) (Some asked) = named.Asked asked
joined (Broken f) asked = broken_or f (earlier_than f asked)

by_place : (registers : ℕ) (t : Terminals) (placed : List Placed) (bytes : List ℕ) (f : Finding) (i : ℕ)
    (a : AskedFinding) (k : ℕ) (early : Bool) → nat_lt a.place f.place ≡ early → registers ≤ 256
    → Document placed bytes → IsFinding registers placed f i → IsFindingAt t placed a k
    → IsVerdictOn registers t placed (broken_or f (if early then Some a else None))
by_place registers t placed bytes f i a k true is few document found asked =
    (k, asked_first registers t placed bytes f i a k few document found asked (ltb-true a.place f.place is))
by_place registers t placed bytes f i a k false is few document found asked =
    let late : ¬ (a.place < f.place) = λ lt.
    let early : nat_lt a.place f.place ≡ true = lt-ltb a.place f.place lt in cc in
    (i, broken_first registers t placed bytes f i a k few document found asked late)

pub joined_is : (registers : ℕ) (t : Terminals) (placed : List Placed) (bytes : List ℕ) (v : Verdict)
    (o : Option AskedFinding) → registers ≤ 256 → Document placed bytes → IsVerdict registers placed v
    → IsAnswer t placed o → IsVerdictOn registers t placed (joined v o)
joined_is registers t placed bytes (Portable p) None few document is answer =
    (is.0, none_is_exact registers t placed few is.0 answer, is.1)
joined_is registers t placed bytes (Portable p) (Some a) few document is answer =
    (answer.0, asked_alone registers t placed a answer.0 few is.0 answer.1)
joined_is registers t placed bytes (Broken f) None few document is answer =
    (is.0, broken_alone registers t placed f is.0 few is.1 answer)
joined_is registers t placed bytes (Broken f) (Some a) few document is answer =
    by_place registers t placed bytes f is.0 a answer.0 (nat_lt a.place f.place) refl few document is.1 answer.1

-- ---- what each terminal of the class shows

broken_right : (registers : ℕ) (placed : List Placed) (f : Finding) (o : Option AskedFinding)
    → IsRightOn registers (events_of placed) (broken_or f o)
broken_right registers placed f None = tt
broken_right registers placed f (Some a) = tt

joined_right : (registers : ℕ) (placed : List Placed) (v : Verdict) (o : Option AskedFinding)
    → IsShownEverywhere registers (events_of placed) v → IsRightOn registers (events_of placed) (joined v o)
joined_right registers placed (Portable p) None everywhere = everywhere
joined_right registers placed (Portable p) (Some a) everywhere = tt
joined_right registers placed (Broken f) o everywhere = broken_right registers placed f (earlier_than f o)

-- ---- without the picture

broken_same : (f : Finding) (o : Option AskedFinding) → broken_outcome_or f o ≡ named_outcome_of (broken_or f o)
broken_same f None = refl
broken_same f (Some a) = refl

pub joined_same : (v : Verdict) (o : Option AskedFinding)
    → joined_outcome (outcome_of v) o ≡ named_outcome_of (joined v o)
joined_same (Portable p) None = refl
joined_same (Portable p) (Some a) = refl
joined_same (Broken f) o = broken_same f (earlier_than f o)

-- ---- the answers

-- the verdict, where it is known where the rules of the bytes are broken first
abbrev written : Verdict → Option AskedFinding → Option ℕ → Option ℕ → NamedVerdict
written v o bare space = with_rule SpaceAfter space (with_rule Bare bare (joined v o))

answers_joined : (registers : ℕ) (t : Terminals) (placed : List Placed) (bytes : List ℕ) (v : Verdict)
    (o : Option AskedFinding) (bare space : Option ℕ) → registers ≤ 256 → Document placed bytes
    → IsVerdict registers placed v → IsShownEverywhere registers (events_of placed) v → IsAnswer t placed o
    → IsBareOn t bytes bare → IsSpaceOn t bytes space → AnswersOn registers t (Ok (written v o bare space)) bytes
answers_joined registers t placed bytes v o bare space few document is everywhere answer bare_is space_is = (
  placed,
  document,
  record {
    by_events = joined v o;
    is = joined_is registers t placed bytes v o few document is answer;
    bare = bare;
    bare_is = bare_is;
    space = space;
    space_is = space_is;
    verdict_is = refl;
  },
  right_with registers placed SpaceAfter space (with_rule Bare bare (joined v o))
      (right_with registers placed Bare bare (joined v o) (joined_right registers placed v o everywhere)),
)

written_same : (v : Verdict) (o : Option AskedFinding) (bare space : Option ℕ)
    → outcome_with SpaceAfter space (outcome_with Bare bare (joined_outcome (outcome_of v) o))
    ≡ named_outcome_of (written v o bare space)
written_same v o bare space =
    ap (λ n. outcome_with SpaceAfter space (outcome_with Bare bare n)) (joined_same v o)
    ∙ ap (outcome_with SpaceAfter space) (with_same Bare bare (joined v o))
    ∙ with_same SpaceAfter space (with_rule Bare bare (joined v o))

pub answers_outcome : (registers : ℕ) (t : Terminals) (placed : List Placed) (bytes : List ℕ) (outcome : Outcome)
    (o : Option AskedFinding) (bare space : Option ℕ) → registers ≤ 256 → Document placed bytes
    → IsOutcome registers placed outcome → IsAnswer t placed o → IsBareOn t bytes bare → IsSpaceOn t bytes space
    → AnswersOutcomeOn registers t
    (Ok (outcome_with SpaceAfter space (outcome_with Bare bare (joined_outcome outcome o)))) bytes
answers_outcome registers t placed bytes outcome o bare space few document is answer bare_is space_is = (
  written is.verdict o bare space,
  answers_joined registers t placed bytes is.verdict o bare space few document is.verdict_is is.everywhere answer
      bare_is space_is,
  rw is.outcome_is (written_same is.verdict o bare space),
)
