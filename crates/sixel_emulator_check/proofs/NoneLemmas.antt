-- A check for no terminal.
use Rattle.std.proofs.Common.{◌≡◌, ℕ, List, None, Ok, refl}
use Rattle.sixel_check.specs.Answers.{Answers, AnswersOutcome}
use Rattle.sixel_grammar.specs.Document.{events_of}
use Rattle.sixel_grammar.specs.declared.command.Event.{Event}
use Rattle.sixel_grammar.specs.declared.command.Placed.{Placed}
use Rattle.sixel_emulator_rules.specs.Asked.{BreaksNoneAsked}
use Rattle.sixel_judge.specs.declared.verdict.Outcome.{Outcome}
use Rattle.sixel_judge.specs.declared.verdict.Verdict.{Verdict}
use Rattle.sixel_judge.specs.declared.verdict.Verdict.TheVariants.{Portable, Broken}
use Rattle.sixel_emulator_check.specs.Answers.{AnswersOn, AnswersOutcomeOn}
use Rattle.sixel_emulator_check.specs.Checking.{joined_outcome}
use Rattle.sixel_emulator_check.specs.Laws.{SameAsCheck, named_verdict, none}
use Rattle.sixel_emulator_check.specs.Verdicts.{IsVerdictOn}
use Rattle.sixel_emulator_check.specs.Written.{IsVerdictOf}
use Rattle.sixel_emulator_check.proofs.JoinLemmas.{joined, joined_same}

-- no terminal asks for a rule
pub none_asked : (events : List Event) → BreaksNoneAsked none events
none_asked events rule asked = cc

-- nor of those of the bytes
by_events_alone : (registers : ℕ) (placed : List Placed) (bytes : List ℕ) (v : Verdict)
    → IsVerdictOn registers none placed (named_verdict v) → IsVerdictOf registers none bytes placed (named_verdict v)
by_events_alone registers placed bytes v is =
    record {
      by_events = named_verdict v;
      is = is;
      bare = None;
      bare_is = refl;
      space = None;
      space_is = refl;
      verdict_is = refl;
    }

pub same_as_check : (registers : ℕ) → SameAsCheck registers
same_as_check registers bytes (Portable p) h =
    let events : List Event = events_of h.0 in
    (h.0, h.1, by_events_alone registers h.0 bytes (Portable p) (h.2.0, none_asked events, h.2.1), h.3)
same_as_check registers bytes (Broken f) h = (
  h.0,
  h.1,
  by_events_alone registers h.0 bytes (Broken f)
      (h.2.0, record { finding = h.2.1; none_asked_earlier = λ m j lt asked. cc }),
  tt,
)

-- ---- by the code

joined_none : (v : Verdict) → joined v None ≡ named_verdict v
joined_none (Portable p) = refl
joined_none (Broken f) = refl

pub joined_answers : (registers : ℕ) (bytes : List ℕ) (v : Verdict) → Answers registers (Ok v) bytes
    → AnswersOn registers none (Ok (joined v None)) bytes
joined_answers registers bytes v h = rw (joined_none v) (same_as_check registers bytes v h)

pub joined_outcome_answers : (registers : ℕ) (bytes : List ℕ) (o : Outcome) → AnswersOutcome registers (Ok o) bytes
    → AnswersOutcomeOn registers none (Ok (joined_outcome o None)) bytes
joined_outcome_answers registers bytes o h = (
  joined h.0 None,
  joined_answers registers bytes h.0 h.1,
  rw h.2 (joined_same h.0 None),
)
