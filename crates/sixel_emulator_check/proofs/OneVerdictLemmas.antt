-- A list of events has exactly one verdict for named terminals.
use Rattle.std.proofs.Common.{◌≡◌, ◌∙◌, ◌<◌, ◌≤◌, ℕ, inl, inr, List, length, ap, arith, subst, sym}
use Rattle.std.proofs.lemmas.Bool.{cases_lt}
use Rattle.std.proofs.lemmas.List.{length-map}
use Rattle.sixel_grammar.specs.declared.command.Placed.{Placed}
use Rattle.sixel_grammar.specs.Document.{events_of}
use Rattle.sixel_model.specs.Positions.{HoldsAtPosition}
use Rattle.sixel_model.specs.Rules.{Breaks}
use Rattle.sixel_model.specs.declared.rule.Rule.{Rule}
use Rattle.sixel_model.proofs.RuleLemmas.{nowhere}
use Rattle.sixel_judge.specs.declared.verdict.Finding.{Finding}
use Rattle.sixel_judge.specs.declared.verdict.Verdict.{Verdict}
use Rattle.sixel_judge.specs.declared.verdict.Verdict.TheVariants as verdict
use Rattle.sixel_judge.specs.Verdicts.{IsFinding, IsVerdict}
use Rattle.sixel_judge.proofs.DecideLemmas.{place_of, verdict_exists}
use Rattle.sixel_judge.proofs.OptionLemmas.{same_value}
use Rattle.sixel_judge.proofs.VerdictLemmas.{verdict_once}
use Rattle.sixel_emulator_rules.specs.Asked.{BreaksNoneAsked, IsFirstAsked, number_of}
use Rattle.sixel_emulator_rules.specs.declared.asking.AskedFinding.{AskedFinding}
use Rattle.sixel_emulator_rules.specs.declared.rule.AskedRule.{AskedRule}
use Rattle.sixel_emulator_rules.specs.declared.terminals.Terminals.{Terminals}
use Rattle.sixel_emulator_rules.proofs.FirstLemmas.{same_number}
use Rattle.sixel_emulator_check.specs.Verdicts.{IsAskedOn, IsFindingOn, IsVerdictOn}
use Rattle.sixel_emulator_check.specs.declared.verdict.NamedVerdict.{NamedVerdict}
use Rattle.sixel_emulator_check.specs.declared.verdict.NamedVerdict.TheVariants.{Portable, Broken, Asked}
use Rattle.sixel_emulator_check.proofs.DecidedLemmas.{asked_or_none}

-- ---- at most one

broken_once : {registers : ℕ} {placed : List Placed} {f g : Finding} {i j : ℕ} → IsFinding registers placed f i
    → IsFinding registers placed g j → f ≡ g
broken_once {registers} {placed} {f} {g} {i} {j} a b =
    let same : verdict.Broken f ≡ verdict.Broken g =
    verdict_once registers placed (verdict.Broken f) (verdict.Broken g) (i, a) (j, b) in cc

make : AskedRule → ℕ → AskedFinding
make rule place = record { rule = rule; place = place }

found_once : {registers : ℕ} {t : Terminals} {placed : List Placed} {f g : AskedFinding} {i : ℕ}
    → IsAskedOn registers t placed f i → IsAskedOn registers t placed g i → f ≡ g
unfolding make
found_once {f} {g} a b =
    let not_less : ¬ (number_of f.rule < number_of g.rule) =
    λ lt. b.first.none_smaller f.rule lt a.first.asked a.first.broken in
    let not_more : ¬ (number_of g.rule < number_of f.rule) =
    λ lt. a.first.none_smaller g.rule lt b.first.asked b.first.broken in
    let rule : f.rule ≡ g.rule = same_number f.rule g.rule (omega (arith, not_less, not_more)) in
    let place : f.place ≡ g.place = same_value _ f.place g.place a.place b.place in
    let whole : make f.rule f.place ≡ make g.rule g.place = cc (rule, place) in
    whole

asked_once : {registers : ℕ} {t : Terminals} {placed : List Placed} {f g : AskedFinding} {i j : ℕ}
    → IsAskedOn registers t placed f i → IsAskedOn registers t placed g j → f ≡ g
asked_once {registers} {t} {placed} {f} {g} {i} {j} a b =
    let not_less : ¬ (i < j) = λ lt. b.first.none_earlier f.rule i lt a.first.asked a.first.broken in
    let not_more : ¬ (j < i) = λ lt. a.first.none_earlier g.rule j lt b.first.asked b.first.broken in
    let same : i ≡ j = omega (arith, not_less, not_more) in
    found_once (subst (IsAskedOn registers t placed f) same a) b

-- no list has both findings
not_both : {registers : ℕ} {t : Terminals} {placed : List Placed} {f : Finding} {g : AskedFinding} {i j : ℕ}
    → IsFindingOn registers t placed f i → IsAskedOn registers t placed g j → ⊥
not_both {f} {g} {i} {j} a b =
    let not_later : ¬ (i ≤ j) = λ le. b.none_broken f.rule i le a.finding.first.broken in
    let not_earlier : ¬ (j < i) = λ lt. a.none_asked_earlier g.rule j lt b.first.asked b.first.broken in
    omega (arith, not_later, not_earlier)

pub verdict_on_once : (registers : ℕ) (t : Terminals) (placed : List Placed) (v w : NamedVerdict)
    → IsVerdictOn registers t placed v → IsVerdictOn registers t placed w → v ≡ w
verdict_on_once registers t placed (Portable p) (Portable q) a b = ap (λ r. Portable r) (a.2 ∙ sym b.2)
verdict_on_once registers t placed (Portable p) (Broken g) a b =
    absurd (nowhere registers g.rule b.0 (events_of placed) a.0 (b.1).finding.first.broken)
verdict_on_once registers t placed (Portable p) (Asked g) a b =
    absurd (a.1 g.rule (b.1).first.asked b.0 (b.1).first.broken)
verdict_on_once registers t placed (Broken f) (Portable q) a b =
    absurd (nowhere registers f.rule a.0 (events_of placed) b.0 (a.1).finding.first.broken)
verdict_on_once registers t placed (Broken f) (Broken g) a b =
    ap (λ h. Broken h) (broken_once (a.1).finding (b.1).finding)
verdict_on_once registers t placed (Broken f) (Asked g) a b = absurd (not_both a.1 b.1)
verdict_on_once registers t placed (Asked f) (Portable q) a b =
    absurd (b.1 f.rule (a.1).first.asked a.0 (a.1).first.broken)
verdict_on_once registers t placed (Asked f) (Broken g) a b = absurd (not_both b.1 a.1)
verdict_on_once registers t placed (Asked f) (Asked g) a b = ap (λ h. Asked h) (asked_once a.1 b.1)

-- ---- at least one

abbrev SomeVerdict : ℕ → Terminals → List Placed → Type 0
SomeVerdict registers t placed = (v : NamedVerdict) × IsVerdictOn registers t placed v

-- no rule of portable pictures is broken up to position i
abbrev NoneUpTo : ℕ → List Placed → ℕ → Type 0
NoneUpTo registers placed i =
    (m : Rule) (j : ℕ) → j ≤ i → ¬ HoldsAtPosition (Breaks registers m) (events_of placed) j

asked_at : (registers : ℕ) (t : Terminals) (placed : List Placed) (rule : AskedRule) (i : ℕ)
    → i < length (events_of placed) → IsFirstAsked t (events_of placed) rule i → NoneUpTo registers placed i
    → SomeVerdict registers t placed
asked_at registers t placed rule i lt first none =
    let place = place_of placed i
    (subst (λ (n : ℕ). i < n) (length-map placed (λ (p : Placed). p.event)) lt) in (
      Asked (record { rule = rule; place = place.0 }),
      (i, record { first = first; place = place.1; none_broken = none }),
    )

with_asked : (registers : ℕ) (t : Terminals) (placed : List Placed) (v : Verdict) → IsVerdict registers placed v
    → (rule : AskedRule) (i : ℕ) → i < length (events_of placed) → IsFirstAsked t (events_of placed) rule i
    → SomeVerdict registers t placed
with_asked registers t placed (verdict.Portable p) is rule i lt first =
    asked_at registers t placed rule i lt first (λ m j le h. nowhere registers m j (events_of placed) is.0 h)
with_asked registers t placed (verdict.Broken f) is rule i lt first = elim (cases_lt i is.0) [
  | inl before ↦ asked_at registers t placed rule i lt first (λ m j le h.
      (is.1).first.none_earlier m j (omega (arith, le, before)) h)
  | inr later ↦ (
    Broken f,
    (
      is.0,
      record {
        finding = is.1;
        none_asked_earlier = λ m j low asked h. first.none_earlier m j (omega (arith, low, later)) asked h;
      },
    ),
  )
]

without_asked : (registers : ℕ) (t : Terminals) (placed : List Placed) (v : Verdict) → IsVerdict registers placed v
    → BreaksNoneAsked t (events_of placed) → SomeVerdict registers t placed
without_asked registers t placed (verdict.Portable p) is none = (Portable p, (is.0, none, is.1))
without_asked registers t placed (verdict.Broken f) is none = (
  Broken f,
  (is.0, record { finding = is.1; none_asked_earlier = λ m j low asked h. none m asked j h }),
)

pub verdict_on_exists : (registers : ℕ) (t : Terminals) (placed : List Placed)
    → (v : NamedVerdict) × IsVerdictOn registers t placed v
verdict_on_exists registers t placed =
    let v = verdict_exists registers placed in
    elim (asked_or_none t (events_of placed)) [
      | inl f ↦ with_asked registers t placed v.0 v.1 f.2 f.0 f.1 f.3
      | inr none ↦ without_asked registers t placed v.0 v.1 none
    ]
