-- A `broken` line is true.
use Rattle.std.proofs.Common.{◌≡◌, ◌∙◌, ◌≤◌, inl, inr, ℕ, List, Ok, Err, Some, ap, refl, subst, sym}
use Rattle.sixel_grammar.specs.Document.{Document}
use Rattle.sixel_grammar.specs.declared.command.Placed.{Placed}
use Rattle.sixel_grammar.proofs.TotalLemmas.{document_whole}
use Rattle.sixel_grammar.proofs.UniqueLemmas.{document_once, fault_no_document}
use Rattle.sixel_model.specs.declared.profile.Profile.{Profile}
use Rattle.sixel_model.specs.Profiles.{count_of}
use Rattle.sixel_judge.specs.declared.verdict.Finding.{Finding}
use Rattle.sixel_judge.specs.declared.verdict.Verdict.TheVariants as judged
use Rattle.sixel_judge.proofs.DifferenceLemmas.{verdict_matters}
use Rattle.sixel_emulator_rules.specs.declared.asking.AskedFinding.{AskedFinding}
use Rattle.sixel_emulator_rules.specs.declared.rule.AskedRule.TheVariants.{Bare, SpaceAfter}
use Rattle.sixel_emulator_rules.specs.declared.terminals.Terminals.{Terminals}
use Rattle.sixel_emulator_check.specs.Verdicts.{IsVerdictOn}
use Rattle.sixel_emulator_check.specs.Written.{IsBareOn, IsSpaceOn, IsVerdictOf, with_rule}
use Rattle.sixel_emulator_check.specs.declared.rule.NamedRule.{NamedRule}
use Rattle.sixel_emulator_check.specs.declared.rule.NamedRule.TheVariants as rule
use Rattle.sixel_emulator_check.specs.declared.verdict.NamedVerdict.{NamedVerdict}
use Rattle.sixel_emulator_check.specs.declared.verdict.NamedVerdict.TheVariants.{Portable, Broken, Asked}
use Rattle.sixel_report.specs.declared.fault.RunFault.TheVariants.{Grammar}
use Rattle.sixel_report.specs.declared.task.Status.{Status}
use Rattle.sixel_report.specs.declared.task.Status.TheVariants as status
use Rattle.sixel_report.specs.Texts.{Text, asked_line, finding_line, named_verdict_line}
use Rattle.sixel_run.specs.Outputs.{status_of}
use Rattle.sixel_promise_laws.specs.Broken.{AskedLineIsTrue, BrokenLineIsTrue, IsFirstBrokenAt, IsTrueAsked}
use Rattle.sixel_promise_laws.specs.Broken.{CountsFor, IsBrokenAt, IsTrueBroken, UnbrokenIsDone}
use Rattle.sixel_promise_laws.proofs.DifferenceLemmas.{difference_of}
use Rattle.sixel_promise_laws.proofs.FirstLemmas.{AreFirst, IsOfOther, IsOfRule, asked_verdict, broken_verdict}
use Rattle.sixel_promise_laws.proofs.FirstLemmas.{first_asked, first_bare, first_broken, first_space}

-- ---- a rule of portable pictures

broken_is : (v : NamedVerdict) (f : Finding) → status.Broken f ≡ status_of v → v ≡ Broken f
broken_is (Portable p) f e = cc e
broken_is (Broken g) f e = let same : f ≡ g = (cc e) in ap (λ (h : Finding). Broken h) (sym same)
broken_is (Asked g) f e = cc e

are_first : {registers : ℕ} {t : Terminals} {bytes : List ℕ} {events : List Placed} {v : NamedVerdict}
    → (w : IsVerdictOf registers t bytes events v) → AreFirst t bytes w.bare w.space
are_first w = record { bare_is = w.bare_is; space_is = w.space_is }

true_broken : (profile : Profile) (t : Terminals) (bytes : List ℕ) (events : List Placed) (f : Finding)
    → Document events bytes → IsVerdictOf (count_of profile) t bytes events (Broken f)
    → IsTrueBroken (count_of profile) t bytes f
true_broken profile t bytes events f document w =
    let n : ℕ = count_of profile in
    let other = broken_verdict SpaceAfter (with_rule Bare w.bare w.by_events) w.space f w.verdict_is in
    let alone = broken_verdict Bare w.by_events w.bare f (sym other.0) in
    let is : IsVerdictOn n t events (Broken f) = subst (IsVerdictOn n t events) alone.0 w.is in
    record {
      events = events;
      document = document;
      first = first_broken n t bytes events w.bare w.space f document is (are_first w) alone.1 other.1;
      matters = verdict_matters n events (judged.Broken f) (document_whole events bytes document)
          (is.0, is.1.finding);
      differs = difference_of profile bytes events f is.0 document is.1.finding;
    }

broken_by : (profile : Profile) (t : Terminals) (bytes : List ℕ) (text : Text) (f : Finding) (events : List Placed)
    (v : NamedVerdict) → Document events bytes → IsVerdictOf (count_of profile) t bytes events v
    → text ≡ named_verdict_line v → v ≡ Broken f
    → (text ≡ finding_line f) × IsTrueBroken (count_of profile) t bytes f
broken_by profile t bytes text f events v document w line is = (
  line ∙ ap named_verdict_line is,
  true_broken profile t bytes events f document
      (subst (λ (u : NamedVerdict). IsVerdictOf (count_of profile) t bytes events u) is w),
)

pub broken_line_is_true : BrokenLineIsTrue
broken_line_is_true profile t bytes text f g =
    broken_by profile t bytes text f g.0 g.2.0 g.1 g.2.1 g.2.2 (broken_is g.2.0 f g.2.3)

-- ---- a rule that a terminal asks for

asked_is : (v : NamedVerdict) (f : AskedFinding) → status.Asked f ≡ status_of v → v ≡ Asked f
asked_is (Portable p) f e = cc e
asked_is (Broken g) f e = cc e
asked_is (Asked g) f e = let same : f ≡ g = (cc e) in ap (λ (h : AskedFinding). Asked h) (sym same)

-- neither rule of the bytes is broken before this finding
event_first : (registers : ℕ) (t : Terminals) (bytes : List ℕ) (events : List Placed) (f : AskedFinding)
    → Document events bytes → (w : IsVerdictOf registers t bytes events (Asked f)) → IsOfOther w.by_events w.bare f
    → ((n : ℕ) → w.space ≡ Some n → f.place ≤ n)
    → IsFirstBrokenAt registers t bytes events (rule.Asked f.rule) f.place
event_first registers t bytes events f document w e no_space =
    first_asked registers t bytes events w.bare w.space f document
    (subst (IsVerdictOn registers t events) e.verdict_is w.is) (are_first w) e.not_before no_space

bare_first : (registers : ℕ) (t : Terminals) (bytes : List ℕ) (events : List Placed) (f : AskedFinding)
    → Document events bytes → (w : IsVerdictOf registers t bytes events (Asked f)) → IsOfRule Bare w.by_events w.bare f
    → ((n : ℕ) → w.space ≡ Some n → f.place ≤ n)
    → IsFirstBrokenAt registers t bytes events (rule.Asked f.rule) f.place
bare_first registers t bytes events f document w b no_space =
    subst (λ (g : AskedFinding). IsFirstBrokenAt registers t bytes events (rule.Asked g.rule) g.place)
    (sym b.finding_is)
    (first_bare registers t bytes events w.by_events w.space b.at document w.is
    (record { bare_is = subst (IsBareOn t bytes) b.first_is w.bare_is; space_is = w.space_is }) b.behind
    (λ k e. subst (λ (g : AskedFinding). g.place ≤ k) b.finding_is (no_space k e)))

space_first : (registers : ℕ) (t : Terminals) (bytes : List ℕ) (events : List Placed) (f : AskedFinding)
    → Document events bytes → (w : IsVerdictOf registers t bytes events (Asked f))
    → IsOfRule SpaceAfter (with_rule Bare w.bare w.by_events) w.space f
    → IsFirstBrokenAt registers t bytes events (rule.Asked f.rule) f.place
space_first registers t bytes events f document w s =
    subst (λ (g : AskedFinding). IsFirstBrokenAt registers t bytes events (rule.Asked g.rule) g.place)
    (sym s.finding_is)
    (first_space registers t bytes events w.by_events w.bare s.at document w.is
    (record { bare_is = w.bare_is; space_is = subst (IsSpaceOn t bytes) s.first_is w.space_is }) s.behind)

first_of_both : (registers : ℕ) (t : Terminals) (bytes : List ℕ) (events : List Placed) (f : AskedFinding)
    → Document events bytes → (w : IsVerdictOf registers t bytes events (Asked f))
    → IsOfOther (with_rule Bare w.bare w.by_events) w.space f
    → IsFirstBrokenAt registers t bytes events (rule.Asked f.rule) f.place
first_of_both registers t bytes events f document w o =
    elim (asked_verdict Bare w.by_events w.bare f (sym o.verdict_is)) [
      | inl e ↦ event_first registers t bytes events f document w e o.not_before
      | inr b ↦ bare_first registers t bytes events f document w b o.not_before
    ]

true_asked : (registers : ℕ) (t : Terminals) (bytes : List ℕ) (events : List Placed) (f : AskedFinding)
    → Document events bytes → IsVerdictOf registers t bytes events (Asked f) → IsTrueAsked registers t bytes f
true_asked registers t bytes events f document w = record {
  events = events;
  document = document;
  first = elim (asked_verdict SpaceAfter (with_rule Bare w.bare w.by_events) w.space f w.verdict_is) [
    | inl o ↦ first_of_both registers t bytes events f document w o
    | inr s ↦ space_first registers t bytes events f document w s
  ];
}

asked_by : (profile : Profile) (t : Terminals) (bytes : List ℕ) (text : Text) (f : AskedFinding) (events : List Placed)
    (v : NamedVerdict) → Document events bytes → IsVerdictOf (count_of profile) t bytes events v
    → text ≡ named_verdict_line v → v ≡ Asked f
    → (text ≡ asked_line f) × IsTrueAsked (count_of profile) t bytes f
asked_by profile t bytes text f events v document w line is = (
  line ∙ ap named_verdict_line is,
  true_asked (count_of profile) t bytes events f document
      (subst (λ (u : NamedVerdict). IsVerdictOf (count_of profile) t bytes events u) is w),
)

pub asked_line_is_true : AskedLineIsTrue
asked_line_is_true profile t bytes text f g =
    asked_by profile t bytes text f g.0 g.2.0 g.1 g.2.1 g.2.2 (asked_is g.2.0 f g.2.3)

-- ---- no broken rule

-- no rule that counts is broken
abbrev IsUnbroken : ℕ → Terminals → List ℕ → List Placed → Type 0
IsUnbroken registers t bytes events =
    (m : NamedRule) (offset : ℕ) → CountsFor t m → ¬ IsBrokenAt registers bytes events m offset

not_first : (registers : ℕ) (t : Terminals) (bytes : List ℕ) (events others : List Placed) (m : NamedRule) (offset : ℕ)
    → Document events bytes → IsUnbroken registers t bytes events → Document others bytes
    → IsFirstBrokenAt registers t bytes others m offset → ⊥
not_first registers t bytes events others m offset document unbroken other first =
    unbroken m offset first.counts
    (subst (λ (l : List Placed). IsBrokenAt registers bytes l m offset)
    (document_once bytes others events other document) first.broken)

done_status : (profile : Profile) (t : Terminals) (bytes : List ℕ) (events others : List Placed) (v : NamedVerdict)
    → Document events bytes → IsUnbroken (count_of profile) t bytes events → Document others bytes
    → IsVerdictOf (count_of profile) t bytes others v → status_of v ≡ status.Done
done_status profile t bytes events others (Portable p) document unbroken other w = refl
done_status profile t bytes events others (Broken f) document unbroken other w =
    let is = true_broken profile t bytes others f other w in
    absurd (not_first (count_of profile) t bytes events is.events (rule.Portable f.rule) f.place document unbroken
    is.document is.first)
done_status profile t bytes events others (Asked f) document unbroken other w =
    let is = true_asked (count_of profile) t bytes others f other w in
    absurd (not_first (count_of profile) t bytes events is.events (rule.Asked f.rule) f.place document unbroken
    is.document is.first)

pub unbroken_is_done : UnbrokenIsDone
unbroken_is_done profile t bytes events document unbroken text (Ok found) g =
    ap (λ (s : Status). Ok s)
    (g.2.3 ∙ done_status profile t bytes events g.0 g.2.0 document unbroken g.1 g.2.1)
unbroken_is_done profile t bytes events document unbroken text (Err (Grammar f)) g =
    absurd (fault_no_document bytes f g.1 (events, document))
unbroken_is_done profile t bytes events document unbroken text (Err other) g = absurd g
