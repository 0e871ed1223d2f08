-- The first broken rule of a string, by offsets.
use Rattle.std.proofs.Common.{◌≡◌, ◌∙◌, ◌⊎◌, ◌<◌, ◌≤◌, inl, inr, ℕ, Bool, true, false, List, Option, Some, None}
use Rattle.std.proofs.Common.{arith, refl, subst, sym}
use Rattle.std.specs.Prelude.{IsTrue, nat_lt, if◌then◌else◌}
use Rattle.std.proofs.lemmas.Bool.{ltb-false, ltb-true}
use Rattle.sixel_grammar.specs.Document.{Document, events_of}
use Rattle.sixel_grammar.specs.declared.command.Placed.{Placed}
use Rattle.sixel_omissions.specs.Omissions.{IsFirstBare, is_bare_at}
use Rattle.sixel_model.specs.Positions.{HoldsAtPosition}
use Rattle.sixel_model.specs.Rules.{Breaks, number_of}
use Rattle.sixel_model.specs.declared.rule.Rule.{Rule}
use Rattle.sixel_model.specs.declared.rule.Rule.TheVariants.{RasterFirst}
use Rattle.sixel_model.proofs.RuleLemmas.{nowhere}
use Rattle.sixel_judge.specs.declared.verdict.Finding.{Finding}
use Rattle.sixel_survey.proofs.PlaceLemmas.{later_place, place_at}
use Rattle.sixel_judge.proofs.OptionLemmas.{same_value}
use Rattle.sixel_emulator_rules.specs.Asked as asked
use Rattle.sixel_emulator_rules.specs.Asked.{BreaksAsked, is_asked}
use Rattle.sixel_emulator_rules.specs.declared.asking.AskedFinding.{AskedFinding}
use Rattle.sixel_emulator_rules.specs.declared.rule.AskedRule.{AskedRule}
use Rattle.sixel_emulator_rules.specs.declared.rule.AskedRule.TheVariants.{Bare, RasterLate, SpaceAfter}
use Rattle.sixel_emulator_rules.specs.declared.terminals.Terminals.{Terminals}
use Rattle.sixel_emulator_check.specs.Rules.{number_of_named}
use Rattle.sixel_emulator_check.specs.Trailer.{IsFirstSpace, is_space_after}
use Rattle.sixel_emulator_check.specs.Verdicts.{IsVerdictOn}
use Rattle.sixel_emulator_check.specs.Written.{IsBareOn, IsIfAsked, IsSpaceOn, with_rule}
use Rattle.sixel_emulator_check.specs.declared.rule.NamedRule.{NamedRule}
use Rattle.sixel_emulator_check.specs.declared.rule.NamedRule.TheVariants as rule
use Rattle.sixel_emulator_check.specs.declared.verdict.NamedVerdict.{NamedVerdict}
use Rattle.sixel_emulator_check.specs.declared.verdict.NamedVerdict.TheVariants.{Portable, Broken, Asked}
use Rattle.sixel_promise_laws.specs.Broken.{CountsFor, HoldsAtOffset, IsBrokenAt, IsFirstBrokenAt}

-- ---- numbers

portable_number : (r : Rule) → number_of r ≤ 13
portable_number RasterFirst = omega arith
portable_number _ = omega arith

asked_number : (m : AskedRule) → 14 ≤ asked.number_of m
asked_number RasterLate = omega arith
asked_number _ = omega arith

-- ---- positions

-- the rule is broken by the event at this position
abbrev BreaksRule : ℕ → List Placed → NamedRule → ℕ → Type 0
BreaksRule registers events (rule.Portable r) j = HoldsAtPosition (Breaks registers r) (events_of events) j
BreaksRule registers events (rule.Asked m) j = HoldsAtPosition (BreaksAsked m) (events_of events) j

-- the rule is broken by the event at this offset
record BreaksThere (registers : ℕ) (events : List Placed) (m : NamedRule) (at : ℕ) : Type 0 where
  position : ℕ
  place : place_at events position ≡ Some at
  broken : BreaksRule registers events m position

-- one of the two rules of the bytes is broken at this offset
abbrev IsOfBytes : List ℕ → NamedRule → ℕ → Type 0
IsOfBytes bytes m at =
    ((m ≡ rule.Asked Bare) × (is_bare_at bytes at ≡ true))
    ⊎ ((m ≡ rule.Asked SpaceAfter) × (is_space_after bytes at ≡ true))

-- a rule is broken by an event, or it is one of these
broken_by : (registers : ℕ) (bytes : List ℕ) (events : List Placed) (m : NamedRule) (at : ℕ)
    → IsBrokenAt registers bytes events m at → BreaksThere registers events m at ⊎ IsOfBytes bytes m at
broken_by registers bytes events (rule.Portable r) at b =
    inl (record { position = b.position; place = b.place; broken = b.holds })
broken_by registers bytes events (rule.Asked Bare) at b = inr (inl (refl, b))
broken_by registers bytes events (rule.Asked SpaceAfter) at b = inr (inr (refl, b))
broken_by registers bytes events (rule.Asked _) at b =
    inl (record { position = b.position; place = b.place; broken = b.holds })

-- the event at the offset p is before the one at the offset q, if p is less
before_place : {events : List Placed} {bytes : List ℕ} (i j p q : ℕ) → Document events bytes
    → place_at events i ≡ Some p → place_at events j ≡ Some q → p < q → i < j
before_place {events} i j p q document here there lt =
    let not_same : ¬ (i ≡ j) = λ e.
    (let moved : place_at events j ≡ Some p = subst (λ (n : ℕ). place_at events n ≡ Some p) e here in
    let one : p ≡ q = same_value (place_at events j) p q moved there in
    omega (arith, one, lt)) in
    let not_later : ¬ (j < i) = λ later.
    (let more : q < p = later_place document j i q p later there here in omega (arith, more, lt)) in
    omega (arith, not_same, not_later)

-- one event has an offset
pub one_place : {events : List Placed} {bytes : List ℕ} (i j p : ℕ) → Document events bytes → place_at events i ≡ Some p
    → place_at events j ≡ Some p → i ≡ j
one_place {events} i j p document here there =
    let not_before : ¬ (i < j) = λ lt.
    (let less : p < p = later_place document i j p p lt here there in omega (arith, less)) in
    let not_later : ¬ (j < i) = λ lt.
    (let less : p < p = later_place document j i p p lt there here in omega (arith, less)) in
    omega (arith, not_before, not_later)

-- ---- the rules of the bytes

-- the first offset that passes
abbrev IsFirstOf : (ℕ → Bool) → Option ℕ → Type 0
IsFirstOf test None = (i : ℕ) → test i ≡ false
IsFirstOf test (Some place) = (test place ≡ true) × ((i : ℕ) → i < place → test i ≡ false)

bare_first_of : (bytes : List ℕ) (o : Option ℕ) → IsFirstBare bytes o → IsFirstOf (is_bare_at bytes) o
bare_first_of bytes None is = is
bare_first_of bytes (Some place) is = is

space_first_of : (bytes : List ℕ) (o : Option ℕ) → IsFirstSpace bytes o → IsFirstOf (is_space_after bytes) o
space_first_of bytes None is = is
space_first_of bytes (Some place) is = is

-- where such a rule counts, it is first broken there
first_counts : (b : Bool) (first : Option ℕ → Type 0) (o : Option ℕ) → IsTrue b → IsIfAsked b first o → first o
first_counts true first o counts is = is
first_counts false first o counts is = cc counts

-- where it is broken first, it counts
counted_first : (b : Bool) (first : Option ℕ → Type 0) (at : ℕ) → IsIfAsked b first (Some at)
    → IsTrue b × first (Some at)
counted_first true first at is = (refl, is)
counted_first false first at is = cc is

-- it is broken at no offset before
none_before : (test : ℕ → Bool) (o : Option ℕ) (at : ℕ) → IsFirstOf test o
    → ((place : ℕ) → o ≡ Some place → at < place) → test at ≡ true → ⊥
none_before test None at is before broken = let no : false ≡ true = sym (is at) ∙ broken in cc
none_before test (Some place) at is before broken =
    let no : false ≡ true = sym (is.1 at (before place refl)) ∙ broken in cc

-- ---- what comes before a verdict on the events

-- the event of this position, or of an earlier one, comes before what the verdict names
abbrev IsEarly : (registers : ℕ) (t : Terminals) (events : List Placed) (v : NamedVerdict)
    → IsVerdictOn registers t events v → ℕ → Type 0
IsEarly registers t events (Portable p) is j = Unit {0}
IsEarly registers t events (Broken f) is j = j < is.0
IsEarly registers t events (Asked f) is j = j < is.0

none_early : (registers : ℕ) (t : Terminals) (events : List Placed) (v : NamedVerdict)
    (is : IsVerdictOn registers t events v) (m : NamedRule) (j : ℕ) → IsEarly registers t events v is j → CountsFor t m
    → BreaksRule registers events m j → ⊥
none_early registers t events (Portable p) is (rule.Portable r) j early counts b =
    nowhere registers r j (events_of events) is.0 b
none_early registers t events (Portable p) is (rule.Asked m) j early counts b = is.1 m counts j b
none_early registers t events (Broken f) is (rule.Portable r) j early counts b =
    is.1.finding.first.none_earlier r j early b
none_early registers t events (Broken f) is (rule.Asked m) j early counts b =
    is.1.none_asked_earlier m j early counts b
none_early registers t events (Asked f) is (rule.Portable r) j early counts b =
    is.1.none_broken r j (omega (arith, early)) b
none_early registers t events (Asked f) is (rule.Asked m) j early counts b =
    is.1.first.none_earlier m j early counts b

-- ---- a verdict with a rule of the bytes

abbrev found_by : AskedRule → ℕ → AskedFinding
found_by r place = record { rule = r; place = place }

earlier_broken : (b : Bool) (h : AskedFinding) (f g : Finding) → nat_lt h.place g.place ≡ b
    → Broken f ≡ (if b then Asked h else Broken g) → (Broken g ≡ Broken f) × (g.place ≤ h.place)
earlier_broken true h f g e is = cc is
earlier_broken false h f g e is = (sym is, ltb-false h.place g.place e)

earlier_is_asked : (b : Bool) (h : AskedFinding) (f : Finding) (g : AskedFinding)
    → Broken f ≡ (if b then Asked h else Asked g) → ⊥
earlier_is_asked true h f g is = cc is
earlier_is_asked false h f g is = cc is

-- if it names a rule of portable pictures, the other verdict does, and the rule of the bytes isn't broken before
pub broken_verdict : (r : AskedRule) (v : NamedVerdict) (o : Option ℕ) (f : Finding) → Broken f ≡ with_rule r o v
    → (v ≡ Broken f) × ((n : ℕ) → o ≡ Some n → f.place ≤ n)
broken_verdict r v None f is = (sym is, λ n e. cc e)
broken_verdict r (Portable p) (Some n) f is = cc is
broken_verdict r (Broken g) (Some n) f is =
    let both = earlier_broken (nat_lt n g.place) (found_by r n) f g refl is in
    let same : g ≡ f = (let e : Broken g ≡ Broken f = both.0 in cc e) in
    let low : f.place ≤ n = subst (λ (h : Finding). h.place ≤ n) same both.1 in (
      both.0,
      λ k e. let one : n ≡ k = (let s : Some n ≡ Some k = e in cc s) in omega (arith, one, low),
    )
broken_verdict r (Asked g) (Some n) f is =
    absurd (earlier_is_asked (nat_lt n g.place) (found_by r n) f g is)

-- the offset comes before what the verdict names, if it names something
abbrev pub IsBehind : ℕ → NamedVerdict → Type 0
IsBehind n (Portable p) = Unit {0}
IsBehind n (Broken g) = n < g.place
IsBehind n (Asked g) = n < g.place

-- the finding is that of the rule, which is first broken there
pub record IsOfRule (r : AskedRule) (v : NamedVerdict) (o : Option ℕ) (f : AskedFinding) : Type 0 where
  pub at : ℕ
  pub first_is : o ≡ Some at
  pub finding_is : f ≡ found_by r at
  pub behind : IsBehind at v

-- the finding is that of the other verdict, and the rule isn't broken before
pub record IsOfOther (v : NamedVerdict) (o : Option ℕ) (f : AskedFinding) : Type 0 where
  pub verdict_is : v ≡ Asked f
  pub not_before : (n : ℕ) → o ≡ Some n → f.place ≤ n

same_finding : (f g : AskedFinding) → Asked f ≡ Asked g → f ≡ g
same_finding f g e = cc e

same_number : (n k : ℕ) → Some n ≡ Some k → n ≡ k
same_number n k e = cc e

before_broken : (b : Bool) (r : AskedRule) (n : ℕ) (f : AskedFinding) (g : Finding) → nat_lt n g.place ≡ b
    → Asked f ≡ (if b then Asked (found_by r n) else Broken g)
    → IsOfOther (Broken g) (Some n) f ⊎ IsOfRule r (Broken g) (Some n) f
before_broken true r n f g e is = inr (record {
  at = n;
  first_is = refl;
  finding_is = same_finding f (found_by r n) is;
  behind = ltb-true n g.place e;
})
before_broken false r n f g e is = cc is

before_asked : (b : Bool) (r : AskedRule) (n : ℕ) (f g : AskedFinding) → nat_lt n g.place ≡ b
    → Asked f ≡ (if b then Asked (found_by r n) else Asked g)
    → IsOfOther (Asked g) (Some n) f ⊎ IsOfRule r (Asked g) (Some n) f
before_asked true r n f g e is = inr (record {
  at = n;
  first_is = refl;
  finding_is = same_finding f (found_by r n) is;
  behind = ltb-true n g.place e;
})
before_asked false r n f g e is =
    let same : f ≡ g = same_finding f g is in
    let low : g.place ≤ n = ltb-false n g.place e in
    inl (record {
      verdict_is = sym is;
      not_before = λ k at.
          subst (λ (h : AskedFinding). h.place ≤ k) (sym same)
          (subst (λ (m : ℕ). g.place ≤ m) (same_number n k at) low);
    })

pub asked_verdict : (r : AskedRule) (v : NamedVerdict) (o : Option ℕ) (f : AskedFinding) → Asked f ≡ with_rule r o v
    → IsOfOther v o f ⊎ IsOfRule r v o f
asked_verdict r v None f is = inl (record { verdict_is = sym is; not_before = λ n e. cc e })
asked_verdict r (Portable p) (Some n) f is =
    inr (record { at = n; first_is = refl; finding_is = same_finding f (found_by r n) is; behind = tt })
asked_verdict r (Broken g) (Some n) f is = before_broken (nat_lt n g.place) r n f g refl is
asked_verdict r (Asked g) (Some n) f is = before_asked (nat_lt n g.place) r n f g refl is

behind_earlier : (b : Bool) (at n place : ℕ) (h : AskedFinding) (v : NamedVerdict) → nat_lt n place ≡ b → h.place ≡ n
    → IsBehind at (if b then Asked h else v) → (IsBehind at v → at < place) → (at < n) × (at < place)
behind_earlier true at n place h v e is behind of =
    let low : n < place = ltb-true n place e in
    let before : at < n = subst (λ (m : ℕ). at < m) is behind in (before, omega (arith, low, before))
behind_earlier false at n place h v e is behind of =
    let high : place ≤ n = ltb-false n place e in
    let before : at < place = of behind in (omega (arith, high, before), before)

-- an offset before what a verdict with a rule names comes before what the other verdict names, and before the rule is
-- broken
pub behind_both : (r : AskedRule) (o : Option ℕ) (v : NamedVerdict) (at : ℕ) → IsBehind at (with_rule r o v)
    → IsBehind at v × ((n : ℕ) → o ≡ Some n → at < n)
behind_both r None v at behind = (behind, λ n e. cc e)
behind_both r (Some n) (Portable p) at behind =
    (tt, λ k e. subst (λ (m : ℕ). at < m) (same_number n k e) behind)
behind_both r (Some n) (Broken g) at behind =
    let both = behind_earlier (nat_lt n g.place) at n g.place (found_by r n) (Broken g) refl refl behind (λ h. h) in
    (both.1, λ k e. subst (λ (m : ℕ). at < m) (same_number n k e) both.0)
behind_both r (Some n) (Asked g) at behind =
    let both = behind_earlier (nat_lt n g.place) at n g.place (found_by r n) (Asked g) refl refl behind (λ h. h) in
    (both.1, λ k e. subst (λ (m : ℕ). at < m) (same_number n k e) both.0)

-- ---- the first broken rule

-- where the rules of the bytes are broken first
pub record AreFirst (t : Terminals) (bytes : List ℕ) (bare space : Option ℕ) : Type 0 where
  pub bare_is : IsBareOn t bytes bare
  pub space_is : IsSpaceOn t bytes space

-- no rule of the bytes that counts is broken at an offset before these
none_of_bytes : (t : Terminals) (bytes : List ℕ) (bare space : Option ℕ) → AreFirst t bytes bare space → (at : ℕ)
    → ((n : ℕ) → bare ≡ Some n → at < n) → ((n : ℕ) → space ≡ Some n → at < n) → (m : NamedRule) → CountsFor t m
    → IsOfBytes bytes m at → ⊥
none_of_bytes t bytes bare space are at no_bare no_space m counts of = elim of [
  | inl b ↦
      none_before (is_bare_at bytes) bare at
      (bare_first_of bytes bare
      (first_counts (is_asked t Bare) (IsFirstBare bytes) bare (subst (CountsFor t) b.0 counts) are.bare_is)) no_bare b.1
  | inr b ↦
      none_before (is_space_after bytes) space at
      (space_first_of bytes space
      (first_counts (is_asked t SpaceAfter) (IsFirstSpace bytes) space (subst (CountsFor t) b.0 counts) are.space_is))
      no_space b.1
]

-- no rule that counts is broken at this offset, if its event is early and both come first behind it
none_at : (registers : ℕ) (t : Terminals) (bytes : List ℕ) (events : List Placed) (v : NamedVerdict)
    (is : IsVerdictOn registers t events v) (bare space : Option ℕ) → AreFirst t bytes bare space → (at : ℕ)
    → ((j : ℕ) → place_at events j ≡ Some at → IsEarly registers t events v is j)
    → ((n : ℕ) → bare ≡ Some n → at < n) → ((n : ℕ) → space ≡ Some n → at < n) → (m : NamedRule) → CountsFor t m
    → IsBrokenAt registers bytes events m at → ⊥
none_at registers t bytes events v is bare space are at early no_bare no_space m counts broken =
    elim (broken_by registers bytes events m at broken) [
      | inl b ↦ none_early registers t events v is m b.position (early b.position b.place) counts b.broken
      | inr b ↦ none_of_bytes t bytes bare space are at no_bare no_space m counts b
    ]

-- an event is early if its offset is before that of what the verdict names
early_before : (registers : ℕ) (t : Terminals) {bytes : List ℕ} (events : List Placed) (v : NamedVerdict)
    (is : IsVerdictOn registers t events v) (n at j : ℕ) → Document events bytes → IsBehind n v → at ≤ n
    → place_at events j ≡ Some at → IsEarly registers t events v is j
early_before registers t events (Portable p) is n at j document behind low here = tt
early_before registers t events (Broken g) is n at j document behind low here =
    before_place j is.0 at g.place document here is.1.finding.place (omega (arith, behind, low))
early_before registers t events (Asked g) is n at j document behind low here =
    before_place j is.0 at g.place document here is.1.place (omega (arith, behind, low))

-- a rule of portable pictures that is found first
pub first_broken : (registers : ℕ) (t : Terminals) (bytes : List ℕ) (events : List Placed) (bare space : Option ℕ)
    (f : Finding) → Document events bytes → IsVerdictOn registers t events (Broken f) → AreFirst t bytes bare space
    → ((n : ℕ) → bare ≡ Some n → f.place ≤ n) → ((n : ℕ) → space ≡ Some n → f.place ≤ n)
    → IsFirstBrokenAt registers t bytes events (rule.Portable f.rule) f.place
first_broken registers t bytes events bare space f document is are no_bare no_space = record {
  counts = tt;
  broken = record { position = is.0; place = is.1.finding.place; holds = is.1.finding.first.broken };
  none_earlier = λ m at lt counts broken.
      none_at registers t bytes events (Broken f) is bare space are at
      (λ j here. before_place j is.0 at f.place document here is.1.finding.place lt)
      (λ n e. let low = no_bare n e in omega (arith, low, lt))
      (λ n e. let low = no_space n e in omega (arith, low, lt)) m counts broken;
  none_smaller = none_smaller;
}
  where
    none_smaller : (m : NamedRule) → number_of_named m < number_of f.rule → CountsFor t m
        → IsBrokenAt registers bytes events m f.place → ⊥
    none_smaller (rule.Portable r) less counts b =
        let same : b.position ≡ is.0 = one_place b.position is.0 f.place document b.place is.1.finding.place in
        is.1.finding.first.none_smaller r less
        (subst (λ (k : ℕ). HoldsAtPosition (Breaks registers r) (events_of events) k) same b.holds)
    none_smaller (rule.Asked m) less counts b =
        absurd (let low = asked_number m in let high = portable_number f.rule in omega (arith, less, low, high))

-- an event breaks no rule of the bytes, which have the greatest numbers
event_number : (m : AskedRule) (events : List Placed) (i : ℕ) → HoldsAtPosition (BreaksAsked m) (events_of events) i
    → asked.number_of m < asked.number_of Bare
event_number RasterLate events i h = omega arith
event_number Bare events i h = absurd h.holds
event_number SpaceAfter events i h = absurd h.holds
event_number _ events i h = omega arith

broken_asked : (registers : ℕ) (bytes : List ℕ) (events : List Placed) (m : AskedRule) (at : ℕ)
    → HoldsAtOffset (BreaksAsked m) events at → IsBrokenAt registers bytes events (rule.Asked m) at
broken_asked registers bytes events Bare at h = absurd h.holds.holds
broken_asked registers bytes events SpaceAfter at h = absurd h.holds.holds
broken_asked registers bytes events _ at h = h

-- a rule of the bytes has no smaller number than one that an event breaks
late_number : (bytes : List ℕ) (m : NamedRule) (at n : ℕ) → IsOfBytes bytes m at → n < asked.number_of Bare
    → number_of_named m < n → ⊥
late_number bytes m at n of few less = elim of [
  | inl b ↦
      let much : asked.number_of Bare < n = subst (λ (k : NamedRule). number_of_named k < n) b.0 less in
      omega (arith, much, few)
  | inr b ↦
      let much : asked.number_of SpaceAfter < n = subst (λ (k : NamedRule). number_of_named k < n) b.0 less in
      omega (arith, much, few)
]

-- a rule that is asked for, which an event breaks first
pub first_asked : (registers : ℕ) (t : Terminals) (bytes : List ℕ) (events : List Placed) (bare space : Option ℕ)
    (f : AskedFinding) → Document events bytes → IsVerdictOn registers t events (Asked f) → AreFirst t bytes bare space
    → ((n : ℕ) → bare ≡ Some n → f.place ≤ n) → ((n : ℕ) → space ≡ Some n → f.place ≤ n)
    → IsFirstBrokenAt registers t bytes events (rule.Asked f.rule) f.place
first_asked registers t bytes events bare space f document is are no_bare no_space = record {
  counts = is.1.first.asked;
  broken = broken_asked registers bytes events f.rule f.place
      (record { position = is.0; place = is.1.place; holds = is.1.first.broken });
  none_earlier = λ m at lt counts broken.
      none_at registers t bytes events (Asked f) is bare space are at
      (λ j here. before_place j is.0 at f.place document here is.1.place lt)
      (λ n e. let low = no_bare n e in omega (arith, low, lt))
      (λ n e. let low = no_space n e in omega (arith, low, lt)) m counts broken;
  none_smaller = none_smaller;
}
  where
    at_one : (m : NamedRule) → number_of_named m < asked.number_of f.rule → CountsFor t m
        → BreaksRule registers events m is.0 → ⊥
    at_one (rule.Portable r) less counts b = is.1.none_broken r is.0 (omega arith) b
    at_one (rule.Asked m) less counts b = is.1.first.none_smaller m less counts b

    none_smaller : (m : NamedRule) → number_of_named m < asked.number_of f.rule → CountsFor t m
        → IsBrokenAt registers bytes events m f.place → ⊥
    none_smaller m less counts broken = elim (broken_by registers bytes events m f.place broken) [
      | inl b ↦
          let same : b.position ≡ is.0 = one_place b.position is.0 f.place document b.place is.1.place in
          at_one m less counts (subst (λ (k : ℕ). BreaksRule registers events m k) same b.broken)
      | inr b ↦
          late_number bytes m f.place (asked.number_of f.rule) b (event_number f.rule events is.0 is.1.first.broken)
          less
    ]

-- `Bare`, which a select breaks first
pub first_bare : (registers : ℕ) (t : Terminals) (bytes : List ℕ) (events : List Placed) (v : NamedVerdict)
    (space : Option ℕ) (n : ℕ) → Document events bytes → IsVerdictOn registers t events v
    → AreFirst t bytes (Some n) space → IsBehind n v → ((k : ℕ) → space ≡ Some k → n ≤ k)
    → IsFirstBrokenAt registers t bytes events (rule.Asked Bare) n
first_bare registers t bytes events v space n document is are behind no_space =
    let first = counted_first (is_asked t Bare) (IsFirstBare bytes) n are.bare_is in
    record {
      counts = first.0;
      broken = first.1.0;
      none_earlier = λ m at lt counts broken.
          none_at registers t bytes events v is (Some n) space are at
          (λ j here. early_before registers t events v is n at j document behind (omega (arith, lt)) here)
          (λ k e. let same = same_number n k e in omega (arith, same, lt))
          (λ k e. let low = no_space k e in omega (arith, low, lt)) m counts broken;
      none_smaller = λ m less counts broken. elim (broken_by registers bytes events m n broken) [
        | inl b ↦
            none_early registers t events v is m b.position
            (early_before registers t events v is n n b.position document behind (omega arith) b.place) counts b.broken
        | inr b ↦ none_less m less b
      ];
    }
  where
    none_less : (m : NamedRule) → number_of_named m < asked.number_of Bare → IsOfBytes bytes m n → ⊥
    none_less m less of = elim of [
      | inl b ↦
          let much : asked.number_of Bare < asked.number_of Bare =
          subst (λ (k : NamedRule). number_of_named k < asked.number_of Bare) b.0 less in
          omega (arith, much)
      | inr b ↦
          let much : asked.number_of SpaceAfter < asked.number_of Bare =
          subst (λ (k : NamedRule). number_of_named k < asked.number_of Bare) b.0 less in
          omega (arith, much)
    ]

-- `SpaceAfter`, which a space breaks first
pub first_space : (registers : ℕ) (t : Terminals) (bytes : List ℕ) (events : List Placed) (v : NamedVerdict)
    (bare : Option ℕ) (n : ℕ) → Document events bytes → IsVerdictOn registers t events v
    → AreFirst t bytes bare (Some n) → IsBehind n (with_rule Bare bare v)
    → IsFirstBrokenAt registers t bytes events (rule.Asked SpaceAfter) n
first_space registers t bytes events v bare n document is are late =
    let first = counted_first (is_asked t SpaceAfter) (IsFirstSpace bytes) n are.space_is in
    let both = behind_both Bare bare v n late in
    record {
      counts = first.0;
      broken = first.1.0;
      none_earlier = λ m at lt counts broken.
          none_at registers t bytes events v is bare (Some n) are at
          (λ j here. early_before registers t events v is n at j document both.0 (omega (arith, lt)) here)
          (λ k e. let low = both.1 k e in omega (arith, low, lt))
          (λ k e. let same = same_number n k e in omega (arith, same, lt)) m counts broken;
      none_smaller = λ m less counts broken. elim (broken_by registers bytes events m n broken) [
        | inl b ↦
            none_early registers t events v is m b.position
            (early_before registers t events v is n n b.position document both.0 (omega arith) b.place) counts b.broken
        | inr b ↦ none_less m less counts both.1 b
      ];
    }
  where
    none_less : (m : NamedRule) → number_of_named m < asked.number_of SpaceAfter → CountsFor t m
        → ((k : ℕ) → bare ≡ Some k → n < k) → IsOfBytes bytes m n → ⊥
    none_less m less counts no_bare of = elim of [
      | inl b ↦
          none_before (is_bare_at bytes) bare n
          (bare_first_of bytes bare
          (first_counts (is_asked t Bare) (IsFirstBare bytes) bare (subst (CountsFor t) b.0 counts) are.bare_is)) no_bare
          b.1
      | inr b ↦
          let much : asked.number_of SpaceAfter < asked.number_of SpaceAfter =
          subst (λ (k : NamedRule). number_of_named k < asked.number_of SpaceAfter) b.0 less in
          omega (arith, much)
    ]
