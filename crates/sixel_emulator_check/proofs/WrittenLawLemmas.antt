-- A survey of a string for named terminals and the verdict on it.
use Rattle.std.proofs.Common.{◌≡◌, ◌∙◌, ◌+◌, ◌<◌, ◌≤◌, ◌++◌, ℕ, Bool, true, false, inl, inr, List, [], ◌∷◌, Option}
use Rattle.std.proofs.Common.{Some, None, ap, arith, eq-or-lt_of_le, refl, subst, sym, take}
use Rattle.std.specs.Prelude.{All, Contains, nat_lt, if◌then◌else◌}
use Rattle.std.proofs.lemmas.Bool.{lt-ltb, ltb-true}
use Rattle.std.proofs.lemmas.List.{append-nil}
use Rattle.std.proofs.lemmas.List.Elements.{All-contains, All-contains_itself, All-from_recursion, All-weaker}
use Rattle.std.proofs.lemmas.List.Elements.{Contains-append_cases, Contains-append_left, Contains-append_right}
use Rattle.sixel_grammar.specs.Document.{Document, events_of}
use Rattle.sixel_grammar.specs.declared.command.Event.{Event}
use Rattle.sixel_grammar.specs.declared.command.Placed.{Placed}
use Rattle.sixel_omissions.specs.Omissions.{bare_count}
use Rattle.sixel_judge.specs.declared.verdict.Finding.{Finding}
use Rattle.sixel_judge.proofs.OptionLemmas.{same_value}
use Rattle.sixel_survey.specs.Surveys.{AreEntries}
use Rattle.sixel_survey.specs.declared.entry.Entry.{Entry}
use Rattle.sixel_survey.proofs.FirstEntryLemmas.{entry_kept, entry_of_first}
use Rattle.sixel_survey.proofs.PlaceLemmas.{place_at}
use Rattle.sixel_emulator_rules.specs.Asked.{BreaksAsked, number_of}
use Rattle.sixel_emulator_rules.specs.Asking.{NamesWithin}
use Rattle.sixel_emulator_rules.specs.Tallies.{AreAskedEntries}
use Rattle.sixel_emulator_rules.specs.declared.asking.AskedFinding.{AskedFinding}
use Rattle.sixel_emulator_rules.specs.declared.rule.AskedRule.{AskedRule}
use Rattle.sixel_emulator_rules.specs.declared.rule.AskedRule.TheVariants.{RasterLate, Dropped, Stale, Large, Rows}
use Rattle.sixel_emulator_rules.specs.declared.rule.AskedRule.TheVariants.{Past, Hue, Far, Introducer, Bare, SpaceAfter}
use Rattle.sixel_emulator_rules.specs.declared.tally.AskedEntry.{AskedEntry}
use Rattle.sixel_emulator_rules.specs.declared.terminals.Terminals.{Terminals}
use Rattle.sixel_emulator_rules.proofs.LawLemmas.{names_within}
use Rattle.sixel_emulator_check.specs.Laws.{EmptyIfNoneOn, FirstIsVerdictOn, IsFirstOf, verdict_with}
use Rattle.sixel_emulator_check.specs.Surveys.{IsSurveyOn}
use Rattle.sixel_emulator_check.specs.Trailer.{space_count}
use Rattle.sixel_emulator_check.specs.Verdicts.{IsAskedOn, IsFindingOn, IsVerdictOn}
use Rattle.sixel_emulator_check.specs.Written.{IsBareOn, IsSpaceOn, entry_at, with_finding, with_rule}
use Rattle.sixel_emulator_check.specs.declared.surveying.NamedSurvey.{NamedSurvey}
use Rattle.sixel_emulator_check.specs.declared.verdict.NamedFinding.{NamedFinding}
use Rattle.sixel_emulator_check.specs.declared.verdict.NamedFinding.TheVariants as finding
use Rattle.sixel_emulator_check.specs.declared.verdict.NamedVerdict.{NamedVerdict}
use Rattle.sixel_emulator_check.specs.declared.verdict.NamedVerdict.TheVariants.{Portable, Broken, Asked}
use Rattle.sixel_emulator_check.proofs.OneVerdictLemmas.{verdict_on_exists}
use Rattle.sixel_emulator_check.proofs.SurveyLawLemmas.{counts_within, earlier_place, empty_if_none_on, entered}
use Rattle.sixel_emulator_check.proofs.SurveyLawLemmas.{first_is_verdict_on, unbroken_take}
use Rattle.sixel_emulator_check.proofs.WrittenLemmas.{bare_on_once, space_on_once}

-- ---- no entry

-- the entries of a list, and perhaps one more: there are none
none_of_both : (rule : AskedRule) (often : ℕ) (first : Option ℕ) (more : List AskedEntry)
    → more ++ entry_at rule often first ≡ [] → (more ≡ []) × (first ≡ None)
none_of_both rule often None [] h = (refl, refl)
none_of_both rule often (Some n) [] h = cc
none_of_both rule often first (e ∷ more) h = cc

none_added : (rule : AskedRule) (often : ℕ) (first : Option ℕ) (more : List AskedEntry) → more ≡ [] → first ≡ None
    → more ++ entry_at rule often first ≡ []
none_added rule often first more none unbroken = rw (none, unbroken) refl

pub empty_if_none_of : (registers : ℕ) → registers ≤ 256 → EmptyIfNoneOn registers
empty_if_none_of registers le t bytes placed survey s =
    let by_events = empty_if_none_on registers le t placed s.by_events s.is in
    let more : List AskedEntry = s.by_events.asked.items in
    let bares : ℕ = bare_count bytes in
    let spaces : ℕ = space_count bytes in (
      λ empty.
          (let last = none_of_both SpaceAfter spaces s.space (more ++ entry_at Bare bares s.bare)
          (sym s.asked_are ∙ empty.1) in
          let first = none_of_both Bare bares s.bare more last.0 in
          let unbroken = by_events.0 (sym s.entries_are ∙ empty.0, first.0) in (
            unbroken.0,
            unbroken.1,
            subst (IsBareOn t bytes) first.1 s.bare_is,
            subst (IsSpaceOn t bytes) last.1 s.space_is,
          )),
      λ none.
          (let empty = by_events.1 (none.0, none.1) in
          let no_bare : s.bare ≡ None = bare_on_once t bytes s.bare None s.bare_is none.2 in
          let no_space : s.space ≡ None = space_on_once t bytes s.space None s.space_is none.3 in (
            s.entries_are ∙ empty.0,
            s.asked_are
                ∙ none_added SpaceAfter spaces s.space (more ++ entry_at Bare bares s.bare)
                (none_added Bare bares s.bare more empty.1 no_bare) no_space,
          )),
    )

-- ---- parts of a list

all_left : {X : Type 0} (P : X → Type 0) (xs ys : List X) → All P (xs ++ ys) → All P xs
all_left P xs ys h =
    All-weaker (Contains xs) P (λ x among. All-contains P (xs ++ ys) x h (Contains-append_left xs ys x among)) xs
    (All-contains_itself xs)

here : {X : Type 0} (x : X) → Contains (x ∷ []) x
here x = (0, omega arith, refl)

only : {X : Type 0} (x y : X) → Contains (x ∷ []) y → x ≡ y
only {X} x y h =
    All-contains (λ (z : X). x ≡ z) (x ∷ []) y (All-from_recursion (λ (z : X). x ≡ z) (x ∷ []) (refl, tt)) h

-- ---- a finding behind an offset

earlier_is : (n place : ℕ) (v w : NamedVerdict) → n < place → (if nat_lt n place then v else w) ≡ v
earlier_is n place v w lt = rw (lt-ltb n place lt) refl

later_is : (n place : ℕ) (v w : NamedVerdict) (b : Bool) → nat_lt n place ≡ b → place ≤ n
    → (if b then v else w) ≡ w
later_is n place v w false is le = refl
later_is n place v w true is le = absurd (let lt = ltb-true n place is in omega (arith, lt, le))

-- the finding of the verdict, if it has one, is behind this offset
abbrev IsBehind : ℕ → NamedVerdict → Type 0
IsBehind n (Portable p) = Unit {0}
IsBehind n (Broken f) = n < f.place
IsBehind n (Asked f) = n < f.place

-- then the finding at the offset comes first
first_before : (rule : AskedRule) (n : ℕ) (v : NamedVerdict) → IsBehind n v
    → Asked (record { rule = rule; place = n }) ≡ with_rule rule (Some n) v
first_before rule n (Portable p) behind = refl
first_before rule n (Broken f) behind =
    sym (earlier_is n f.place (Asked (record { rule = rule; place = n })) (Broken f) behind)
first_before rule n (Asked f) behind =
    sym (earlier_is n f.place (Asked (record { rule = rule; place = n })) (Asked f) behind)

-- the earlier of two that are behind it is behind it
behind_earlier : (n : ℕ) (found : AskedFinding) (v : NamedVerdict) (early : Bool) → n < found.place → IsBehind n v
    → IsBehind n (if early then Asked found else v)
behind_earlier n found v true lt behind = lt
behind_earlier n found v false lt behind = behind

behind_with : (n : ℕ) (found : AskedFinding) (v : NamedVerdict) → n < found.place → IsBehind n v
    → IsBehind n (with_finding found v)
behind_with n found (Portable p) lt behind = lt
behind_with n found (Broken f) lt behind =
    behind_earlier n found (Broken f) (nat_lt found.place f.place) lt behind
behind_with n found (Asked f) lt behind = behind_earlier n found (Asked f) (nat_lt found.place f.place) lt behind

-- ---- the verdict on the events is behind it

-- no entry of the two lists has a smaller place, and one that is asked for with this place has this number at least
record AreBehind (n number : ℕ) (entries : List Entry) (more : List AskedEntry) : Type 0 where
  later : All (λ (e : Entry). n < e.place) entries
  places : All (λ (e : AskedEntry). n ≤ e.place) more
  numbers : All (λ (e : AskedEntry). e.place ≡ n → number ≤ number_of e.rule) more

-- an event breaks none of the greatest numbers
broken_number : (rule : AskedRule) (before : List Event) (e : Event) → BreaksAsked rule before e → number_of rule < 23
broken_number RasterLate before e h = omega arith
broken_number Dropped before e h = omega arith
broken_number Stale before e h = omega arith
broken_number Large before e h = omega arith
broken_number Rows before e h = omega arith
broken_number Past before e h = omega arith
broken_number Hue before e h = omega arith
broken_number Far before e h = omega arith
broken_number Introducer before e h = omega arith
broken_number Bare before e h = absurd h
broken_number SpaceAfter before e h = absurd h

-- the place of a finding of a rule that is asked for is behind it
behind_asked : {registers : ℕ} {t : Terminals} {placed : List Placed} {bytes : List ℕ} {entries : List Entry}
    {more : List AskedEntry} {f : AskedFinding} {i : ℕ} (n number : ℕ) → registers ≤ 256 → 23 ≤ number
    → Document placed bytes → AreAskedEntries t placed more → AreBehind n number entries more
    → IsAskedOn registers t placed f i → n < f.place
behind_asked {registers} {t} {placed} {bytes} {entries} {more} {f} {i} n number le great document s behind is =
    let events : List Event = events_of placed in
    let within : NamesWithin (take i events) =
    names_within registers (take i events) le (unbroken_take registers i events is.none_broken) in
    let d = entered s f.rule i is.first.asked (counts_within f.rule i events within is.first.broken) in
    let up : d.at ≤ i = d.up_to in
    let low : n ≤ d.entry.place =
    All-contains (λ (e : AskedEntry). n ≤ e.place) more d.entry behind.places d.among in
    let rule : number_of d.entry.rule ≡ number_of f.rule = ap number_of d.rule_is in
    let few : number_of f.rule < 23 = broken_number f.rule _ _ is.first.broken.holds in
    let other : ¬ (d.entry.place ≡ n) = λ same. (let many : number ≤ number_of d.entry.rule =
    All-contains (λ (e : AskedEntry). e.place ≡ n → number ≤ number_of e.rule) more d.entry behind.numbers d.among
    same in
    omega (arith, many, rule, few, great)) in
    let early : d.at < i → d.entry.place < f.place = λ lt.
    earlier_place i f.place document d.is_entry is.place lt in
    let same : d.at ≡ i → d.entry.place ≡ f.place = λ at.
    same_value (place_at placed i) d.entry.place f.place
    (subst (λ (k : ℕ). place_at placed k ≡ Some d.entry.place) at d.is_entry.place) is.place in
    let not_more : ¬ (f.place < d.entry.place) = λ great. elim (eq-or-lt_of_le up) [
      | inl at ↦ (let one = same at in omega (arith, one, great))
      | inr lt ↦ (let less = early lt in omega (arith, less, great))
    ] in
    omega (arith, low, other, not_more)

behind_broken : {registers : ℕ} {t : Terminals} {placed : List Placed} {entries : List Entry} {f : Finding} {i : ℕ}
    (n : ℕ) → AreEntries registers placed entries → All (λ (e : Entry). n < e.place) entries
    → IsFindingOn registers t placed f i → n < f.place
behind_broken {registers} {t} {placed} {entries} {f} n s least is =
    let e = entry_of_first s is.finding in
    let among : Contains entries e.entry =
    subst (λ (l : List Entry). Contains l e.entry) (sym s.entries_are)
    (entry_kept s.entry_of f.rule e.entry e.is_entry_of) in
    let more : n < e.entry.place = All-contains (λ (d : Entry). n < d.place) entries e.entry least among in
    let place : e.entry.place ≡ f.place = ap (λ (g : Finding). g.place) e.finding_is in
    omega (arith, more, place)

behind_events : {registers : ℕ} {t : Terminals} {placed : List Placed} {bytes : List ℕ} {entries : List Entry}
    {more : List AskedEntry} (n number : ℕ) (v : NamedVerdict) → registers ≤ 256 → 23 ≤ number
    → Document placed bytes → AreEntries registers placed entries → AreAskedEntries t placed more
    → AreBehind n number entries more → IsVerdictOn registers t placed v → IsBehind n v
behind_events n number (Portable p) le great document s u behind is = tt
behind_events n number (Broken f) le great document s u behind is = behind_broken n s behind.later is.1
behind_events n number (Asked f) le great document s u behind is =
    behind_asked n number le great document u behind is.1

-- ---- the entry of one more rule

-- the entries tell of these verdicts: a finding of one that is the first is that of one of them; and one of them is
-- behind each offset that the entries are behind, but for those of rules with a number as great
record Tells (number : ℕ) (entries : List Entry) (more : List AskedEntry) (IsOne : NamedVerdict → Type 0) : Type 0
  where
    first : (f : NamedFinding) → IsFirstOf entries more f → IsOne (verdict_with f)
    verdict : NamedVerdict
    is_one : IsOne verdict
    behind : (n great : ℕ) → number ≤ great → AreBehind n great entries more → IsBehind n verdict

-- those of the events
tells_events : (registers : ℕ) (t : Terminals) (bytes : List ℕ) (placed : List Placed) (survey : NamedSurvey)
    → registers ≤ 256 → Document placed bytes → IsSurveyOn registers t placed survey
    → Tells 23 survey.entries.items survey.asked.items (IsVerdictOn registers t placed)
tells_events registers t bytes placed survey le document is =
    let v = verdict_on_exists registers t placed in record {
      first = λ f first. first_is_verdict_on registers le t placed bytes survey f document is first;
      verdict = v.0;
      is_one = v.1;
      behind = λ n great more behind. behind_events n great v.0 le more document is.entries is.asked behind v.1;
    }

-- one of those verdicts, where the rule is broken first at this offset, if it is
abbrev WithRule : AskedRule → Option ℕ → (NamedVerdict → Type 0) → NamedVerdict → Type 0
WithRule rule first IsOne verdict = (v : NamedVerdict) × IsOne v × (verdict ≡ with_rule rule first v)

-- the first of the entries is another one
first_portable : {number : ℕ} {entries : List Entry} {more : List AskedEntry} {IsOne : NamedVerdict → Type 0}
    (rule : AskedRule) (often n : ℕ) (f : Finding) → Tells number entries more IsOne
    → IsFirstOf entries (more ++ entry_at rule often (Some n)) (finding.Portable f)
    → WithRule rule (Some n) IsOne (Broken f)
first_portable {number} {entries} {more} rule often n f tells first =
    let e : AskedEntry = record { rule = rule; count = often; place = n } in
    let low : f.place ≤ n =
    All-contains (λ (d : AskedEntry). f.place ≤ d.place) (more ++ e ∷ []) e first.1
    (Contains-append_right more (e ∷ []) e (here e)) in (
      Broken f,
      tells.first (finding.Portable f)
          (first.0, all_left (λ (d : AskedEntry). f.place ≤ d.place) more (e ∷ []) first.1),
      sym (later_is n f.place (Asked (record { rule = rule; place = n })) (Broken f) (nat_lt n f.place) refl low),
    )

first_asked : {number : ℕ} {entries : List Entry} {more : List AskedEntry} {IsOne : NamedVerdict → Type 0}
    (rule : AskedRule) (often n : ℕ) (f : AskedFinding) → number ≡ number_of rule → Tells number entries more IsOne
    → IsFirstOf entries (more ++ entry_at rule often (Some n)) (finding.Asked f)
    → WithRule rule (Some n) IsOne (Asked f)
first_asked {number} {entries} {more} rule often n f number_is tells first =
    let e : AskedEntry = record { rule = rule; count = often; place = n } in
    let found : AskedFinding = record { rule = rule; place = n } in
    let places = all_left (λ (d : AskedEntry). f.place ≤ d.place) more (e ∷ []) first.4 in
    let numbers =
    all_left (λ (d : AskedEntry). d.place ≡ f.place → number_of f.rule ≤ number_of d.rule) more (e ∷ []) first.5 in
    let low : f.place ≤ n =
    All-contains (λ (d : AskedEntry). f.place ≤ d.place) (more ++ e ∷ []) e first.4
    (Contains-append_right more (e ∷ []) e (here e)) in
    elim (Contains-append_cases more (e ∷ []) first.1 first.2) [
      | inl among ↦ (
        Asked f,
        tells.first (finding.Asked f) (first.0, first.1, among, first.3, places, numbers),
        sym (later_is n f.place (Asked found) (Asked f) (nat_lt n f.place) refl low),
      )
      | inr last ↦
          let same : f ≡ found =
          first.3 ∙ ap (λ (d : AskedEntry). let g : AskedFinding = record { rule = d.rule; place = d.place } in g)
          (sym (only e first.1 last)) in
          let rest : AreBehind f.place (number_of f.rule) entries more =
          record { later = first.0; places = places; numbers = numbers } in
          let behind : IsBehind n tells.verdict =
          tells.behind n (number_of rule) (omega (arith, number_is))
          (subst (λ (g : AskedFinding). AreBehind g.place (number_of g.rule) entries more) same rest) in (
            tells.verdict,
            tells.is_one,
            ap (λ (g : AskedFinding). Asked g) same ∙ first_before rule n tells.verdict behind,
          )
    ]

first_with : {number : ℕ} {entries : List Entry} {more : List AskedEntry} {IsOne : NamedVerdict → Type 0}
    (rule : AskedRule) (often : ℕ) (o : Option ℕ) (f : NamedFinding) → number ≡ number_of rule
    → Tells number entries more IsOne → IsFirstOf entries (more ++ entry_at rule often o) f
    → WithRule rule o IsOne (verdict_with f)
first_with {number} {entries} {more} rule often None f is tells first = (
  verdict_with f,
  tells.first f (subst (λ (l : List AskedEntry). IsFirstOf entries l f) (append-nil more) first),
  refl,
)
first_with rule often (Some n) (finding.Portable f) is tells first = first_portable rule often n f tells first
first_with rule often (Some n) (finding.Asked f) is tells first = first_asked rule often n f is tells first

-- what the verdict is behind with one more entry
behind_added : {number : ℕ} {entries : List Entry} {more : List AskedEntry} {IsOne : NamedVerdict → Type 0}
    (rule : AskedRule) (often : ℕ) (o : Option ℕ) (n great : ℕ) → number ≡ number_of rule → number < great
    → (tells : Tells number entries more IsOne) → AreBehind n great entries (more ++ entry_at rule often o)
    → IsBehind n (with_rule rule o tells.verdict)
behind_added {number} {entries} {more} rule often None n great is lt tells behind =
    tells.behind n great (omega (arith, lt))
    (subst (AreBehind n great entries) (append-nil more) behind)
behind_added {number} {entries} {more} rule often (Some place) n great is lt tells behind =
    let e : AskedEntry = record { rule = rule; count = often; place = place } in
    let among : Contains (more ++ e ∷ []) e = Contains-append_right more (e ∷ []) e (here e) in
    let low : n ≤ place = All-contains (λ (d : AskedEntry). n ≤ d.place) (more ++ e ∷ []) e behind.places among in
    let other : ¬ (place ≡ n) = λ same. (let many : great ≤ number_of rule =
    All-contains (λ (d : AskedEntry). d.place ≡ n → great ≤ number_of d.rule) (more ++ e ∷ []) e behind.numbers among
    same in
    omega (arith, many, is, lt)) in
    let rest : AreBehind n great entries more = record {
      later = behind.later;
      places = all_left (λ (d : AskedEntry). n ≤ d.place) more (e ∷ []) behind.places;
      numbers = all_left (λ (d : AskedEntry). d.place ≡ n → great ≤ number_of d.rule) more (e ∷ []) behind.numbers;
    } in
    behind_with n (record { rule = rule; place = place }) tells.verdict (omega (arith, low, other))
    (tells.behind n great (omega (arith, lt)) rest)

-- with the entry of a rule, the lists tell of the verdicts with that rule
tells_more : {number : ℕ} {entries : List Entry} {more : List AskedEntry} {IsOne : NamedVerdict → Type 0}
    (rule : AskedRule) (often : ℕ) (o : Option ℕ) → number ≡ number_of rule → Tells number entries more IsOne
    → Tells (number + 1) entries (more ++ entry_at rule often o) (WithRule rule o IsOne)
tells_more rule often o is tells = record {
  first = λ f first. first_with rule often o f is tells first;
  verdict = with_rule rule o tells.verdict;
  is_one = (tells.verdict, tells.is_one, refl);
  behind = λ n great lt behind. behind_added rule often o n great is (omega (arith, lt)) tells behind;
}

-- ---- the first entry

pub first_is_verdict_of : (registers : ℕ) → registers ≤ 256 → FirstIsVerdictOn registers
first_is_verdict_of registers le t placed bytes survey f document s first =
    let events = tells_events registers t bytes placed s.by_events le document s.is in
    let with_bare = tells_more Bare (bare_count bytes) s.bare refl events in
    let with_space = tells_more SpaceAfter (space_count bytes) s.space refl with_bare in
    let found = with_space.first f
    (subst (λ (l : List AskedEntry). IsFirstOf s.by_events.entries.items l f) s.asked_are
    (subst (λ (l : List Entry). IsFirstOf l survey.asked.items f) s.entries_are first)) in
    record {
      by_events = found.1.0;
      is = found.1.1;
      bare = s.bare;
      bare_is = s.bare_is;
      space = s.space;
      space_is = s.space_is;
      verdict_is = found.2 ∙ ap (with_rule SpaceAfter s.space) found.1.2;
    }
