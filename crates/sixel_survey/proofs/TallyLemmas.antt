-- The tallies after one more event.
use Rattle.std.proofs.Common.{◌≡◌, ◌==◌, ◌||◌, ◌<◌, ◌≤◌, ◌+◌, ℕ, zero, suc, Bool, true, false, inl, inr, Option}
use Rattle.std.proofs.Common.{Some, None, List, [], ◌∷◌, ◌++◌, length, refl, sym, ap, subst, ◌∙◌, arith, length-append}
use Rattle.std.specs.Prelude.{filter, slice_get, unwrap_or, if◌then◌else◌}
use Rattle.std.specs.List.{range_with_len}
use Rattle.std.specs.Option.{option_map}
use Rattle.std.proofs.lemmas.Bool.{eq-eqb, eqb-true, false_from_ne_true, ne_eqb, or_cases, or_left, or_right}
use Rattle.std.proofs.Math.Bool.{or-false}
use Rattle.std.proofs.lemmas.List.Elements.{filter-append}
use Rattle.std.proofs.lemmas.List.FromFn.{length-range_with_len}
use Rattle.std.proofs.lemmas.List.Sums.{count_by-le-length, length-filter}
use Rattle.sixel_grammar.specs.declared.command.Event.{Event}
use Rattle.sixel_grammar.specs.declared.command.Placed.{Placed}
use Rattle.sixel_grammar.specs.Document.{events_of}
use Rattle.sixel_model.specs.Positions.{HoldsAtPosition, HoldsNowhere}
use Rattle.sixel_model.proofs.PositionLemmas.{get_before, get_end, holds_before, holds_end, holds_push, holds_within}
use Rattle.sixel_model.specs.declared.rule.Rule.{Rule}
use Rattle.sixel_judge.specs.Verdicts.{IsPixel, capped}
use Rattle.sixel_judge.proofs.JudgeLemmas.{events_push, length_events}
use Rattle.sixel_survey.specs.declared.entry.Entry.{Entry}
use Rattle.sixel_judge.specs.declared.hits.Hit.{Hit}
use Rattle.sixel_judge.specs.Counting.{Counts, IsHit}
use Rattle.sixel_survey.specs.Counting.{HoldsOften}
use Rattle.sixel_survey.specs.Tallies.{IsTallyAt, IsTallyOf, next_tally, tally_with}
use Rattle.sixel_survey.proofs.PlaceLemmas.{place_at}

-- ---- the number of positions

-- a range with one more number
pub range_more : (a n b : ℕ) → a + n ≡ b → range_with_len a (suc n) ≡ range_with_len a n ++ b ∷ []
range_more a zero b e = let same : a ≡ b = omega (arith, e) in ap (λ (k : ℕ). k ∷ []) same
range_more a (suc n) b e = ap (λ (l : List ℕ). a ∷ l) (range_more (a + 1) n b (omega (arith, e)))

-- two tests that agree on the numbers of a range keep the same ones
pub range_agree : (p q : ℕ → Bool) (a n : ℕ) → ((i : ℕ) → a ≤ i → i < a + n → p i ≡ q i)
    → filter p (range_with_len a n) ≡ filter q (range_with_len a n)
range_agree p q a zero same = refl
range_agree p q a (suc n) same =
    rw (
      same a (omega arith) (omega arith),
      range_agree p q (a + 1) n (λ i low high. same i (omega (arith, low)) (omega (arith, high))),
    ) refl

length_push : {X : Type 0} (xs : List X) (x : X) → length (xs ++ x ∷ []) ≡ suc (length xs)
length_push xs x = omega (arith, length-append xs (x ∷ []))

pub kept_last : (test : ℕ → Bool) (n : ℕ) (b : Bool) → test n ≡ b
    → length (filter test (range_with_len 0 (suc n))) ≡ length (filter test (range_with_len 0 n)) + (if b then 1 else 0)
kept_last test n b e =
    ap (λ (l : List ℕ). length (filter test l)) (range_more 0 n n (omega arith))
    ∙ ap length (filter-append test (range_with_len 0 n) (n ∷ []))
    ∙ length-append (filter test (range_with_len 0 n)) (filter test (n ∷ []))
    ∙ ap (λ (k : ℕ). length (filter test (range_with_len 0 n)) + k) (one b e)
  where
    one : (b : Bool) → test n ≡ b → length (filter test (n ∷ [])) ≡ (if b then 1 else 0)
    one true e = rw e refl
    one false e = rw e refl

-- no position is past the end
past_end : {X : Type 0} (P : List X → X → Type 0) {xs : List X} {n : ℕ} (h : HoldsOften P xs n)
    → h.holds (length xs) ≡ false
past_end P {xs} h = false_from_ne_true (h.holds (length xs)) (λ is.
    let low : length xs < length xs = holds_within P xs (length xs) ((h.decides (length xs)).0 is) in omega arith)

-- one more item, at which P doesn't hold
pub often_same : {X : Type 0} (P : List X → X → Type 0) {xs : List X} (x : X) {n : ℕ} → HoldsOften P xs n → ¬ P xs x
    → HoldsOften P (xs ++ x ∷ []) n
often_same P {xs} x h not = record {
  holds = h.holds;
  decides = λ i. (
    λ is. let there = (h.decides i).0 is in holds_before P xs x i (holds_within P xs i there) there,
    λ there. elim (holds_push P xs x i there) [
      | inl before ↦ (h.decides i).1 before.1
      | inr end ↦ absurd (not end.1)
    ],
  );
  often_is =
      let last = kept_last h.holds (length xs) false (past_end P h) in
      let more : length (filter h.holds (range_with_len 0 (length (xs ++ x ∷ []))))
      ≡ length (filter h.holds (range_with_len 0 (suc (length xs)))) =
      ap (λ (k : ℕ). length (filter h.holds (range_with_len 0 k))) (length_push xs x) in
      omega (arith, h.often_is, last, more);
}

-- one more item, at which P holds
pub often_more : {X : Type 0} (P : List X → X → Type 0) {xs : List X} (x : X) {n : ℕ} → HoldsOften P xs n → P xs x
    → HoldsOften P (xs ++ x ∷ []) (n + 1)
often_more P {xs} x h here =
    let test : ℕ → Bool = λ i. h.holds i || (i == length xs) in record {
      holds = test;
      decides = λ i. (
        λ is. elim (or_cases (h.holds i) (i == length xs) is) [
          | inl old ↦
              let there = (h.decides i).0 old in holds_before P xs x i (holds_within P xs i there) there
          | inr end ↦
              subst (HoldsAtPosition P (xs ++ x ∷ [])) (sym (eqb-true i (length xs) end)) (holds_end P xs x here)
        ],
        λ there. elim (holds_push P xs x i there) [
          | inl before ↦ or_left (h.holds i) (i == length xs) ((h.decides i).1 before.1)
          | inr end ↦ or_right (h.holds i) (i == length xs) (eq-eqb i (length xs) end.0)
        ],
      );
      often_is =
          let end : (length xs == length xs) ≡ true = eq-eqb (length xs) (length xs) refl in
          let last = kept_last test (length xs) true (or_right (h.holds (length xs)) (length xs == length xs) end) in
          let same = ap length (range_agree test h.holds 0 (length xs) (λ i low high. only_old i high)) in
          let more : length (filter test (range_with_len 0 (length (xs ++ x ∷ []))))
          ≡ length (filter test (range_with_len 0 (suc (length xs)))) =
          ap (λ (k : ℕ). length (filter test (range_with_len 0 k))) (length_push xs x) in
          omega (arith, h.often_is, last, more, same);
    }
  where
    only_old : (i : ℕ) → i < 0 + length xs → (h.holds i || (i == length xs)) ≡ h.holds i
    only_old i high =
        let other : (i == length xs) ≡ false = ne_eqb i (length xs) (omega (arith, high)) in
        rw other (or-false (h.holds i))

-- P holds at no position of the list, and for the next item
pub often_first : {X : Type 0} (P : List X → X → Type 0) (xs : List X) (x : X) → HoldsNowhere P xs → P xs x
    → HoldsOften P (xs ++ x ∷ []) 1
often_first P xs x none here = often_more P x (record {
  holds = λ i. false;
  decides = λ i. (λ is. cc, λ h. absurd (none i h));
  often_is = sym (nothing (range_with_len 0 (length xs)));
}) here
  where
    nothing : (l : List ℕ) → length (filter (λ i. false) l) ≡ 0
    nothing [] = refl
    nothing (k ∷ ks) = nothing ks

-- P holds at no more positions than there are
pub often_within : {X : Type 0} (P : List X → X → Type 0) {xs : List X} {n : ℕ} → HoldsOften P xs n → n ≤ length xs
often_within P {xs} h =
    let range : List ℕ = range_with_len 0 (length xs) in
    omega (
      arith,
      h.often_is,
      length-filter h.holds range,
      count_by-le-length h.holds range,
      length-range_with_len 0 (length xs),
    )

-- ---- one more event

pub place_before : (seen : List Placed) (p : Placed) (i a : ℕ) → i < length seen → place_at seen i ≡ Some a
    → place_at (seen ++ p ∷ []) i ≡ Some a
place_before seen p i a lt h = ap (option_map (λ (q : Placed). q.place)) (get_before seen (p ∷ []) i lt) ∙ h

-- what holds nowhere and not for the next event holds nowhere
pub nowhere_push : {X : Type 0} (P : List X → X → Type 0) (xs : List X) (x : X) → HoldsNowhere P xs → ¬ P xs x
    → HoldsNowhere P (xs ++ x ∷ [])
nowhere_push P xs x none not i h = elim (holds_push P xs x i h) [
  | inl before ↦ none i before.1
  | inr end ↦ not end.1
]

-- the tally of a rule, with another count of positions
tally_stays : {registers : ℕ} {seen : List Placed} (p : Placed) {t : Entry} {i : ℕ} (count : ℕ) {often : ℕ}
    → IsTallyAt registers seen t i → HoldsOften (Counts registers t.rule) (events_of seen ++ p.event ∷ []) often
    → count ≡ capped often → IsTallyAt registers (seen ++ p ∷ []) (record t { count = count }) i
tally_stays {registers} {seen} p {t} {i} count {often} at holds is =
    let events : List Event = events_of seen in
    let low : i < length events = holds_within (Counts registers t.rule) events i at.counts in
    let events_are = events_push seen p in
    record {
      counts = rw events_are (holds_before (Counts registers t.rule) events p.event i low at.counts);
      none_earlier = λ j lt h. elim (holds_push (Counts registers t.rule) events p.event j (rw events_are at h)) [
        | inl before ↦ at.none_earlier j lt before.1
        | inr end ↦ absurd (omega (arith, end.0, lt, low))
      ];
      place = place_before seen p i t.place (omega (arith, low, length_events seen)) at.place;
      pixel = rw events_are (holds_before (IsPixel t.rule t.pixel) events p.event i low at.pixel);
      often = often;
      holds_often = rw events_are holds;
      count_is = is;
    }

tally_begins : {registers : ℕ} {rule : Rule} (seen : List Placed) (p : Placed) (hit : Hit)
    → HoldsNowhere (Counts registers rule) (events_of seen) → Counts registers rule (events_of seen) p.event
    → IsPixel rule hit.pixel (events_of seen) p.event
    → IsTallyAt registers (seen ++ p ∷ []) (record { rule = rule; count = 1; place = p.place; pixel = hit.pixel })
    (length (events_of seen))
tally_begins {registers} {rule} seen p hit none here pixel =
    let events : List Event = events_of seen in
    let events_are = events_push seen p in
    record {
      counts = rw events_are (holds_end (Counts registers rule) events p.event here);
      none_earlier = λ j lt h. elim (holds_push (Counts registers rule) events p.event j (rw events_are at h)) [
        | inl before ↦ none j before.1
        | inr end ↦ absurd (omega (arith, end.0, lt))
      ];
      place =
          ap (λ (n : ℕ). option_map (λ (q : Placed). q.place) (slice_get (seen ++ p ∷ []) n)) (length_events seen)
          ∙ ap (option_map (λ (q : Placed). q.place)) (get_end seen p);
      pixel = rw events_are (holds_end (IsPixel rule hit.pixel) events p.event pixel);
      often = 1;
      holds_often = rw events_are (often_first (Counts registers rule) events p.event none here);
      count_is = refl;
    }

capped_more : (n m : ℕ) → n ≡ capped m → capped (n + 1) ≡ capped (m + 1)
capped_more n m is = omega (arith, is)

-- the tally of a rule after one more event
pub tally_push : (registers : ℕ) (rule : Rule) (seen : List Placed) (p : Placed) (hit : Option Hit) (t : Option Entry)
    → IsHit registers rule (events_of seen) p.event hit → IsTallyOf registers seen rule t
    → IsTallyOf registers (seen ++ p ∷ []) rule (next_tally rule p.place hit t)
tally_push registers rule seen p None None hit is =
    rw (events_push seen p) (nowhere_push (Counts registers rule) (events_of seen) p.event is hit)
tally_push registers rule seen p None (Some t) hit is =
    let at : IsTallyAt registers seen t is.1 = is.2 in (
      is.0,
      is.1,
      tally_stays p t.count at
          (often_same (Counts registers t.rule) p.event at.holds_often
          (λ c. hit (subst (λ (r : Rule). Counts registers r (events_of seen) p.event) is.0 c))) at.count_is,
    )
tally_push registers rule seen p (Some hit) None here is =
    (refl, length (events_of seen), tally_begins seen p hit is here.0 here.1)
tally_push registers rule seen p (Some hit) (Some t) here is =
    let at : IsTallyAt registers seen t is.1 = is.2 in (
      is.0,
      is.1,
      tally_stays p (capped (t.count + 1)) at
          (often_more (Counts registers t.rule) p.event at.holds_often
          (subst (λ (r : Rule). Counts registers r (events_of seen) p.event) (sym is.0) here.0))
          (capped_more t.count at.often at.count_is),
    )

-- one more event of several
pub with_one_more : (rule : Rule) (place more : ℕ) (first : Option ℕ) (t : Option Entry) → (first ≡ None → more ≡ 0)
    → tally_with rule (Some (unwrap_or first place)) (more + 1) t
    ≡ next_tally rule place (Some (record { pixel = None })) (tally_with rule first more t)
with_one_more rule place more None None none =
    let count : capped (more + 1) ≡ 1 = omega (arith, none refl) in
    ap (λ (n : ℕ). Some (record { rule = rule; count = n; place = place; pixel = None })) count
with_one_more rule place more None (Some t) none =
    let count : capped (t.count + (more + 1)) ≡ capped (t.count + 1) = omega (arith, none refl) in
    ap (λ (n : ℕ). Some (record t { count = n })) count
with_one_more rule place more (Some p) None none =
    let count : capped (more + 1) ≡ capped (capped more + 1) = omega arith in
    ap (λ (n : ℕ). Some (record { rule = rule; count = n; place = p; pixel = None })) count
with_one_more rule place more (Some p) (Some t) none =
    let count : capped (t.count + (more + 1)) ≡ capped (capped (t.count + more) + 1) = omega arith in
    ap (λ (n : ℕ). Some (record t { count = n })) count
