-- The tallies after more events, and the entries that they make.
use Rattle.std.proofs.Common.{◌≡◌, ◌<◌, ◌≤◌, ◌+◌, ◌-◌, inl, inr, ℕ, zero, suc, Bool, true, false, Option, Some, None}
use Rattle.std.proofs.Common.{List, [], ◌∷◌, ◌++◌, length, refl, sym, ap, subst, ◌∙◌, arith, append-nil, append_assoc}
use Rattle.std.proofs.Common.{replicate, set}
use Rattle.std.specs.Prelude.{IsTrue, filter_map, slice_get}
use Rattle.std.specs.Option.{option_flatten, option_map}
use Rattle.std.proofs.lemmas.Bool.{and_from, and_parts}
use Rattle.sixel_grammar.specs.Document.{Document, events_of}
use Rattle.sixel_grammar.specs.Stretches.{sixels_from}
use Rattle.sixel_grammar.specs.declared.command.Command.TheVariants.{Sixel}
use Rattle.sixel_grammar.specs.declared.command.Event.{Event}
use Rattle.sixel_grammar.specs.declared.command.Event.TheVariants.{Step}
use Rattle.sixel_grammar.specs.declared.command.Placed.{Placed}
use Rattle.sixel_model.specs.Events.{is_data_command}
use Rattle.sixel_model.specs.Positions.{HoldsNowhere}
use Rattle.sixel_model.proofs.PositionLemmas.{get_end, holds_before, holds_end, holds_push, holds_within}
use Rattle.sixel_terminal.proofs.FollowLemmas.{events_then, sixels_are}
use Rattle.sixel_terminal.specs.Stretches.{sixels_of}
use Rattle.sixel_judge.specs.Verdicts.{capped}
use Rattle.sixel_judge.proofs.JudgeLemmas.{events_push, length_events}
use Rattle.sixel_survey.specs.Counting.{HoldsOften}
use Rattle.sixel_survey.proofs.SurveyorLemmas.{few_events}
use Rattle.sixel_survey.proofs.TallyLemmas.{nowhere_push, often_first, often_more, often_same, often_within}
use Rattle.sixel_survey.proofs.TallyLemmas.{place_before}
use Rattle.sixel_emulator_rules.specs.Asked.{is_asked, number_of}
use Rattle.sixel_emulator_rules.specs.Asking.{placed_at}
use Rattle.sixel_emulator_rules.specs.Counts.{asked_in, counts_in, first_in, in_order, is_calm_in}
use Rattle.sixel_emulator_rules.specs.Notes.{IsNotesAfter, passed}
use Rattle.sixel_emulator_rules.specs.Tallies.{AreAskedEntries, CountsAsked, IsAskedEntryAt, IsAskedEntryOf}
use Rattle.sixel_emulator_rules.specs.Tallying.{HasTallied, IsAskedTallyAt, IsAskedTallyOf, next_tally, tallied}
use Rattle.sixel_emulator_rules.specs.Tallying.{tallied_each, tally_in}
use Rattle.sixel_emulator_rules.specs.declared.notes.Notes.{Notes}
use Rattle.sixel_emulator_rules.specs.declared.rule.AskedRule.{AskedRule}
use Rattle.sixel_emulator_rules.specs.declared.rule.AskedRule.TheVariants.{RasterLate, Dropped, Stale, Large, Rows}
use Rattle.sixel_emulator_rules.specs.declared.rule.AskedRule.TheVariants.{Past, Hue}
use Rattle.sixel_emulator_rules.specs.declared.rule.AskedRule.TheVariants.{Far, Introducer, Bare, SpaceAfter}
use Rattle.sixel_emulator_rules.specs.declared.tally.AskedEntry.{AskedEntry}
use Rattle.sixel_emulator_rules.specs.declared.tallying.Tallying.{Tallying}
use Rattle.sixel_emulator_rules.specs.declared.terminals.Terminals.{Terminals}
use Rattle.sixel_emulator_rules.proofs.CalmLemmas.{AreCalm, calm_after, calm_of, none_counted, notes_over}
use Rattle.sixel_emulator_rules.proofs.CountsLemmas.{is_tallied, tallied_in}
use Rattle.sixel_emulator_rules.proofs.FirstLemmas.{none_passes}
use Rattle.sixel_emulator_rules.proofs.QuietLemmas.{data_counts, is_of_data}

-- ---- an event that doesn't count

set_again : {X : Type 0} (l : List (Option X)) (k : ℕ) → set l k (option_flatten (slice_get l k)) ≡ l
set_again [] k = refl
set_again (o ∷ l) zero = refl
set_again (o ∷ l) (suc k) = ap (λ (m : List (Option _)). o ∷ m) (set_again l k)

pub not_tallied : (t : Terminals) (n : Notes) (place : ℕ) (v : Event) (tallies : List (Option AskedEntry))
    (rule : AskedRule) → asked_in t n v rule ≡ false → tallied t n place v tallies rule ≡ tallies
not_tallied t n place v tallies rule is = rw is (set_again tallies (number_of rule - 14))

-- a sixel or a repeat, which only three of the rules can count
pub tallied_data : (t : Terminals) (n : Notes) (place : ℕ) (v : Event) (tallies : List (Option AskedEntry))
    → is_data_command v ≡ true
    → tallied t n place v (tallied t n place v (tallied t n place v tallies Stale) Past) Far
    ≡ tallied_each t n place v tallies
tallied_data t n place v tallies one =
    let count = tallied t n place v in
    let skip = λ (rule : AskedRule) (l : List (Option AskedEntry)) (other : is_of_data rule ≡ false).
    not_tallied t n place v l rule (data_counts t n v rule one other) in
    let dropped = skip Dropped _ refl ∙ skip RasterLate tallies refl in
    let stale = ap (λ (l : List (Option AskedEntry)). count l Stale) dropped in
    let rows = skip Rows _ refl ∙ (skip Large _ refl ∙ stale) in
    let past = ap (λ (l : List (Option AskedEntry)). count l Past) rows in
    let hue = skip Hue _ refl ∙ past in
    let far = ap (λ (l : List (Option AskedEntry)). count l Far) hue in
    sym (skip SpaceAfter _ refl ∙ (skip Bare _ refl ∙ (skip Introducer _ refl ∙ far)))

-- ---- a list of eleven

record Eleven {X : Type 0} (xs : List X) : Type 0 where
  a : X
  b : X
  c : X
  d : X
  e : X
  f : X
  g : X
  h : X
  i : X
  j : X
  k : X
  are : xs ≡ a ∷ b ∷ c ∷ d ∷ e ∷ f ∷ g ∷ h ∷ i ∷ j ∷ k ∷ []

eleven : {X : Type 0} (xs : List X) → length xs ≡ 11 → Eleven xs
eleven (a ∷ b ∷ c ∷ d ∷ e ∷ f ∷ g ∷ h ∷ i ∷ j ∷ k ∷ []) is =
    record { a = a; b = b; c = c; d = d; e = e; f = f; g = g; h = h; i = i; j = j; k = k; are = refl }
eleven _ is = absurd (omega (arith, is))

-- each rule's tally after one more event
each_of : (t : Terminals) (n : Notes) (place : ℕ) (v : Event) (a b c d e f g h i j k : Option AskedEntry)
    (rule : AskedRule)
    → (let tallies : List (Option AskedEntry) = a ∷ b ∷ c ∷ d ∷ e ∷ f ∷ g ∷ h ∷ i ∷ j ∷ k ∷ [] in
    tally_in (tallied_each t n place v tallies) rule
    ≡ next_tally rule place (asked_in t n v rule) (tally_in tallies rule))
each_of t n place v a b c d e f g h i j k RasterLate = refl
each_of t n place v a b c d e f g h i j k Dropped = refl
each_of t n place v a b c d e f g h i j k Stale = refl
each_of t n place v a b c d e f g h i j k Large = refl
each_of t n place v a b c d e f g h i j k Rows = refl
each_of t n place v a b c d e f g h i j k Past = refl
each_of t n place v a b c d e f g h i j k Hue = refl
each_of t n place v a b c d e f g h i j k Far = refl
each_of t n place v a b c d e f g h i j k Introducer = refl
each_of t n place v a b c d e f g h i j k Bare = refl
each_of t n place v a b c d e f g h i j k SpaceAfter = refl

each_after : (t : Terminals) (n : Notes) (place : ℕ) (v : Event) (tallies : List (Option AskedEntry))
    → length tallies ≡ 11 → (rule : AskedRule)
    → tally_in (tallied_each t n place v tallies) rule
    ≡ next_tally rule place (asked_in t n v rule) (tally_in tallies rule)
each_after t n place v tallies is rule =
    let s = eleven tallies is in
    subst (λ (l : List (Option AskedEntry)). tally_in (tallied_each t n place v l) rule
    ≡ next_tally rule place (asked_in t n v rule) (tally_in l rule)) (sym s.are)
    (each_of t n place v s.a s.b s.c s.d s.e s.f s.g s.h s.i s.j s.k rule)

length_after : (t : Terminals) (n : Notes) (place : ℕ) (v : Event) (tallies : List (Option AskedEntry))
    → length tallies ≡ 11 → length (tallied_each t n place v tallies) ≡ 11
length_after t n place v tallies is =
    let s = eleven tallies is in
    subst (λ (l : List (Option AskedEntry)). length (tallied_each t n place v l) ≡ 11) (sym s.are) refl

-- ---- one more event

-- the tally of a rule, with another count of positions
tally_stays : {seen : List Placed} (p : Placed) {tally : AskedEntry} {i : ℕ} (count : ℕ) {often : ℕ}
    → IsAskedTallyAt seen tally i → HoldsOften (CountsAsked tally.rule) (events_of seen ++ p.event ∷ []) often
    → count ≡ capped often → IsAskedTallyAt (seen ++ p ∷ []) (record tally { count = count }) i
tally_stays {seen} p {tally} {i} count {often} at holds is =
    let events : List Event = events_of seen in
    let low : i < length events = holds_within (CountsAsked tally.rule) events i at.counts in
    let events_are = events_push seen p in
    record {
      counts = rw events_are (holds_before (CountsAsked tally.rule) events p.event i low at.counts);
      none_earlier = λ j lt h. elim (holds_push (CountsAsked tally.rule) events p.event j (rw events_are at h)) [
        | inl before ↦ at.none_earlier j lt before.1
        | inr end ↦ absurd (omega (arith, end.0, lt, low))
      ];
      place = place_before seen p i tally.place (omega (arith, low, length_events seen)) at.place;
      often = often;
      holds_often = rw events_are holds;
      count_is = is;
    }

tally_begins : {rule : AskedRule} (seen : List Placed) (p : Placed) → HoldsNowhere (CountsAsked rule) (events_of seen)
    → CountsAsked rule (events_of seen) p.event
    → IsAskedTallyAt (seen ++ p ∷ []) (record { rule = rule; count = 1; place = p.place }) (length (events_of seen))
tally_begins {rule} seen p none here =
    let events : List Event = events_of seen in
    let events_are = events_push seen p in
    record {
      counts = rw events_are (holds_end (CountsAsked rule) events p.event here);
      none_earlier = λ j lt h. elim (holds_push (CountsAsked rule) events p.event j (rw events_are at h)) [
        | inl before ↦ none j before.1
        | inr end ↦ absurd (omega (arith, end.0, lt))
      ];
      place =
          ap (λ (n : ℕ). option_map (λ (q : Placed). q.place) (slice_get (seen ++ p ∷ []) n)) (length_events seen)
          ∙ ap (option_map (λ (q : Placed). q.place)) (get_end seen p);
      often = 1;
      holds_often = rw events_are (often_first (CountsAsked rule) events p.event none here);
      count_is = refl;
    }

capped_more : (n m : ℕ) → n ≡ capped m → capped (n + 1) ≡ capped (m + 1)
capped_more n m is = omega (arith, is)

-- whether the rule is asked for and counts at the event
abbrev Tells : Terminals → AskedRule → List Event → Event → Bool → Type 0
Tells t rule before e counts =
    (counts ≡ true → IsTrue (is_asked t rule) × CountsAsked rule before e)
    × (counts ≡ false → IsTrue (is_asked t rule) → ¬ CountsAsked rule before e)

tally_push : (t : Terminals) (rule : AskedRule) (seen : List Placed) (p : Placed) (b : Bool) (o : Option AskedEntry)
    → Tells t rule (events_of seen) p.event b → IsAskedTallyOf t seen rule o
    → IsAskedTallyOf t (seen ++ p ∷ []) rule (next_tally rule p.place b o)
tally_push t rule seen p false None tells is = λ asked.
    rw (events_push seen p)
    (nowhere_push (CountsAsked rule) (events_of seen) p.event (is asked) (tells.1 refl asked))
tally_push t rule seen p false (Some tally) tells is =
    let at : IsAskedTallyAt seen tally is.2 = is.3 in (
      is.0,
      is.1,
      is.2,
      tally_stays p tally.count at
          (often_same (CountsAsked tally.rule) p.event at.holds_often
          (λ c. tells.1 refl is.0 (subst (λ (r : AskedRule). CountsAsked r (events_of seen) p.event) is.1 c)))
          at.count_is,
    )
tally_push t rule seen p true None tells is =
    let here = tells.0 refl in
    (here.0, refl, length (events_of seen), tally_begins seen p (is here.0) here.1)
tally_push t rule seen p true (Some tally) tells is =
    let at : IsAskedTallyAt seen tally is.2 = is.3 in (
      is.0,
      is.1,
      is.2,
      tally_stays p (capped (tally.count + 1)) at
          (often_more (CountsAsked tally.rule) p.event at.holds_often
          (subst (λ (r : AskedRule). CountsAsked r (events_of seen) p.event) (sym is.1) (tells.0 refl).1))
          (capped_more tally.count at.often at.count_is),
    )

fails : (b : Bool) → b ≡ true → b ≡ false → ⊥
fails b t f = cc

tells : {n : Notes} {before : List Event} (t : Terminals) (e : Event) (rule : AskedRule) → IsNotesAfter n before
    → Tells t rule before e (asked_in t n e rule)
tells {n} t e rule s = (
  λ is. (let parts = and_parts (is_asked t rule) (counts_in n e rule) is in (parts.0, tallied_in e rule s parts.1)),
  λ is asked h.
      fails (asked_in t n e rule)
      (and_from (is_asked t rule) (counts_in n e rule) asked (is_tallied e rule s h)) is,
)

pub tallying_push : (old new : Tallying) (seen : List Placed) (place : ℕ) (e : Event) → new.terminals ≡ old.terminals
    → new.tallies ≡ tallied_each old.terminals old.notes place e old.tallies
    → IsNotesAfter new.notes (events_of seen ++ e ∷ []) → HasTallied old seen
    → HasTallied new (seen ++ placed_at place e ∷ [])
tallying_push old new seen place e same are notes h = record {
  notes_are = rw (events_push seen (placed_at place e)) notes;
  rules = ap length are ∙ length_after old.terminals old.notes place e old.tallies h.rules;
  each = λ rule.
      subst (λ (t : Terminals). IsAskedTallyOf t (seen ++ placed_at place e ∷ []) rule (tally_in new.tallies rule))
      (sym same)
      (subst (IsAskedTallyOf old.terminals (seen ++ placed_at place e ∷ []) rule)
      (sym (ap (λ (l : List (Option AskedEntry)). tally_in l rule) are
      ∙ each_after old.terminals old.notes place e old.tallies h.rules rule))
      (tally_push old.terminals rule seen (placed_at place e) (asked_in old.terminals old.notes e rule)
      (tally_in old.tallies rule) (tells old.terminals e rule h.notes_are) (h.each rule)));
}

-- an event at which none counts
pub tallying_by : (old : Tallying) (notes : Notes) (seen : List Placed) (place : ℕ) (e : Event)
    → first_in old.terminals old.notes e ≡ None → IsNotesAfter notes (events_of seen ++ e ∷ []) → HasTallied old seen
    → HasTallied (record old { notes = notes }) (seen ++ placed_at place e ∷ [])
tallying_by old notes seen place e none are h = record {
  notes_are = rw (events_push seen (placed_at place e)) are;
  rules = h.rules;
  each = λ rule.
      tally_push old.terminals rule seen (placed_at place e) false (tally_in old.tallies rule) (
        λ no. cc,
        λ no. (tells old.terminals e rule h.notes_are).1 (none_passes (asked_in old.terminals old.notes e) rule none),
      )
      (h.each rule);
}

-- ---- sixels at which no rule counts

calm_tally : (t : Terminals) (rule : AskedRule) (o : Option AskedEntry) (seen : List Placed) (place : ℕ)
    (bytes : List ℕ) → AreCalm t (events_of seen) (length bytes) → IsAskedTallyOf t seen rule o
    → IsAskedTallyOf t (seen ++ sixels_from place bytes) rule o
calm_tally t rule o seen place [] calm is =
    subst (λ (l : List Placed). IsAskedTallyOf t l rule o) (sym (append-nil seen)) is
calm_tally t rule o seen place (b ∷ bs) calm is =
    let p : Placed = placed_at place (Step (Sixel (b - 63))) in
    let next : IsAskedTallyOf t (seen ++ p ∷ []) rule o =
    tally_push t rule seen p false o (λ no. cc, λ no asked. none_counted (b - 63) rule calm asked) is in
    subst (λ (l : List Placed). IsAskedTallyOf t l rule o) (append_assoc seen (p ∷ []) (sixels_from (place + 1) bs))
    (calm_tally t rule o (seen ++ p ∷ []) (place + 1) bs
    (subst (λ (es : List Event). AreCalm t es (length bs)) (sym (events_push seen p))
    (calm_after (events_of seen) (length bs) (b - 63) calm)) next)

pub tallying_calm : (old new : Tallying) (seen : List Placed) (place : ℕ) (bytes : List ℕ)
    → new ≡ record old { notes = passed old.notes (length bytes) } → 0 < length bytes
    → is_calm_in old.terminals old.notes (length bytes) ≡ true → HasTallied old seen
    → HasTallied new (seen ++ sixels_from place bytes)
tallying_calm old new seen place bytes is some calm h =
    let are : events_of seen ++ sixels_of bytes ≡ events_of (seen ++ sixels_from place bytes) =
    ap (λ (es : List Event). events_of seen ++ es) (sym (sixels_are place bytes))
    ∙ sym (events_then seen (sixels_from place bytes)) in
    subst (λ (k : Tallying). HasTallied k (seen ++ sixels_from place bytes)) (sym is)
    (record {
      notes_are = subst (IsNotesAfter (passed old.notes (length bytes))) are
          (notes_over old.notes (events_of seen) bytes some h.notes_are);
      rules = h.rules;
      each = λ rule.
          calm_tally old.terminals rule (tally_in old.tallies rule) seen place bytes
          (calm_of old.terminals (length bytes) h.notes_are calm) (h.each rule);
    })

-- ---- before any event

none_yet : (t : Terminals) (rule : AskedRule) (o : Option AskedEntry) → o ≡ None → IsAskedTallyOf t [] rule o
none_yet t rule None is = λ asked i h. cc h.here
none_yet t rule (Some tally) is = cc

none_in : (rule : AskedRule) → tally_in (replicate 11 None) rule ≡ None
none_in RasterLate = refl
none_in _ = refl

pub tallied_none : (t : Terminals) (n : Notes) → IsNotesAfter n []
    → HasTallied (record { terminals = t; notes = n; tallies = replicate 11 None }) []
tallied_none t n s = record {
  notes_are = s;
  rules = refl;
  each = λ rule. none_yet t rule (tally_in (replicate 11 None) rule) (none_in rule);
}

-- ---- the entries

-- in a document no count is capped
exact : {placed : List Placed} {bytes : List ℕ} {tally : AskedEntry} {i : ℕ} → Document placed bytes
    → IsAskedTallyAt placed tally i → IsAskedEntryAt placed tally i
exact {placed} {tally} d at =
    let few : length (events_of placed) ≤ 268435456 = few_events d in
    let within : at.often ≤ length (events_of placed) = often_within (CountsAsked tally.rule) at.holds_often in
    let same : at.often ≡ tally.count = omega (arith, few, within, at.count_is) in
    record {
      counts = at.counts;
      none_earlier = at.none_earlier;
      place = at.place;
      often = subst (HoldsOften (CountsAsked tally.rule) (events_of placed)) same at.holds_often;
    }

entry_of_tally : {placed : List Placed} {bytes : List ℕ} (t : Terminals) (rule : AskedRule) (o : Option AskedEntry)
    → Document placed bytes → IsAskedTallyOf t placed rule o → IsAskedEntryOf t placed rule o
entry_of_tally t rule None d is = is
entry_of_tally t rule (Some tally) d is = (is.0, is.1, is.2, exact d is.3)

kept_by_rule : (tallies : List (Option AskedEntry)) → length tallies ≡ 11
    → filter_map (λ tally. tally) tallies ≡ filter_map (tally_in tallies) in_order
kept_by_rule tallies is =
    let s = eleven tallies is in
    subst (λ (l : List (Option AskedEntry)). filter_map (λ tally. tally) l ≡ filter_map (tally_in l) in_order)
    (sym s.are) refl

pub finished : (tallying : Tallying) (placed : List Placed) (bytes : List ℕ) (entries : List AskedEntry)
    → entries ≡ filter_map (λ tally. tally) tallying.tallies → HasTallied tallying placed → Document placed bytes
    → AreAskedEntries tallying.terminals placed entries
finished tallying placed bytes entries are h d = record {
  entry_of = tally_in tallying.tallies;
  each = λ rule. entry_of_tally tallying.terminals rule (tally_in tallying.tallies rule) d (h.each rule);
  entries_are = are ∙ kept_by_rule tallying.tallies h.rules;
}
