-- The first of some entries of rules that named terminals ask for, one by one.
use Rattle.std.proofs.Common.{◌≡◌, ◌==◌, ◌<◌, ◌≤◌, ◌+◌, ◌⊎◌, ℕ, Bool, true, false, inl, inr, Option, Some, None, List}
use Rattle.std.proofs.Common.{[], ◌∷◌, ◌++◌, length, get_or, take, sym, ap, subst, ◌∙◌, arith}
use Rattle.std.specs.Prelude.{MatchOption, nat_lt, if◌then◌else◌}
use Rattle.std.specs.Option.{option_map_or}
use Rattle.std.proofs.lemmas.Bool.{and_from, and_parts, eq-eqb, eqb-true, lt-ltb, ltb-true, or_cases, or_left, or_right}
use Rattle.std.proofs.lemmas.List.{take_more}
use Rattle.std.proofs.lemmas.List.Elements.{All-nil, All-push, All-weaker, Contains-append_left, Contains-push}
use Rattle.sixel_emulator_rules.specs.Asked.{number_of}
use Rattle.sixel_emulator_rules.specs.declared.tally.AskedEntry.{AskedEntry}
use Rattle.sixel_report.specs.Firsts.{IsFirstAskedEntry, asked_before}

-- the first of the entries, if there are any
abbrev pub IsFirstAskedOf : List AskedEntry → Option AskedEntry → Type 0
IsFirstAskedOf entries o = MatchOption o (entries ≡ []) (IsFirstAskedEntry entries)

earlier_parts : (e b : AskedEntry) → asked_before e b ≡ true
    → (e.place < b.place) ⊎ ((e.place ≡ b.place) × (number_of e.rule < number_of b.rule))
earlier_parts e b h = elim (or_cases (nat_lt e.place b.place) _ h) [
  | inl before ↦ inl (ltb-true e.place b.place before)
  | inr beside ↦
      let parts = and_parts (e.place == b.place) (nat_lt (number_of e.rule) (number_of b.rule)) beside in
      inr (eqb-true e.place b.place parts.0, ltb-true (number_of e.rule) (number_of b.rule) parts.1)
]

no_earlier : (e b : AskedEntry) → asked_before e b ≡ false
    → (b.place ≤ e.place) × (e.place ≡ b.place → number_of b.rule ≤ number_of e.rule)
no_earlier e b h =
    let not_left : ¬ (e.place < b.place) = λ lt.
    let is : asked_before e b ≡ true = or_left (nat_lt e.place b.place) _ (lt-ltb e.place b.place lt) in cc in
    let not_right : e.place ≡ b.place → ¬ (number_of e.rule < number_of b.rule) = λ same lt.
    let is : asked_before e b ≡ true =
    or_right (nat_lt e.place b.place) _
    (and_from (e.place == b.place) (nat_lt (number_of e.rule) (number_of b.rule)) (eq-eqb e.place b.place same)
    (lt-ltb (number_of e.rule) (number_of b.rule) lt)) in cc in
    (omega (arith, not_left), λ same. omega (arith, not_right same))

first_alone : (e : AskedEntry) → IsFirstAskedEntry (e ∷ []) e
first_alone e = record {
  among = Contains-push [] e;
  least_place = All-push (λ (d : AskedEntry). e.place ≤ d.place) [] e (All-nil _) (omega arith);
  least_number = All-push (λ (d : AskedEntry). d.place ≡ e.place → number_of e.rule ≤ number_of d.rule) [] e (All-nil _)
      (λ same. omega arith);
}

first_new : {entries : List AskedEntry} (e : AskedEntry) {b : AskedEntry} → IsFirstAskedEntry entries b
    → asked_before e b ≡ true → IsFirstAskedEntry (entries ++ e ∷ []) e
first_new {entries} e {b} f h =
    let order = earlier_parts e b h in
    let at_most : e.place ≤ b.place =
    elim order [ inl lt ↦ omega (arith, lt) | inr beside ↦ omega (arith, beside.0) ] in
    let below : e.place ≡ b.place → number_of e.rule < number_of b.rule = λ same.
    elim order [ inl lt ↦ absurd (omega (arith, lt, same)) | inr beside ↦ beside.1 ] in
    record {
      among = Contains-push entries e;
      least_place = All-push (λ (d : AskedEntry). e.place ≤ d.place) entries e
          (All-weaker (λ (d : AskedEntry). b.place ≤ d.place) (λ (d : AskedEntry). e.place ≤ d.place)
          (λ d le. omega (arith, at_most, le)) entries f.least_place) (omega arith);
      least_number = All-push (λ (d : AskedEntry). d.place ≡ e.place → number_of e.rule ≤ number_of d.rule) entries e
          (λ k d lt same.
          let place : b.place ≤ (get_or entries k d).place = f.least_place k d lt in
          let together : e.place ≡ b.place = omega (arith, place, same, at_most) in
          let number = f.least_number k d lt (same ∙ together) in
          omega (arith, number, below together)) (λ same. omega arith);
    }

first_stays : {entries : List AskedEntry} (e : AskedEntry) {b : AskedEntry} → IsFirstAskedEntry entries b
    → asked_before e b ≡ false → IsFirstAskedEntry (entries ++ e ∷ []) b
first_stays {entries} e {b} f h =
    let order = no_earlier e b h in
    record {
      among = Contains-append_left entries (e ∷ []) b f.among;
      least_place = All-push (λ (d : AskedEntry). b.place ≤ d.place) entries e f.least_place order.0;
      least_number = All-push (λ (d : AskedEntry). d.place ≡ b.place → number_of b.rule ≤ number_of d.rule) entries e
          f.least_number order.1;
    }

first_push : (entries : List AskedEntry) (e : AskedEntry) (o : Option AskedEntry) (b : Bool)
    → option_map_or (asked_before e) o true ≡ b → IsFirstAskedOf entries o
    → IsFirstAskedOf (entries ++ e ∷ []) (if b then Some e else o)
first_push entries e None true h none =
    subst (λ (l : List AskedEntry). IsFirstAskedEntry (l ++ e ∷ []) e) (sym none) (first_alone e)
first_push entries e None false h none = cc
first_push entries e (Some b) true h f = first_new e f h
first_push entries e (Some b) false h f = first_stays e f h

-- the first of one more entry
pub first_more : (entries : List AskedEntry) (k j : ℕ) (d : AskedEntry) (o : Option AskedEntry) (b : Bool)
    → k < length entries → j ≡ k + 1 → option_map_or (asked_before (get_or entries k d)) o true ≡ b
    → IsFirstAskedOf (take k entries) o
    → IsFirstAskedOf (take j entries) (if b then Some (get_or entries k d) else o)
first_more entries k j d o b lt next h f =
    subst (λ (l : List AskedEntry). IsFirstAskedOf l (if b then Some (get_or entries k d) else o))
    (sym (ap (λ (n : ℕ). take n entries) next ∙ take_more entries k d lt))
    (first_push (take k entries) (get_or entries k d) o b h f)
