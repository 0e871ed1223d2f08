-- What an asking has found, with more events, and what it answers.
use Rattle.std.proofs.Common.{◌≡◌, ◌<◌, ◌≤◌, inl, inr, ℕ, zero, suc, Bool, true, false}
use Rattle.std.proofs.Common.{Option, Some, None, List, [], ◌∷◌, ◌++◌, length, take, refl, sym, ap, ◌∙◌, subst, arith}
use Rattle.std.proofs.Common.{append_assoc}
use Rattle.std.specs.Prelude.{IsTrue, slice_get}
use Rattle.std.specs.Option.{option_map}
use Rattle.std.proofs.lemmas.Bool.{and_from, and_parts}
use Rattle.std.proofs.lemmas.List.{take-append-le}
use Rattle.std.proofs.Math.Seq.{take-append_seam}
use Rattle.sixel_grammar.specs.Document.{events_of}
use Rattle.sixel_grammar.specs.declared.command.Event.{Event}
use Rattle.sixel_grammar.specs.declared.command.Placed.{Placed}
use Rattle.sixel_model.specs.Positions.{HoldsAtPosition}
use Rattle.sixel_model.specs.Rules.{Breaks}
use Rattle.sixel_model.specs.declared.rule.Rule.TheVariants.{Register}
use Rattle.sixel_model.proofs.PositionLemmas.{get_before, holds_push}
use Rattle.sixel_terminal.proofs.FollowLemmas.{events_then}
use Rattle.sixel_emulator_rules.specs.Asked.{BreaksAsked, BreaksNoneAsked, IsFirstAsked, is_asked, number_of}
use Rattle.sixel_emulator_rules.specs.Asking.{BreaksNoneWithin, HasAskedBy, IsAnswer, IsFindingAt, IsFound, NamesWithin}
use Rattle.sixel_emulator_rules.specs.Asking.{found_at}
use Rattle.sixel_emulator_rules.specs.Asking.{placed_at}
use Rattle.sixel_emulator_rules.specs.Counts.{asked_in, counts_in, first_in}
use Rattle.sixel_emulator_rules.specs.Notes.{IsNotesAfter}
use Rattle.sixel_emulator_rules.specs.declared.asking.AskedFinding.{AskedFinding}
use Rattle.sixel_emulator_rules.specs.declared.notes.Notes.{Notes}
use Rattle.sixel_emulator_rules.specs.declared.rule.AskedRule.{AskedRule}
use Rattle.sixel_emulator_rules.specs.declared.terminals.Terminals.{Terminals}
use Rattle.sixel_emulator_rules.proofs.CountsLemmas.{counted, is_counted}
use Rattle.sixel_emulator_rules.proofs.FirstLemmas.{first_is_least, first_passes, none_passes}

-- ---- positions in the first of the items

got : {X : Type 0} (k : ℕ) (xs : List X) (i : ℕ) (x : X) → slice_get (take k xs) i ≡ Some x
    → (i < k) × (slice_get xs i ≡ Some x)
got zero xs i x h = cc
got (suc k) [] i x h = cc
got (suc k) (y ∷ ys) zero x h = (omega arith, h)
got (suc k) (y ∷ ys) (suc i) x h =
    let rest = got k ys i x h in
    let lt : i < k = rest.0 in
    (omega (arith, lt), rest.1)

take_of_take : {X : Type 0} (i k : ℕ) (xs : List X) → i ≤ k → take i (take k xs) ≡ take i xs
take_of_take zero k xs le = refl
take_of_take (suc i) zero xs le = absurd (omega (arith, le))
take_of_take (suc i) (suc k) [] le = refl
take_of_take (suc i) (suc k) (y ∷ ys) le = ap (λ (zs : List _). y ∷ zs) (take_of_take i k ys (omega (arith, le)))

pub held_in_take : {X : Type 0} (P : List X → X → Type 0) (k : ℕ) (xs : List X) (i : ℕ)
    → HoldsAtPosition P (take k xs) i → (i < k) × HoldsAtPosition P xs i
held_in_take P k xs i h =
    let g = got k xs i h.item h.here in
    let lt : i < k = g.0 in (
      lt,
      record {
        item = h.item;
        here = g.1;
        holds = subst (λ (t : List _). P t h.item) (take_of_take i k xs (omega (arith, lt))) h.holds;
      },
    )

holds_front : {X : Type 0} (P : List X → X → Type 0) (xs ys : List X) (i : ℕ) → i < length xs
    → HoldsAtPosition P (xs ++ ys) i → HoldsAtPosition P xs i
holds_front P xs ys i lt h =
    let le : i ≤ length xs = omega (arith, lt) in
    record {
      item = h.item;
      here = sym (get_before xs ys i lt) ∙ h.here;
      holds = subst (λ (t : List _). P t h.item) (take-append-le i xs ys le) h.holds;
    }

get_middle : {X : Type 0} (xs ys : List X) (x : X) → slice_get (xs ++ x ∷ ys) (length xs) ≡ Some x
get_middle [] ys x = refl
get_middle (z ∷ zs) ys x = get_middle zs ys x

holds_middle : {X : Type 0} (P : List X → X → Type 0) (xs ys : List X) (x : X) → P xs x
    → HoldsAtPosition P (xs ++ x ∷ ys) (length xs)
holds_middle P xs ys x h = record {
  item = x;
  here = get_middle xs ys x;
  holds = subst (λ (t : List _). P t x) (sym (take-append_seam xs (x ∷ ys))) h;
}

held_middle : {X : Type 0} (P : List X → X → Type 0) (xs ys : List X) (x : X)
    → HoldsAtPosition P (xs ++ x ∷ ys) (length xs) → P xs x
held_middle P xs ys x h =
    let same : h.item ≡ x = some_same _ _ (sym h.here ∙ get_middle xs ys x) in
    subst (P xs) same (subst (λ (t : List _). P t h.item) (take-append_seam xs (x ∷ ys)) h.holds)
  where
    some_same : {A : Type 0} (a b : A) → Some a ≡ Some b → a ≡ b
    some_same a b h = cc

-- ---- registers up to 255

pub within_take : (k : ℕ) (xs : List Event) → NamesWithin xs → NamesWithin (take k xs)
within_take k xs within i h = within i (held_in_take (Breaks 256 Register) k xs i h).1

pub within_less : (i k : ℕ) (xs : List Event) → i ≤ k → NamesWithin (take k xs) → NamesWithin (take i xs)
within_less i k xs le within = subst NamesWithin (take_of_take i k xs le) (within_take i (take k xs) within)

-- ---- one more event

-- one that breaks none
pub none_push : (t : Terminals) (xs : List Event) (x : Event) → BreaksNoneWithin t xs
    → ((rule : AskedRule) → IsTrue (is_asked t rule) → NamesWithin xs → ¬ BreaksAsked rule xs x)
    → BreaksNoneWithin t (xs ++ x ∷ [])
none_push t xs x none one rule i asked within h = elim (holds_push (BreaksAsked rule) xs x i h) [
  | inl earlier ↦ (let lt : i < length xs = earlier.0 in
      none rule i asked (subst NamesWithin (take-append-le i xs (x ∷ []) (omega (arith, lt))) within) earlier.1)
  | inr here ↦ one rule asked
      (subst NamesWithin (ap (λ (n : ℕ). take n (xs ++ x ∷ [])) here.0 ∙ take-append_seam xs (x ∷ [])) within) here.1
]

fails : (b : Bool) → b ≡ true → b ≡ false → ⊥
fails b t f = cc

-- a rule that is asked for and fails the test isn't broken
not_broken : {n : Notes} {before : List Event} (t : Terminals) (e : Event) (rule : AskedRule) → IsNotesAfter n before
    → asked_in t n e rule ≡ false → IsTrue (is_asked t rule) → NamesWithin before → ¬ BreaksAsked rule before e
not_broken {n} t e rule s failed asked within h =
    fails (asked_in t n e rule)
    (and_from (is_asked t rule) (counts_in n e rule) asked (is_counted e rule s within h)) failed

pub asked_push : (t : Terminals) (n m : Notes) (seen : List Placed) (place : ℕ) (e : Event) (o : Option AskedRule)
    → first_in t n e ≡ o → IsNotesAfter n (events_of seen) → BreaksNoneWithin t (events_of seen)
    → IsNotesAfter m (events_of seen ++ e ∷ [])
    → HasAskedBy t m (option_map (found_at place) o) (seen ++ placed_at place e ∷ [])
asked_push t n m seen place e None is s none moved = (
  subst (IsNotesAfter m) (sym (events_then seen (placed_at place e ∷ []))) moved,
  subst (BreaksNoneWithin t) (sym (events_then seen (placed_at place e ∷ [])))
      (none_push t (events_of seen) e none
      (λ rule asked within. not_broken t e rule s (none_passes (asked_in t n e) rule is) asked within)),
)
asked_push t n m seen place e (Some rule) is s none moved =
    let parts = and_parts (is_asked t rule) (counts_in n e rule) (first_passes (asked_in t n e) rule is) in
    record {
      before = seen;
      event = e;
      rest = [];
      are = refl;
      asked = parts.0;
      broken = λ within. counted e rule s parts.1;
      none_earlier = none;
      none_smaller = λ q lt asked within.
          not_broken t e q s (first_is_least (asked_in t n e) rule q is lt) asked within;
    }

-- ---- more events after a finding

pub found_more : (t : Terminals) (f : AskedFinding) (placed more : List Placed) → IsFound t placed f
    → IsFound t (placed ++ more) f
found_more t f placed more h = record {
  before = h.before;
  event = h.event;
  rest = h.rest ++ more;
  are = ap (λ (ps : List Placed). ps ++ more) h.are
      ∙ append_assoc h.before (placed_at f.place h.event ∷ h.rest) more;
  asked = h.asked;
  broken = h.broken;
  none_earlier = h.none_earlier;
  none_smaller = h.none_smaller;
}

pub asked_more : (t : Terminals) (n m : Notes) (f : AskedFinding) (o : Option AskedFinding) (placed more : List Placed)
    → o ≡ Some f → HasAskedBy t n o placed → HasAskedBy t m o (placed ++ more)
asked_more t n m f None placed more is h = cc
asked_more t n m f (Some g) placed more is h = found_more t g placed more h

-- ---- the answer

none_in_take : (t : Terminals) (xs : List Event) (k : ℕ) → BreaksNoneWithin t xs → NamesWithin (take k xs)
    → BreaksNoneAsked t (take k xs)
none_in_take t xs k none within rule asked i h =
    let held = held_in_take (BreaksAsked rule) k xs i h in
    let lt : i < k = held.0 in
    none rule i asked (within_less i k xs (omega (arith, lt)) within) held.1

front_take : (xs ys : List Event) (k : ℕ) → k ≤ length xs → take k (xs ++ ys) ≡ take k xs
front_take xs ys k le = take-append-le k xs ys le

earlier_of : (t : Terminals) (xs ys : List Event) → BreaksNoneWithin t xs → (k : ℕ) → k ≤ length xs
    → NamesWithin (take k (xs ++ ys)) → BreaksNoneAsked t (take k (xs ++ ys))
earlier_of t xs ys none k le within =
    subst (BreaksNoneAsked t) (sym (front_take xs ys k le))
    (none_in_take t xs k none (subst NamesWithin (front_take xs ys k le) within))

first_of : (t : Terminals) (xs ys : List Event) (x : Event) (rule : AskedRule) → IsTrue (is_asked t rule)
    → (NamesWithin xs → BreaksAsked rule xs x) → BreaksNoneWithin t xs
    → ((m : AskedRule) → number_of m < number_of rule → IsTrue (is_asked t m) → NamesWithin xs
    → ¬ BreaksAsked m xs x)
    → NamesWithin (take (length xs) (xs ++ x ∷ ys)) → IsFirstAsked t (xs ++ x ∷ ys) rule (length xs)
first_of t xs ys x rule asked broken none smaller within =
    let low : NamesWithin xs = subst NamesWithin (take-append_seam xs (x ∷ ys)) within in
    record {
      asked = asked;
      broken = holds_middle (BreaksAsked rule) xs ys x (broken low);
      none_earlier = λ m j lt wants h.
          none m j wants (within_take j xs low) (holds_front (BreaksAsked m) xs (x ∷ ys) j lt h);
      none_smaller = λ m lt wants h. smaller m lt wants low (held_middle (BreaksAsked m) xs ys x h);
    }

events_are : (before rest : List Placed) (place : ℕ) (e : Event)
    → events_of (before ++ placed_at place e ∷ rest) ≡ events_of before ++ e ∷ events_of rest
events_are before rest place e = events_then before (placed_at place e ∷ rest)

length_events : (placed : List Placed) → length (events_of placed) ≡ length placed
length_events [] = refl
length_events (p ∷ ps) = ap suc (length_events ps)

finding_at : (t : Terminals) (f : AskedFinding) (placed : List Placed) (h : IsFound t placed f)
    → IsFindingAt t placed f (length (events_of h.before))
finding_at t f placed h =
    let xs : List Event = events_of h.before in
    let ys : List Event = events_of h.rest in
    let are : events_of placed ≡ xs ++ h.event ∷ ys =
    ap events_of h.are ∙ events_are h.before h.rest f.place h.event in
    record {
      place =
          ap (λ (n : ℕ). option_map (λ (p : Placed). p.place) (slice_get placed n)) (length_events h.before)
          ∙ (ap (λ (ps : List Placed). option_map (λ (p : Placed). p.place) (slice_get ps (length h.before))) h.are
          ∙ ap (option_map (λ (p : Placed). p.place)) (get_middle h.before h.rest (placed_at f.place h.event)));
      earlier = λ k le within.
          subst (λ (es : List Event). BreaksNoneAsked t (take k es)) (sym are)
          (earlier_of t xs (h.event ∷ ys) h.none_earlier k le
          (subst (λ (es : List Event). NamesWithin (take k es)) are within));
      first = λ within.
          subst (λ (es : List Event). IsFirstAsked t es f.rule (length xs)) (sym are)
          (first_of t xs ys h.event f.rule h.asked h.broken h.none_earlier h.none_smaller
          (subst (λ (es : List Event). NamesWithin (take (length xs) es)) are within));
    }

pub answer : (t : Terminals) (n : Notes) (o : Option AskedFinding) (placed : List Placed) → HasAskedBy t n o placed
    → IsAnswer t placed o
answer t n None placed h = λ k within. none_in_take t (events_of placed) k h.1 within
answer t n (Some f) placed h = (length (events_of h.before), finding_at t f placed h)
