-- Spaces with nothing but filler behind them: among some bytes, and with more bytes behind these.
use Rattle.std.proofs.Common.{◌≡◌, ◌∙◌, ◌==◌, ◌&&◌, ◌+◌, ◌-◌, ◌<◌, ◌≤◌, ℕ, zero, suc, Bool, true, false, List, [], ◌∷◌}
use Rattle.std.proofs.Common.{◌++◌, Option, Some, None, ap, arith, drop, inl, inr, length, not, refl, subst, sym, take}
use Rattle.std.specs.Prelude.{cond, filter, slice_index}
use Rattle.std.specs.List.{list_all, range_with_len}
use Rattle.std.specs.Option.{option_map, option_or}
use Rattle.std.proofs.Math.Bool.{and_assoc}
use Rattle.std.proofs.Math.Seq.{drop-append-add, drop-cons}
use Rattle.std.proofs.lemmas.Bool.{and_parts, cases_lt, eqb-false, eqb-true}
use Rattle.std.proofs.lemmas.List.{drop-drop, drop_all, get_or-drop, length-append, length-drop}
use Rattle.std.proofs.lemmas.List.{take-append-drop}
use Rattle.std.proofs.lemmas.List.Filters.{length-filter_both}
use Rattle.std.proofs.lemmas.List.Folds.{list_all-append, list_all_at}
use Rattle.std.proofs.lemmas.List.FromFn.{length-range_with_len}
use Rattle.std.proofs.lemmas.Option.{slice_get-get_or, slice_get_past}
use Rattle.sixel_grammar.specs.Bytes.{is_filler}
use Rattle.sixel_judge.proofs.SearchLemmas.{decide_true, least_below}
use Rattle.sixel_omissions.specs.Omissions.{is_at}
use Rattle.sixel_omissions.proofs.BareLemmas.{count_more, filter_cons, get_right}
use Rattle.sixel_emulator_check.specs.Trailer.{HasSeenSpaces, IsFillerFrom, IsFirstSpace, is_space_after, space_count}
use Rattle.sixel_emulator_check.specs.declared.trailer.TrailingSpaces.{TrailingSpaces}

pub and_false : (b : Bool) → (b && false) ≡ false
and_false true = refl
and_false false = refl

and_true : (b : Bool) → (b && true) ≡ b
and_true true = refl
and_true false = refl

-- ---- where nothing but filler is left

-- whether there is nothing but filler from this offset on
abbrev pub is_rest : List ℕ → ℕ → Bool
is_rest bytes i = list_all is_filler (drop i bytes)

pub rest_none : (bytes : List ℕ) (i : ℕ) → length bytes ≤ i → is_rest bytes i ≡ true
rest_none bytes i le = ap (list_all is_filler) (drop_all i bytes le)

-- one byte of filler more
pub rest_more : (bytes : List ℕ) (at next : ℕ) → at < length bytes → next ≡ suc at
    → is_filler (slice_index bytes at) ≡ true → is_rest bytes next ≡ true → is_rest bytes at ≡ true
rest_more bytes at next lt is filler rest =
    ap (list_all is_filler) (drop-cons bytes at 0 lt)
    ∙ rw filler (subst (λ (k : ℕ). is_rest bytes k ≡ true) is rest)

-- not before another byte
pub rest_not : (bytes : List ℕ) (at i : ℕ) → at < length bytes → is_filler (slice_index bytes at) ≡ false → i ≤ at
    → is_rest bytes i ≡ false
rest_not bytes at i lt other le =
    let long : i + (at - i) ≡ at = omega (arith, le) in
    let within : at - i < length (drop i bytes) = rw (length-drop i bytes) (omega (arith, le, lt)) in
    list_all_at is_filler (drop i bytes) (at - i) 0 within (rw (get_or-drop i bytes (at - i) 0, long) other)

-- further on, too
pub all_rest : (xs : List ℕ) (k : ℕ) → list_all is_filler xs ≡ true → list_all is_filler (drop k xs) ≡ true
all_rest xs k h =
    (and_parts (list_all is_filler (take k xs)) (list_all is_filler (drop k xs))
    (sym (list_all-append is_filler (take k xs) (drop k xs)) ∙ ap (list_all is_filler) (take-append-drop k xs) ∙ h)).1

rest_later : (bytes : List ℕ) (i at : ℕ) → i ≤ at → is_rest bytes i ≡ true → is_rest bytes at ≡ true
rest_later bytes i at le rest =
    let long : i + (at - i) ≡ at = omega (arith, le) in
    subst (λ (k : ℕ). is_rest bytes k ≡ true) long
    (ap (list_all is_filler) (sym (drop-drop (at - i) i bytes)) ∙ all_rest (drop i bytes) (at - i) rest)

-- ---- the spaces that count

pub space_here : {bytes : List ℕ} {from : ℕ} (at : ℕ) → IsFillerFrom bytes from → from ≤ at → at < length bytes
    → is_space_after bytes at ≡ (slice_index bytes at == 32)
space_here {bytes} {from} at f le lt =
    rw (slice_get-get_or bytes at 0 lt, rest_later bytes from at le f.filler)
    (and_true (slice_index bytes at == 32))

pub none_before : {bytes : List ℕ} {from : ℕ} (i : ℕ) → IsFillerFrom bytes from → i < from
    → is_space_after bytes i ≡ false
none_before {bytes} i f lt = rw (f.least i lt) (and_false (is_at (λ b. b == 32) bytes i))

none_past : (bytes : List ℕ) (i : ℕ) → length bytes ≤ i → is_space_after bytes i ≡ false
none_past bytes i le = rw (slice_get_past bytes i le) refl

-- none at all, if none among the bytes
pub none_at_all : (bytes : List ℕ) → ((i : ℕ) → i < length bytes → is_space_after bytes i ≡ false) → (i : ℕ)
    → is_space_after bytes i ≡ false
none_at_all bytes none i = elim (cases_lt i (length bytes)) [
  | inl lt ↦ none i lt
  | inr le ↦ none_past bytes i le
]

-- nor the next byte
pub next_none : (bytes : List ℕ) (at : ℕ) → ((i : ℕ) → i < at → is_space_after bytes i ≡ false)
    → is_space_after bytes at ≡ false → (i : ℕ) → i < at + 1 → is_space_after bytes i ≡ false
next_none bytes at none here i lt = elim (cases_lt i at) [
  | inl less ↦ none i less
  | inr le ↦
      let same : at ≡ i = omega (arith, lt, le) in
      subst (λ (k : ℕ). is_space_after bytes k ≡ false) same here
]

pub not_eq : (n m : ℕ) → ¬ (n ≡ m) → (n == m) ≡ false
not_eq n m other = by (n == m) refl
  where
    by : (b : Bool) → (n == m) ≡ b → b ≡ false
    by true is = absurd (other (eqb-true n m is))
    by false is = refl

-- ---- their number

-- how many of the first n bytes are such spaces
abbrev pub count_to : List ℕ → ℕ → ℕ
count_to bytes n = length (filter (is_space_after bytes) (range_with_len 0 n))

none_counted : (p : ℕ → Bool) (n : ℕ) → ((i : ℕ) → i < n → p i ≡ false) → length (filter p (range_with_len 0 n)) ≡ 0
none_counted p zero none = refl
none_counted p (suc n) none =
    let one : suc n ≡ n + 1 = omega arith in
    let here : 0 + n ≡ n = omega arith in
    ap (λ (k : ℕ). length (filter p (range_with_len 0 k))) one
    ∙ count_more p 0 n
    ∙ rw (here, none n (omega arith), none_counted p n (λ i lt. none i (omega (arith, lt)))) refl

pub count_begins : {bytes : List ℕ} {from : ℕ} → IsFillerFrom bytes from → count_to bytes from ≡ 0
count_begins {bytes} {from} f = none_counted (is_space_after bytes) from (λ i lt. none_before i f lt)

-- one byte more is looked at
pub count_step : {bytes : List ℕ} {from : ℕ} (at one : ℕ) → IsFillerFrom bytes from → from ≤ at → at < length bytes
    → one ≡ cond (slice_index bytes at == 32) 1 0 → count_to bytes (at + 1) ≡ count_to bytes at + one
count_step {bytes} at one f le lt is =
    let here : 0 + at ≡ at = omega arith in
    count_more (is_space_after bytes) 0 at ∙ rw (here, space_here at f le lt, is) refl

count_within : (bytes : List ℕ) → space_count bytes ≤ length bytes
count_within bytes =
    let both =
    length-filter_both (is_space_after bytes) (λ i. not (is_space_after bytes i)) (λ i. refl)
    (range_with_len 0 (length bytes)) in
    omega (arith, both, length-range_with_len 0 (length bytes))

-- ---- bytes behind others

-- filler behind them leaves them, and another byte takes them away
pub space_left : (xs ys : List ℕ) (i : ℕ) → i < length xs
    → is_space_after (xs ++ ys) i ≡ (is_space_after xs i && list_all is_filler ys)
space_left [] ys i lt = absurd (omega (arith, lt))
space_left (x ∷ xs) ys zero lt =
    rw (list_all-append is_filler (x ∷ xs) ys)
    (sym (and_assoc (x == 32) (list_all is_filler (x ∷ xs)) (list_all is_filler ys)))
space_left (x ∷ xs) ys (suc i) lt = space_left xs ys i (omega (arith, lt))

pub space_right : (xs ys : List ℕ) (j : ℕ) → is_space_after (xs ++ ys) (length xs + j) ≡ is_space_after ys j
space_right xs ys j = rw (get_right xs ys j, drop-append-add xs ys j) refl

-- whether the first ones count
either : (xs ys : List ℕ) (b : Bool) → list_all is_filler ys ≡ b → (i : ℕ) → i < length xs
    → is_space_after (xs ++ ys) i ≡ cond b (is_space_after xs i) false
either xs ys true is i lt = space_left xs ys i lt ∙ rw is (and_true (is_space_after xs i))
either xs ys false is i lt = space_left xs ys i lt ∙ rw is (and_false (is_space_after xs i))

-- none before an offset in the second ones
none_in_front : (xs ys : List ℕ) (n : ℕ) → ((i : ℕ) → i < length xs → is_space_after (xs ++ ys) i ≡ false)
    → ((j : ℕ) → j < n → is_space_after ys j ≡ false) → (i : ℕ) → i < length xs + n
    → is_space_after (xs ++ ys) i ≡ false
none_in_front xs ys n before behind i lt = elim (cases_lt i (length xs)) [
  | inl less ↦ before i less
  | inr le ↦
      let is : length xs + (i - length xs) ≡ i = omega (arith, le) in
      subst (λ (k : ℕ). is_space_after (xs ++ ys) k ≡ false) is
      (space_right xs ys (i - length xs) ∙ behind (i - length xs) (omega (arith, le, lt)))
]

-- the first one is among the second ones
first_behind : (xs ys : List ℕ) (inner : Option ℕ)
    → ((i : ℕ) → i < length xs → is_space_after (xs ++ ys) i ≡ false) → IsFirstSpace ys inner
    → IsFirstSpace (xs ++ ys) (option_map (λ (n : ℕ). length xs + n) inner)
first_behind xs ys None before f = λ i. none_in_front xs ys (i + 1) before (λ j lt. f j) i (omega arith)
first_behind xs ys (Some n) before f = (space_right xs ys n ∙ f.0, none_in_front xs ys n before f.1)

-- a space is within the bytes
space_within : (bytes : List ℕ) (i : ℕ) → is_space_after bytes i ≡ true → i < length bytes
space_within bytes i is = elim (cases_lt i (length bytes)) [
  | inl lt ↦ lt
  | inr le ↦ (let no : is_space_after bytes i ≡ false = none_past bytes i le in cc)
]

first_more : (xs ys : List ℕ) (first inner : Option ℕ) (b : Bool) → list_all is_filler ys ≡ b
    → IsFirstSpace xs first → IsFirstSpace ys inner
    → IsFirstSpace (xs ++ ys) (option_or (cond b first None) (option_map (λ (n : ℕ). length xs + n) inner))
first_more xs ys first inner false is f g = first_behind xs ys inner (either xs ys false is) g
first_more xs ys None inner true is f g =
    first_behind xs ys inner (λ i lt. either xs ys true is i lt ∙ f i) g
first_more xs ys (Some place) inner true is f g =
    let within : place < length xs = space_within xs place f.0 in (
      either xs ys true is place within ∙ f.0,
      λ i lt. either xs ys true is i (omega (arith, lt, within)) ∙ f.1 i lt,
    )

shift : (p q : ℕ → Bool) (a n : ℕ) → ((i : ℕ) → p (i + 1) ≡ q i)
    → length (filter p (range_with_len (a + 1) n)) ≡ length (filter q (range_with_len a n))
shift p q a zero h = refl
shift p q a (suc n) h =
    let one = filter_cons p (a + 1) (range_with_len (a + 1 + 1) n) in
    let other = filter_cons q a (range_with_len (a + 1) n) in
    rw (one, other, h a, shift p q (a + 1) n h) refl

space_next : (x : ℕ) (xs : List ℕ) (i : ℕ) → is_space_after (x ∷ xs) (i + 1) ≡ is_space_after xs i
space_next x xs i =
    let one : i + 1 ≡ suc i = omega arith in
    ap (is_space_after (x ∷ xs)) one

count_cons : (x : ℕ) (xs : List ℕ)
    → space_count (x ∷ xs) ≡ cond (is_space_after (x ∷ xs) 0) 1 0 + space_count xs
count_cons x xs =
    filter_cons (is_space_after (x ∷ xs)) 0 (range_with_len (0 + 1) (length xs))
    ∙ ap (λ (n : ℕ). cond (is_space_after (x ∷ xs) 0) 1 0 + n)
    (shift (is_space_after (x ∷ xs)) (is_space_after xs) 0 (length xs) (space_next x xs))

count_append : (xs ys : List ℕ) (b : Bool) → list_all is_filler ys ≡ b
    → space_count (xs ++ ys) ≡ cond b (space_count xs) 0 + space_count ys
count_append [] ys true is = omega arith
count_append [] ys false is = omega arith
count_append (x ∷ xs) ys b is =
    let rest = count_append xs ys b is in
    let here = either (x ∷ xs) ys b is 0 (omega arith) in
    rw (count_cons x (xs ++ ys), count_cons x xs, rest, here)
    (by b (is_space_after (x ∷ xs) 0) (space_count xs) (space_count ys))
  where
    by : (b s : Bool) (n m : ℕ) → cond (cond b s false) 1 0 + (cond b n 0 + m) ≡ cond b (cond s 1 0 + n) 0 + m
    by true s n m = omega arith
    by false s n m = omega arith

-- ---- what is kept

pub seen_none : HasSeenSpaces (record { read = 0; first = None; count = 0 }) []
seen_none = record { read_is = refl; first = λ i. refl; count_is = refl }

only_filler_if : {bytes : List ℕ} (from : ℕ) (b : Bool) → (from == 0) ≡ b → IsFillerFrom bytes from
    → list_all is_filler bytes ≡ b
only_filler_if {bytes} from true is f = subst (λ (n : ℕ). is_rest bytes n ≡ true) (eqb-true from 0 is) f.filler
only_filler_if from false is f = f.least 0 (omega (arith, eqb-false from 0 is))

only_filler : {bytes : List ℕ} (from : ℕ) → IsFillerFrom bytes from → list_all is_filler bytes ≡ (from == 0)
only_filler from f = only_filler_if from (from == 0) refl f

abbrev pub kept_of : Bool → TrailingSpaces → TrailingSpaces
kept_of b s = cond b s (record s { first = None; count = 0 })

kept_first : (b : Bool) (s : TrailingSpaces) → (kept_of b s).first ≡ cond b s.first None
kept_first true s = refl
kept_first false s = refl

kept_count : (b : Bool) (s : TrailingSpaces) → (kept_of b s).count ≡ cond b s.count 0
kept_count true s = refl
kept_count false s = refl

-- they looked at these bytes, too
pub seen_more : {s : TrailingSpaces} {xs : List ℕ} (bytes : List ℕ) (from : ℕ) (inner : Option ℕ) (count : ℕ)
    → HasSeenSpaces s xs → IsFillerFrom bytes from → IsFirstSpace bytes inner → count ≡ space_count bytes
    → HasSeenSpaces (record {
      read = s.read + length bytes;
      first = option_or (kept_of (from == 0) s).first (option_map (λ (n : ℕ). s.read + n) inner);
      count = (kept_of (from == 0) s).count + count;
    }) (xs ++ bytes)
seen_more {s} {xs} bytes from inner count h f found counted =
    let b : Bool = from == 0 in
    let is : list_all is_filler bytes ≡ b = only_filler from f in record {
      read_is = ap (λ (n : ℕ). n + length bytes) h.read_is ∙ sym (length-append xs bytes);
      first = subst (λ (o : Option ℕ).
          IsFirstSpace (xs ++ bytes) (option_or o (option_map (λ (n : ℕ). s.read + n) inner)))
          (sym (kept_first b s))
          (subst (λ (read : ℕ).
          IsFirstSpace (xs ++ bytes) (option_or (cond b s.first None) (option_map (λ (n : ℕ). read + n) inner)))
          (sym h.read_is) (first_more xs bytes s.first inner b is h.first found));
      count_is = rw (kept_count b s, h.count_is, counted) (sym (count_append xs bytes b is));
    }

-- the count stays within the number of bytes
pub count_fits : {s : TrailingSpaces} {xs : List ℕ} (bytes : List ℕ) (from count : ℕ) → HasSeenSpaces s xs
    → IsFillerFrom bytes from → count ≡ space_count bytes
    → (kept_of (from == 0) s).count + count ≤ s.read + length bytes
count_fits {s} {xs} bytes from count h f counted =
    let all = count_append xs bytes (from == 0) (only_filler from f) in
    let within = count_within (xs ++ bytes) in
    let long = length-append xs bytes in
    rw (kept_count (from == 0) s, h.count_is, counted, h.read_is) (omega (arith, all, within, long))

-- the offset of a space among them fits
pub first_fits : (bytes : List ℕ) (first : Option ℕ) → IsFirstSpace bytes first → (n : ℕ) → first ≡ Some n
    → n < length bytes
first_fits bytes first f n is = space_within bytes n (subst (IsFirstSpace bytes) is f).0

-- ---- exactly one is the first

pub space_once : (bytes : List ℕ) (o u : Option ℕ) → IsFirstSpace bytes o → IsFirstSpace bytes u → o ≡ u
space_once bytes None None a b = refl
space_once bytes None (Some q) a b = let no : is_space_after bytes q ≡ false = a q in let is = b.0 in cc
space_once bytes (Some p) None a b = let no : is_space_after bytes p ≡ false = b p in let is = a.0 in cc
space_once bytes (Some p) (Some q) a b =
    let not_less : ¬ (p < q) = λ lt. (let no : is_space_after bytes p ≡ false = b.1 p lt in let is = a.0 in cc) in
    let not_more : ¬ (q < p) = λ lt. (let no : is_space_after bytes q ≡ false = a.1 q lt in let is = b.0 in cc) in
    let same : p ≡ q = omega (arith, not_less, not_more) in
    ap (λ (n : ℕ). Some n) same

not_true : (b : Bool) → ¬ (b ≡ true) → b ≡ false
not_true true other = absurd (other refl)
not_true false other = refl

pub space_exists : (bytes : List ℕ) → (o : Option ℕ) × IsFirstSpace bytes o
space_exists bytes =
    elim (least_below (λ i. is_space_after bytes i ≡ true) (λ i. decide_true (is_space_after bytes i)) (length bytes)) [
      | inl f ↦ (Some f.number, (f.holds, λ i lt. not_true (is_space_after bytes i) (f.least i lt)))
      | inr none ↦ (None, none_at_all bytes (λ i lt. not_true (is_space_after bytes i) (none i lt)))
    ]
