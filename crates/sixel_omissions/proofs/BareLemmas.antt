-- Selects that name no register, with one more byte.
use Rattle.std.proofs.Common.{◌≡◌, ◌∙◌, ◌==◌, ◌&&◌, ◌+◌, ◌-◌, ◌<◌, ◌≤◌, ℕ, zero, suc, Bool, true, false, not}
use Rattle.std.proofs.Common.{List, [], ◌∷◌, ◌++◌, Option, Some, None, ap, arith, inl, inr, length, refl, subst, sym}
use Rattle.std.specs.Prelude.{cond, filter, slice_get, slice_index, unwrap_or, if◌then◌else◌}
use Rattle.std.specs.List.{range_with_len}
use Rattle.std.specs.Option.{option_map, option_or}
use Rattle.std.proofs.lemmas.List.{length-append}
use Rattle.std.proofs.lemmas.List.Filters.{length-filter_both}
use Rattle.std.proofs.lemmas.List.FromFn.{length-range_with_len}
use Rattle.std.proofs.lemmas.Option.{slice_get-get_or, slice_get_past}
use Rattle.std.proofs.lemmas.Bool.{cases_lt}
use Rattle.sixel_omissions.specs.declared.bare.BareSelects.{BareSelects}
use Rattle.sixel_omissions.specs.Omissions.{IsFirstBare, bare_count, is_at, is_bare_at, is_numeric}
use Rattle.sixel_omissions.specs.Seen.{HasSeenBare, left_bare, one_if, sign_in, opened}

get_left : (xs ys : List ℕ) (i : ℕ) → i < length xs → slice_get (xs ++ ys) i ≡ slice_get xs i
get_left [] ys i lt = absurd (omega (arith, lt))
get_left (x ∷ xs) ys zero lt = refl
get_left (x ∷ xs) ys (suc i) lt = get_left xs ys i (omega (arith, lt))

pub get_right : (xs ys : List ℕ) (j : ℕ) → slice_get (xs ++ ys) (length xs + j) ≡ slice_get ys j
get_right [] ys j = ap (λ (n : ℕ). slice_get ys n) zero_plus
  where
    zero_plus : 0 + j ≡ j
    zero_plus = omega arith
get_right (x ∷ xs) ys j =
    let more : length (x ∷ xs) + j ≡ suc (length xs + j) = omega arith in
    ap (λ (n : ℕ). slice_get (x ∷ (xs ++ ys)) n) more ∙ get_right xs ys j

and_false : (b : Bool) → (b && false) ≡ false
and_false true = refl
and_false false = refl

-- ---- bytes behind others

-- before the last of the first ones nothing changes
pub bare_left : (xs ys : List ℕ) (i : ℕ) → i + 1 < length xs → is_bare_at (xs ++ ys) i ≡ is_bare_at xs i
bare_left xs ys i lt = rw (get_left xs ys i (omega (arith, lt)), get_left xs ys (i + 1) lt) refl

-- nor behind them
bare_right : (xs ys : List ℕ) (j : ℕ) → is_bare_at (xs ++ ys) (length xs + j) ≡ is_bare_at ys j
bare_right xs ys j =
    let next : length xs + j + 1 ≡ length xs + (j + 1) = omega arith in
    rw (next, get_right xs ys j, get_right xs ys (j + 1)) refl

-- the last of the first ones
bare_joint : (xs ys : List ℕ) (y i : ℕ) → i + 1 ≡ length xs
    → is_bare_at (xs ++ y ∷ ys) i ≡ (is_at (λ c. c == 35) xs i && not (is_numeric y))
bare_joint xs ys y i is =
    let next : i + 1 ≡ length xs + 0 = omega (arith, is) in
    rw (get_left xs (y ∷ ys) i (omega (arith, is)), next, get_right xs (y ∷ ys) 0) refl

-- the last byte is followed by nothing
pub bare_last : (xs : List ℕ) (i : ℕ) → length xs ≤ i + 1 → is_bare_at xs i ≡ false
bare_last xs i le = rw (slice_get_past xs (i + 1) le) (and_false (is_at (λ b. b == 35) xs i))

-- a select without a number has a byte behind it
pub bare_within : (xs : List ℕ) (i : ℕ) → is_bare_at xs i ≡ true → i + 1 < length xs
bare_within xs i is = elim (cases_lt (i + 1) (length xs)) [
  | inl lt ↦ lt
  | inr le ↦ (let no : is_bare_at xs i ≡ false = bare_last xs i le in cc)
]

-- ---- where the two meet

by_left : (n o : Bool) (place : ℕ) → (if n then None else if o then Some place else None) ≡ None → (o && not n) ≡ false
by_left true o place h = and_false o
by_left false true place h = cc
by_left false false place h = refl

-- no select is left without a number
closed : (xs : List ℕ) (y i : ℕ) → i + 1 ≡ length xs → left_bare (sign_in xs) y ≡ None
    → (is_at (λ c. c == 35) xs i && not (is_numeric y)) ≡ false
closed xs y i is left =
    let here : length xs - 1 ≡ i = omega (arith, is) in
    by_left (is_numeric y) (is_at (λ c. c == 35) xs i) i (rw here at left)

by_open : (n o : Bool) (last place : ℕ) → (if n then None else if o then Some last else None) ≡ Some place
    → (place ≡ last) × ((o && not n) ≡ true)
by_open true o last place h = cc
by_open false false last place h = cc
by_open false true last place h = (ap (λ (o : Option ℕ). unwrap_or o 0) (sym h), refl)

-- none before an offset in the second ones
none_before : (xs ys : List ℕ) (y n : ℕ) → ((i : ℕ) → is_bare_at xs i ≡ false) → left_bare (sign_in xs) y ≡ None
    → ((j : ℕ) → j < n → is_bare_at (y ∷ ys) j ≡ false) → (i : ℕ) → i < length xs + n
    → is_bare_at (xs ++ y ∷ ys) i ≡ false
none_before xs ys y n before left behind i lt = elim (cases_lt (i + 1) (length xs)) [
  | inl less ↦ bare_left xs (y ∷ ys) i less ∙ before i
  | inr le ↦ elim (cases_lt i (length xs)) [
    | inl last ↦
        let is : i + 1 ≡ length xs = omega (arith, le, last) in
        bare_joint xs ys y i is ∙ closed xs y i is left
    | inr past ↦
        let is : length xs + (i - length xs) ≡ i = omega (arith, past) in
        subst (λ (k : ℕ). is_bare_at (xs ++ y ∷ ys) k ≡ false) is
        (bare_right xs (y ∷ ys) (i - length xs) ∙ behind (i - length xs) (omega (arith, lt, past)))
  ]
]

first_joint : (xs ys : List ℕ) (y place : ℕ) → ((i : ℕ) → is_bare_at xs i ≡ false)
    → left_bare (sign_in xs) y ≡ Some place → IsFirstBare (xs ++ y ∷ ys) (Some place)
first_joint [] ys y place before is = absurd (no_place (is_numeric y) is)
  where
    no_place : (n : Bool) → (if n then None else None) ≡ Some place → ⊥
    no_place true h = cc
    no_place false h = cc
first_joint (x ∷ xs) ys y place before is =
    let last = by_open (is_numeric y) (is_at (λ c. c == 35) (x ∷ xs) (length (x ∷ xs) - 1)) (length (x ∷ xs) - 1) place is in
    let there : place + 1 ≡ length (x ∷ xs) = omega (arith, last.0) in (
      bare_joint (x ∷ xs) ys y place there ∙ rw (sym last.0) at last.1,
      λ i lt. bare_left (x ∷ xs) (y ∷ ys) i (omega (arith, lt, there)) ∙ before i,
    )

first_behind : (xs ys : List ℕ) (y : ℕ) (inner : Option ℕ) → ((i : ℕ) → is_bare_at xs i ≡ false)
    → left_bare (sign_in xs) y ≡ None → IsFirstBare (y ∷ ys) inner
    → IsFirstBare (xs ++ y ∷ ys) (option_map (λ (n : ℕ). length xs + n) inner)
first_behind xs ys y None before left f = λ i.
    none_before xs ys y (i + 1) before left (λ j lt. f j) i (omega arith)
first_behind xs ys y (Some n) before left f = (
  bare_right xs (y ∷ ys) n ∙ f.0,
  none_before xs ys y n before left f.1,
)

first_append : (xs ys : List ℕ) (y : ℕ) (first joint inner : Option ℕ) → joint ≡ left_bare (sign_in xs) y
    → IsFirstBare xs first → IsFirstBare (y ∷ ys) inner
    → IsFirstBare (xs ++ y ∷ ys) (option_or (option_or first joint) (option_map (λ (n : ℕ). length xs + n) inner))
first_append xs ys y (Some place) joint inner is f g =
    let within : place + 1 < length xs = bare_within xs place f.0 in (
      bare_left xs (y ∷ ys) place within ∙ f.0,
      λ i lt. bare_left xs (y ∷ ys) i (omega (arith, lt, within)) ∙ f.1 i lt,
    )
first_append xs ys y None (Some place) inner is f g = first_joint xs ys y place f (sym is)
first_append xs ys y None None inner is f g = first_behind xs ys y inner f (sym is) g

-- ---- how many there are

-- one of the numbers, and those after it
pub filter_cons : (p : ℕ → Bool) (x : ℕ) (xs : List ℕ)
    → length (filter p (x ∷ xs)) ≡ cond (p x) 1 0 + length (filter p xs)
filter_cons p x xs = by (p x)
  where
    by : (b : Bool) → length (cond b (x ∷ filter p xs) (filter p xs)) ≡ cond b 1 0 + length (filter p xs)
    by true = omega arith
    by false = omega arith

-- one number more
pub count_more : (p : ℕ → Bool) (a n : ℕ)
    → length (filter p (range_with_len a (n + 1))) ≡ length (filter p (range_with_len a n)) + cond (p (a + n)) 1 0
count_more p a zero =
    let here : a + 0 ≡ a = omega arith in
    let one = filter_cons p a [] in
    rw (here, one) (omega arith)
count_more p a (suc n) =
    let next : a + 1 + n ≡ a + suc n = omega arith in
    let more : suc n + 1 ≡ suc (n + 1) = omega arith in
    let rest = count_more p (a + 1) n in
    let long = filter_cons p a (range_with_len (a + 1) (n + 1)) in
    let short = filter_cons p a (range_with_len (a + 1) n) in
    rw (more, long, short, rest, next) (omega arith)

shift : (p q : ℕ → Bool) (a n : ℕ) → ((i : ℕ) → p (i + 1) ≡ q i)
    → length (filter p (range_with_len (a + 1) n)) ≡ length (filter q (range_with_len a n))
shift p q a zero h = refl
shift p q a (suc n) h =
    let one = filter_cons p (a + 1) (range_with_len (a + 1 + 1) n) in
    let other = filter_cons q a (range_with_len (a + 1) n) in
    rw (one, other, h a, shift p q (a + 1) n h) refl

pub bare_behind : (x : ℕ) (xs : List ℕ) (i : ℕ) → is_bare_at (x ∷ xs) (i + 1) ≡ is_bare_at xs i
bare_behind x xs i =
    let one : i + 1 ≡ suc i = omega arith in
    let two : i + 1 + 1 ≡ suc (i + 1) = omega arith in
    rw (two, one) refl

-- one byte in front
count_cons : (x : ℕ) (xs : List ℕ) → bare_count (x ∷ xs) ≡ cond (is_bare_at (x ∷ xs) 0) 1 0 + bare_count xs
count_cons x xs =
    filter_cons (is_bare_at (x ∷ xs)) 0 (range_with_len (0 + 1) (length xs))
    ∙ ap (λ (n : ℕ). cond (is_bare_at (x ∷ xs) 0) 1 0 + n)
    (shift (is_bare_at (x ∷ xs)) (is_bare_at xs) 0 (length xs) (bare_behind x xs))

-- the last byte is a `#`
has_sign : List ℕ → Bool
has_sign xs = is_at (λ c. c == 35) xs (length xs - 1)

open_left : (n o : Bool) (place : ℕ)
    → one_if (if n then None else if o then Some place else None) ≡ cond (o && not n) 1 0
open_left true true place = refl
open_left true false place = refl
open_left false true place = refl
open_left false false place = refl

count_joint : (xs ys : List ℕ) (y : ℕ)
    → bare_count (xs ++ y ∷ ys) ≡ bare_count xs + cond (has_sign xs && not (is_numeric y)) 1 0 + bare_count (y ∷ ys)
unfolding has_sign
count_joint [] ys y = omega arith
count_joint (x ∷ []) ys y = rw (count_cons x (y ∷ ys), count_cons x []) (by_sign (x == 35) (is_numeric y))
  where
    by_sign : (o n : Bool) → cond (o && not n) 1 0 + bare_count (y ∷ ys)
        ≡ cond (o && false) 1 0 + 0 + cond (o && not n) 1 0 + bare_count (y ∷ ys)
    by_sign true n = omega arith
    by_sign false n = omega arith
count_joint (x ∷ z ∷ xs) ys y =
    let rest = count_joint (z ∷ xs) ys y in
    let last : length (x ∷ z ∷ xs) - 1 ≡ suc (length (z ∷ xs) - 1) = omega arith in
    rw (count_cons x (z ∷ (xs ++ y ∷ ys)), count_cons x (z ∷ xs), rest, last) (omega arith)

-- bytes behind others
count_append : (xs ys : List ℕ) (y : ℕ)
    → bare_count (xs ++ y ∷ ys) ≡ bare_count xs + one_if (left_bare (sign_in xs) y) + bare_count (y ∷ ys)
unfolding has_sign
count_append xs ys y = rw (open_left (is_numeric y) (has_sign xs) (length xs - 1)) (count_joint xs ys y)

-- there are no more than bytes
count_within : (xs : List ℕ) → bare_count xs ≤ length xs
count_within xs =
    let long = length-filter_both (is_bare_at xs) (λ i. not (is_bare_at xs i)) (λ i. refl) (range_with_len 0 (length xs)) in
    omega (arith, long, length-range_with_len 0 (length xs))

-- those before the last byte are all
pub count_all : (xs : List ℕ) (at : ℕ) → 1 ≤ at → (length xs ≤ 1 → at ≡ 1) → (1 ≤ length xs → at ≡ length xs)
    → length (filter (is_bare_at xs) (range_with_len 0 (at - 1))) ≡ bare_count xs
count_all [] at some small long = rw (small (omega arith)) refl
count_all (x ∷ xs) at some small long =
    let end : at ≡ length (x ∷ xs) = long (omega arith) in
    let last : at - 1 ≡ length xs = omega (arith, end) in
    let one : length (x ∷ xs) ≡ length xs + 1 = omega arith in
    let more = count_more (is_bare_at (x ∷ xs)) 0 (length xs) in
    let here : 0 + length xs ≡ length xs = omega arith in
    let no = bare_last (x ∷ xs) (length xs) (omega arith) in
    let often : ℕ → ℕ = λ n. length (filter (is_bare_at (x ∷ xs)) (range_with_len 0 n)) in
    ap often last ∙ sym (ap often one ∙ more ∙ rw (here, no) (omega arith))

pub at_most_one : (b : Bool) (n : ℕ) → n ≡ cond b 1 0 → n ≤ 1
at_most_one true n is = omega (arith, is)
at_most_one false n is = omega (arith, is)

-- whether the byte at this offset is behind such a select
bare_here : (xs : List ℕ) (at : ℕ) → 1 ≤ at → at < length xs
    → is_bare_at xs (at - 1) ≡ ((slice_index xs (at - 1) == 35) && not (is_numeric (slice_index xs at)))
bare_here xs at some lt =
    let next : at - 1 + 1 ≡ at = omega (arith, some) in
    rw (next, slice_get-get_or xs (at - 1) 0 (omega (arith, lt)), slice_get-get_or xs at 0 lt) refl

-- one byte more is looked at
pub count_step : (xs : List ℕ) (at count one : ℕ) → 1 ≤ at → at < length xs
    → count ≡ length (filter (is_bare_at xs) (range_with_len 0 (at - 1)))
    → one ≡ cond ((slice_index xs (at - 1) == 35) && not (is_numeric (slice_index xs at))) 1 0
    → count + one ≡ length (filter (is_bare_at xs) (range_with_len 0 (at + 1 - 1)))
count_step xs at count one some lt counted is =
    let more = count_more (is_bare_at xs) 0 (at - 1) in
    let next : at + 1 - 1 ≡ at - 1 + 1 = omega (arith, some) in
    let here : 0 + (at - 1) ≡ at - 1 = omega arith in
    let often : ℕ → ℕ = λ n. length (filter (is_bare_at xs) (range_with_len 0 n)) in
    sym (ap often next ∙ more ∙ rw (here, bare_here xs at some lt, counted, is) refl)

-- none is found, so there is none
pub count_none : (xs : List ℕ) → ((i : ℕ) → is_bare_at xs i ≡ false) → bare_count xs ≡ 0
count_none xs none = all 0 (length xs)
  where
    all : (a n : ℕ) → length (filter (is_bare_at xs) (range_with_len a n)) ≡ 0
    all a zero = refl
    all a (suc n) = filter_cons (is_bare_at xs) a (range_with_len (a + 1) n) ∙ rw (none a, all (a + 1) n) refl

-- ---- what is kept

last_get : (xs ys : List ℕ) (y : ℕ)
    → slice_get (xs ++ y ∷ ys) (length (xs ++ y ∷ ys) - 1) ≡ slice_get (y ∷ ys) (length ys)
last_get xs ys y =
    let last : length (xs ++ y ∷ ys) - 1 ≡ length xs + length ys = simp length-append (omega arith) in
    ap (λ (n : ℕ). slice_get (xs ++ y ∷ ys) n) last ∙ get_right xs (y ∷ ys) (length ys)

sign_append : (xs ys : List ℕ) (y b : ℕ) → slice_get (y ∷ ys) (length ys) ≡ Some b
    → opened (length xs + length ys) b ≡ sign_in (xs ++ y ∷ ys)
sign_append xs ys y b is =
    let last : length (xs ++ y ∷ ys) - 1 ≡ length xs + length ys = simp length-append (omega arith) in
    rw (last, get_right xs (y ∷ ys) (length ys), is) refl

pub seen_append : {s : BareSelects} {xs : List ℕ} (y : ℕ) (ys : List ℕ) (b : ℕ) (inner : Option ℕ) (count : ℕ)
    → HasSeenBare s xs → slice_get (y ∷ ys) (length ys) ≡ Some b → IsFirstBare (y ∷ ys) inner
    → count ≡ bare_count (y ∷ ys)
    → HasSeenBare (record {
      read = s.read + length (y ∷ ys);
      sign = opened (s.read + length ys) b;
      first = option_or (option_or s.first (left_bare s.sign y)) (option_map (λ (n : ℕ). s.read + n) inner);
      count = s.count + (one_if (left_bare s.sign y) + count);
    }) (xs ++ y ∷ ys)
seen_append {s} {xs} y ys b inner count h last found counted = record {
  read_is = ap (λ (n : ℕ). n + length (y ∷ ys)) h.read_is ∙ simp length-append refl;
  sign_is = ap (λ (n : ℕ). opened (n + length ys) b) h.read_is ∙ sign_append xs ys y b last;
  first = subst (λ (read : ℕ).
      IsFirstBare (xs ++ y ∷ ys) (option_or (option_or s.first (left_bare s.sign y)) (option_map (λ (n : ℕ). read + n) inner)))
      (sym h.read_is)
      (first_append xs ys y s.first (left_bare s.sign y) inner (ap (λ (o : Option ℕ). left_bare o y) h.sign_is) h.first found);
  count_is =
      let all = count_append xs ys y in
      rw (h.count_is, h.sign_is, counted) (omega (arith, all));
}

-- they looked at these bytes, of which there are some
pub seen_more : {s : BareSelects} {xs : List ℕ} (bytes : List ℕ) (inner : Option ℕ) (count : ℕ) → 0 < length bytes
    → HasSeenBare s xs → IsFirstBare bytes inner → count ≡ bare_count bytes → HasSeenBare (record {
      read = s.read + length bytes;
      sign = opened (s.read + (length bytes - 1)) (slice_index bytes (length bytes - 1));
      first = option_or (option_or s.first (left_bare s.sign (slice_index bytes 0))) (option_map (λ (n : ℕ). s.read + n) inner);
      count = s.count + (one_if (left_bare s.sign (slice_index bytes 0)) + count);
    }) (xs ++ bytes)
seen_more [] inner count some h found counted = absurd (omega (arith, some))
seen_more (y ∷ ys) inner count some h found counted =
    let last : length (y ∷ ys) - 1 ≡ length ys = omega arith in
    rw last (seen_append y ys (slice_index (y ∷ ys) (length ys)) inner count h
    (slice_get-get_or (y ∷ ys) (length ys) 0 (omega arith)) found counted)

-- the count stays within the number of bytes
pub count_fits : {s : BareSelects} {xs : List ℕ} (bytes : List ℕ) (count : ℕ) → 0 < length bytes → HasSeenBare s xs
    → count ≡ bare_count bytes
    → s.count + (one_if (left_bare s.sign (slice_index bytes 0)) + count) ≤ s.read + length bytes
count_fits [] count some h counted = absurd (omega (arith, some))
count_fits {s} {xs} (y ∷ ys) count some h counted =
    let all = count_append xs ys y in
    let within = count_within (xs ++ y ∷ ys) in
    let long = length-append xs (y ∷ ys) in
    rw (h.count_is, h.sign_is, counted, h.read_is) (omega (arith, all, within, long))

pub some_bytes : (n : ℕ) (empty : Bool) → empty ≡ (n == 0) → empty ≡ false → 0 < n
some_bytes zero empty is not = cc
some_bytes (suc n) empty is not = omega arith

pub seen_none : HasSeenBare (record { read = 0; sign = None; first = None; count = 0 }) []
seen_none = record { read_is = refl; sign_is = refl; first = λ i. refl; count_is = refl }
