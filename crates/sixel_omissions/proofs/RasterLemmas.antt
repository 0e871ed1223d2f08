-- The first raster attributes of bytes, with more bytes.
use Rattle.std.proofs.Common.{◌≡◌, ◌∙◌, ◌==◌, ◌||◌, ◌+◌, ◌-◌, ◌<◌, ◌≤◌, ◌++◌, ℕ, Bool, true, false, List, [], ◌∷◌}
use Rattle.std.proofs.Common.{Option, Some, None, ap, append_assoc, arith, drop, inl, inr, length, refl, subst, sym, take}
use Rattle.std.specs.Prelude.{◌⊎◌, cond, filter, slice_index, if◌then◌else◌}
use Rattle.std.specs.Option.{option_map}
use Rattle.std.proofs.lemmas.Bool.{eqb-true}
use Rattle.std.proofs.lemmas.List.{length-append, length-take-le}
use Rattle.sixel_grammar.specs.Bytes.{is_digit, raster_sign, separator}
use Rattle.sixel_grammar.proofs.PieceLemmas.{all-append}
use Rattle.sixel_grammar.proofs.SourceLemmas.{one_past, split_past}
use Rattle.sixel_omissions.specs.declared.raster.Seen.{Seen}
use Rattle.sixel_omissions.specs.declared.raster.Seen.TheVariants.{Nothing, Open, Complete}
use Rattle.sixel_omissions.specs.declared.raster.WrittenRaster.{WrittenRaster}
use Rattle.sixel_omissions.specs.Omissions.{is_at, is_numeric}
use Rattle.sixel_omissions.specs.Rasters.{AreNumeric, HasNoSign, HasRead, HasSeenRaster, IsFirstSign, IsOpen, IsSeen}
use Rattle.sixel_omissions.specs.Rasters.{first_raster, numbers_before, raster_from, written_of}
use Rattle.sixel_omissions.proofs.BareLemmas.{filter_cons, get_right}

-- ---- one byte of numbers more

count_more : (p : ℕ → Bool) (xs : List ℕ) (x : ℕ)
    → length (filter p (xs ++ x ∷ [])) ≡ length (filter p xs) + cond (p x) 1 0
count_more p [] x = filter_cons p x [] ∙ omega arith
count_more p (y ∷ xs) x =
    let more = count_more p xs x in
    rw (filter_cons p y (xs ++ x ∷ []), filter_cons p y xs, more) (omega arith)

count_within : (p : ℕ → Bool) (xs : List ℕ) → length (filter p xs) ≤ length xs
count_within p [] = omega arith
count_within p (x ∷ xs) =
    let more = count_within p xs in
    let one = at_most_one (p x) in
    rw (filter_cons p x xs) (omega (arith, more, one))
  where
    at_most_one : (b : Bool) → cond b 1 0 ≤ 1
    at_most_one true = omega arith
    at_most_one false = omega arith

last_more : (p : ℕ → Bool) (xs : List ℕ) (x : ℕ) → is_at p (xs ++ x ∷ []) (length (xs ++ x ∷ []) - 1) ≡ p x
last_more p xs x =
    let last : length (xs ++ x ∷ []) - 1 ≡ length xs + 0 = omega (arith, length-append xs (x ∷ [])) in
    rw (last, get_right xs (x ∷ []) 0) refl

-- a test of bytes
by_test : (b : ℕ) → (b ≡ separator → ⊥) → (b == separator) ≡ false
by_test b differ = by (b == separator) refl
  where
    by : (t : Bool) → (b == separator) ≡ t → (b == separator) ≡ false
    by true is = absurd (differ (eqb-true b separator is))
    by false is = is

other_is_a_digit : (d s : Bool) → (d || s) ≡ true → s ≡ false → d ≡ true
other_is_a_digit true s either isnt = refl
other_is_a_digit false s either isnt = cc

pub separator_more : (place : ℕ) (numbers : List ℕ) (b : ℕ) → b ≡ separator
    → written_of place (numbers ++ b ∷ []) ≡ record {
      place = place;
      separators = length (filter (λ c. c == separator) numbers) + 1;
      ends_with_digit = false;
    }
separator_more place numbers b is =
    let digit : is_at is_digit (numbers ++ b ∷ []) (length (numbers ++ b ∷ []) - 1) ≡ false =
    last_more is_digit numbers b ∙ ap is_digit is in
    let count : length (filter (λ c. c == separator) (numbers ++ b ∷ []))
    ≡ length (filter (λ c. c == separator) numbers) + 1 =
    count_more (λ c. c == separator) numbers b
    ∙ ap (λ (c : ℕ). length (filter (λ d. d == separator) numbers) + cond (c == separator) 1 0) is in
    rw (count, digit) refl

pub digit_more : (place : ℕ) (numbers : List ℕ) (b : ℕ) → (b ≡ separator → ⊥) → is_numeric b ≡ true
    → written_of place (numbers ++ b ∷ []) ≡ record {
      place = place;
      separators = length (filter (λ c. c == separator) numbers);
      ends_with_digit = true;
    }
digit_more place numbers b differ numeric =
    let free = by_test b differ in
    let digit : is_at is_digit (numbers ++ b ∷ []) (length (numbers ++ b ∷ []) - 1) ≡ true =
    last_more is_digit numbers b ∙ other_is_a_digit (is_digit b) (b == separator) numeric free in
    let count : length (filter (λ c. c == separator) (numbers ++ b ∷ []))
    ≡ length (filter (λ c. c == separator) numbers) =
    count_more (λ c. c == separator) numbers b
    ∙ ap (λ (t : Bool). length (filter (λ c. c == separator) numbers) + cond t 1 0) free
    ∙ omega arith in
    rw (count, digit) refl

-- ---- no sign, and what is behind

none_from : (n : ℕ) (bytes : List ℕ) → HasNoSign bytes → raster_from n bytes ≡ None
none_from n [] free = refl
none_from n (b ∷ bs) free = rw (free.0) (none_from (n + 1) bs free.1)

pub none_first : (bytes : List ℕ) → HasNoSign bytes → first_raster bytes ≡ None
none_first bytes free = none_from 0 bytes free

behind_none : (n : ℕ) (before bytes : List ℕ) → HasNoSign before
    → raster_from n (before ++ bytes) ≡ raster_from (n + length before) bytes
behind_none n [] bytes free = let same : n ≡ n + 0 = omega arith in ap (λ (k : ℕ). raster_from k bytes) same
behind_none n (b ∷ bs) bytes free =
    let next : n + 1 + length bs ≡ n + length (b ∷ bs) = omega arith in
    rw (free.0) (behind_none (n + 1) bs bytes free.1 ∙ ap (λ (k : ℕ). raster_from k bytes) next)

open_numbers : (bs : List ℕ) → AreNumeric bs → numbers_before bs ≡ None
open_numbers [] all = refl
open_numbers (b ∷ bs) all = rw (all.0) (ap (option_map (λ (ns : List ℕ). b ∷ ns)) (open_numbers bs all.1))

closed_numbers : (bs : List ℕ) (b : ℕ) (more : List ℕ) → AreNumeric bs → is_numeric b ≡ false
    → numbers_before (bs ++ b ∷ more) ≡ Some bs
closed_numbers [] b more all free = rw free refl
closed_numbers (c ∷ bs) b more all free =
    rw (all.0) (ap (option_map (λ (ns : List ℕ). c ∷ ns)) (closed_numbers bs b more all.1 free))

pub open_first : (w : WrittenRaster) (bytes : List ℕ) → IsOpen w bytes → first_raster bytes ≡ None
open_first w bytes h =
    ap first_raster h.bytes_are
    ∙ behind_none 0 h.before (raster_sign ∷ h.behind) h.first
    ∙ ap (option_map (written_of (0 + length h.before))) (open_numbers h.behind h.numeric)

-- ---- they stay

-- what there is stays
abbrev Stays : {A : Type 0} → Option A → Option A → Type 0
Stays {A} x y = (a : A) → x ≡ Some a → y ≡ Some a

map_stays : {A B : Type 0} (f : A → B) (x y : Option A) → Stays x y → Stays (option_map f x) (option_map f y)
map_stays f None y stays = λ b is. absurd cc
map_stays f (Some a) y stays = λ b is. ap (option_map f) (stays a refl) ∙ is

if_stays : {A : Type 0} (t : Bool) (x y u v : Option A) → Stays x y → Stays u v
    → Stays (if t then x else u) (if t then y else v)
if_stays true x y u v stays other = stays
if_stays false x y u v stays other = other

numbers_stay : (bs more : List ℕ) → Stays (numbers_before bs) (numbers_before (bs ++ more))
numbers_stay [] more = λ a is. absurd cc
numbers_stay (b ∷ bs) more =
    if_stays (is_numeric b) (option_map (λ (ns : List ℕ). b ∷ ns) (numbers_before bs))
    (option_map (λ (ns : List ℕ). b ∷ ns) (numbers_before (bs ++ more))) (Some []) (Some [])
    (map_stays (λ (ns : List ℕ). b ∷ ns) (numbers_before bs) (numbers_before (bs ++ more)) (numbers_stay bs more))
    (λ a is. is)

raster_stays : (n : ℕ) (bytes more : List ℕ) → Stays (raster_from n bytes) (raster_from n (bytes ++ more))
raster_stays n [] more = λ a is. absurd cc
raster_stays n (b ∷ bs) more =
    if_stays (b == raster_sign) (option_map (written_of n) (numbers_before bs))
    (option_map (written_of n) (numbers_before (bs ++ more))) (raster_from (n + 1) bs) (raster_from (n + 1) (bs ++ more))
    (map_stays (written_of n) (numbers_before bs) (numbers_before (bs ++ more)) (numbers_stay bs more))
    (raster_stays (n + 1) bs more)

pub first_stays : (bytes more : List ℕ) (w : WrittenRaster) → first_raster bytes ≡ Some w
    → first_raster (bytes ++ more) ≡ Some w
first_stays bytes more w is = raster_stays 0 bytes more w is

-- ---- what is kept

-- a byte behind the numbers
pub read_closed : (place : ℕ) (numbers : List ℕ) (b : ℕ) (more : List ℕ) (w : WrittenRaster) → AreNumeric numbers
    → is_numeric b ≡ false → w ≡ written_of place numbers → HasRead place (numbers ++ b ∷ more) (Complete w)
read_closed place numbers b more w all free is =
    ap (option_map (written_of place)) (closed_numbers numbers b more all free) ∙ ap Some (sym is)

-- what is read behind a first sign is seen
read_seen : (before behind : List ℕ) (s : Seen) → HasNoSign before → HasRead (length before) behind s
    → IsSeen (before ++ raster_sign ∷ behind) s
read_seen before behind Nothing free read = absurd read
read_seen before behind (Open w) free read = record {
  before = before;
  behind = behind;
  bytes_are = refl;
  first = free;
  numeric = read.0;
  written = read.1;
}
read_seen before behind (Complete w) free read =
    let place : 0 + length before ≡ length before = omega arith in
    behind_none 0 before (raster_sign ∷ behind) free
    ∙ ap (λ (n : ℕ). option_map (written_of n) (numbers_before behind)) place
    ∙ read

-- raster attributes that are open go on
pub seen_on : (w : WrittenRaster) (bytes more : List ℕ) (s : Seen) → IsOpen w bytes
    → ((place : ℕ) (numbers : List ℕ) → AreNumeric numbers → w ≡ written_of place numbers
    → HasRead place (numbers ++ more) s) → IsSeen (bytes ++ more) s
seen_on w bytes more s h read =
    let all : h.before ++ raster_sign ∷ (h.behind ++ more) ≡ bytes ++ more =
    sym (ap (λ (bs : List ℕ). bs ++ more) h.bytes_are ∙ append_assoc h.before (raster_sign ∷ h.behind) more) in
    subst (λ (bs : List ℕ). IsSeen bs s) all
    (read_seen h.before (h.behind ++ more) s h.first (read (length h.before) h.behind h.numeric h.written))

-- bytes are those before an index, the one at it, and those behind it
pub on_rest : (numbers xs : List ℕ) (at : ℕ) → at < length xs
    → (numbers ++ take at xs) ++ slice_index xs at ∷ drop (at + 1) xs ≡ numbers ++ xs
on_rest numbers xs at lt =
    sym (split_past numbers xs at lt
    ∙ append_assoc (numbers ++ take at xs) (slice_index xs at ∷ []) (drop (at + 1) xs))

-- the first ones begin at this index
pub seen_begun : (before bytes : List ℕ) (at : ℕ) (s : Seen) → HasNoSign before → IsFirstSign bytes (Some at)
    → HasRead (length before + at) (drop (at + 1) bytes) s → IsSeen (before ++ bytes) s
seen_begun before bytes at s free first read =
    let all : (before ++ take at bytes) ++ raster_sign ∷ drop (at + 1) bytes ≡ before ++ bytes =
    ap (λ (b : ℕ). (before ++ take at bytes) ++ b ∷ drop (at + 1) bytes) (sym first.1) ∙ on_rest before bytes at first.0 in
    let place : length before + at ≡ length (before ++ take at bytes) =
    omega (arith, length-append before (take at bytes), length-take-le at bytes, first.0) in
    subst (λ (bs : List ℕ). IsSeen bs s) all
    (read_seen (before ++ take at bytes) (drop (at + 1) bytes) s
    (all-append (λ b. (b == raster_sign) ≡ false) before (take at bytes) free first.2)
    (subst (λ (n : ℕ). HasRead n (drop (at + 1) bytes) s) place read))

pub no_sign_append : (xs ys : List ℕ) → HasNoSign xs → HasNoSign ys → HasNoSign (xs ++ ys)
no_sign_append xs ys free more = all-append (λ b. (b == raster_sign) ≡ false) xs ys free more

pub no_sign_more : (xs : List ℕ) (at : ℕ) → at < length xs → HasNoSign (take at xs)
    → (slice_index xs at == raster_sign) ≡ false → HasNoSign (take (at + 1) xs)
no_sign_more xs at lt free here =
    subst HasNoSign (one_past [] xs at lt) (no_sign_append (take at xs) (slice_index xs at ∷ []) free (here, tt))

pub numeric_more : (numbers xs : List ℕ) (at : ℕ) → at < length xs → AreNumeric (numbers ++ take at xs)
    → is_numeric (slice_index xs at) ≡ true → AreNumeric (numbers ++ take (at + 1) xs)
numeric_more numbers xs at lt all here =
    subst AreNumeric (one_past numbers xs at lt)
    (all-append (λ b. is_numeric b ≡ true) (numbers ++ take at xs) (slice_index xs at ∷ []) all (here, tt))

-- there are no more separators than bytes
pub open_fits : {w : WrittenRaster} {bytes : List ℕ} → IsOpen w bytes → w.separators ≤ length bytes
open_fits {w} {bytes} h =
    let few = count_within (λ c. c == separator) h.behind in
    let all : length bytes ≡ length (h.before ++ raster_sign ∷ h.behind) = ap length h.bytes_are in
    let count : w.separators ≡ length (filter (λ c. c == separator) h.behind) =
    ap (λ (r : WrittenRaster). r.separators) h.written in
    omega (arith, few, all, count, length-append h.before (raster_sign ∷ h.behind))

pub seen_nothing : HasSeenRaster (record { read = 0; seen = Nothing }) []
seen_nothing = record { read_is = refl; seen_is = tt }

pub not_complete : (bytes : List ℕ) (s : Seen) → (s ≡ Nothing) ⊎ ((w : WrittenRaster) × (s ≡ Open w)) → IsSeen bytes s
    → None ≡ first_raster bytes
not_complete bytes s either seen = elim either [
  | inl is ↦ sym (none_first bytes (subst (IsSeen bytes) is seen))
  | inr is ↦ sym (open_first is.0 bytes (subst (IsSeen bytes) is.1 seen))
]
