-- Painting four columns at a time.
use Rattle.std.proofs.Common.{◌≡◌, ℕ, ◌+◌, ◌-◌, ◌/◌, ◌%◌, ◌<◌, ◌≤◌, Bool, true, false, ◌&&◌, ◌||◌, cond, List}
use Rattle.std.proofs.Common.{length, get_or, nat_le, nat_lt, refl, sym, ap, ap₂, ◌∙◌, ◌==◌, ◌⊎◌, arith, inl, inr}
use Rattle.std.proofs.Common.{drop, slice_set, take}
use Rattle.std.specs.Int.{bit_at}
use Rattle.std.specs.Prelude.{slice_index}
use Rattle.std.proofs.lemmas.Bool.{and_from, and_parts, cases_lt, le-leb, leb-true, lt-ltb, ltb-true}
use Rattle.std.proofs.lemmas.Bool.Decides.{nat_tests}
use Rattle.std.proofs.lemmas.Grind.{get_or-set_at}
use Rattle.std.proofs.lemmas.List.{get_or-drop, get_or-set_other, get_or-take, get_or_read_under, length-drop}
use Rattle.std.proofs.lemmas.List.{length-set, length-take-le}
use Rattle.std.proofs.lemmas.Nat.Bits.{bit_at-zero}
use Rattle.sixel_terminal.specs.declared.pixel.Ink.{Ink}
use Rattle.sixel_terminal.specs.Canvases.{black}
use Rattle.sixel_terminal.specs.Pixels.{ink_of}
use Rattle.sixel_terminal.specs.Stretches.{AreFirstSixels, IsStretchPainted, has_bit, is_stretched}
use Rattle.sixel_terminal.proofs.StretchLemmas.{and_when, both_over, no_row, or_and}

-- ---- four pixels of a row

-- k pixels from `at` on were set to what f gives for their numbers
record AreSet (at k : ℕ) (f : ℕ → Ink) (old new : List Ink) : Type 0 where
  pub long : length new ≡ length old
  pub pixels : (i : ℕ) → i < length old
      → get_or new i black ≡ cond (nat_le at i && nat_lt i (at + k)) (f (i - at)) (get_or old i black)

none_set : (at : ℕ) (f : ℕ → Ink) (xs : List Ink) → AreSet at 0 f xs xs
none_set at f xs = record {
  long = refl;
  pixels = λ i lt. ap (λ (t : Bool). cond t (f (i - at)) (get_or xs i black)) (sym (none at i));
}
  where
    none : (at i : ℕ) → (nat_le at i && nat_lt i (at + 0)) ≡ false
    none at i = grind (arith, nat_tests)

same_or_other : (j k : ℕ) → (j ≡ k) ⊎ (¬ (j ≡ k))
same_or_other j k =
    elim (cases_lt j k) [
      | inl below ↦ inr (λ same. absurd (omega (arith, below, same)))
      | inr least ↦ elim (cases_lt k j) [
        | inl above ↦ inr (λ same. absurd (omega (arith, above, same)))
        | inr most ↦ inl (omega (arith, least, most))
      ]
    ]

elsewhere : (at k i place : ℕ) → place ≡ at + k → ¬ (i ≡ place)
    → (nat_le at i && nat_lt i (at + k)) ≡ (nat_le at i && nat_lt i (at + (k + 1)))
elsewhere at k i place is other = grind (arith, nat_tests, is, other)

set_next : (at k place : ℕ) (f : ℕ → Ink) (ink : Ink) (old mid : List Ink) → place ≡ at + k → place < length old
    → ink ≡ f k → AreSet at k f old mid → AreSet at (k + 1) f old (slice_set mid place ink)
set_next at k place f ink old mid is within value before = record {
  long = length-set mid place ink ∙ before.long;
  pixels = λ i lt.
      elim (same_or_other i place) [
        | inl same ↦
            let number : k ≡ i - at = omega (arith, same, is) in
            get_or-set_at mid place i ink black same (omega (arith, within, before.long))
            ∙ value ∙ ap f number
            ∙ ap (λ (t : Bool). cond t (f (i - at)) (get_or old i black))
            (sym (and_from _ _ (le-leb at i (omega (arith, same, is)))
            (lt-ltb i (at + (k + 1)) (omega (arith, same, is)))))
        | inr other ↦
            get_or-set_other mid place i ink black other
            ∙ before.pixels i lt
            ∙ ap (λ (t : Bool). cond t (f (i - at)) (get_or old i black)) (elsewhere at k i place is other)
      ];
}

-- the new pixel with the number j
abbrev pub picked : ℕ → List ℕ → ℕ → Ink → List Ink → ℕ → Ink
picked at sixels bit ink old j = cond (bit_at (slice_index sixels j) bit == 1) ink (get_or old (at + j) black)

pub picked_is : (at j place bit : ℕ) (sixels : List ℕ) (ink old new : Ink) (xs : List Ink) → place ≡ at + j
    → place < length xs → old ≡ get_or xs place old → new ≡ cond (bit_at (slice_index sixels j) bit == 1) ink old
    → new ≡ picked at sixels bit ink xs j
picked_is at j place bit sixels ink old new xs there within is value =
    value
    ∙ ap (λ o. cond (bit_at (slice_index sixels j) bit == 1) ink o)
    (get_or_read_under xs place (length xs) old black is within refl ∙ ap (λ n. get_or xs n black) there)

-- what the pixel of a chosen code shows
pub chosen_shows : (set : Bool) (code own kept : ℕ) (ink old : Ink) → code ≡ cond set own kept → ink_of own ≡ ink
    → ink_of kept ≡ old → ink_of code ≡ cond set ink old
chosen_shows true code own kept ink old is here there = ap ink_of is ∙ here
chosen_shows false code own kept ink old is here there = ap ink_of is ∙ there

both : {A : Type 0} (within set : Bool) (ink new old : A) → (within ≡ true → new ≡ old)
    → cond within (cond set ink new) old ≡ cond (within && set) ink old
both true true ink new old same = refl
both true false ink new old same = same refl
both false set ink new old same = refl

pub four_painted : (at bit i : ℕ) (sixels : List ℕ) (ink a b c d : Ink) (xs : List Ink) → at + 4 ≤ length xs
    → a ≡ picked at sixels bit ink xs 0 → b ≡ picked at sixels bit ink xs 1
    → c ≡ picked at sixels bit ink xs 2 → d ≡ picked at sixels bit ink xs 3
    → i < length xs
    → get_or (slice_set (slice_set (slice_set (slice_set xs at a) (at + 1) b) (at + 2) c) (at + 3) d) i black
    ≡ cond ((nat_le at i && nat_lt i (at + 4)) && (bit_at (slice_index sixels (i - at)) bit == 1)) ink
    (get_or xs i black)
four_painted at bit i sixels ink a b c d xs room first second third last lt =
    let f = picked at sixels bit ink xs in
    let one = set_next at 0 at f a xs xs (omega arith) (omega (arith, room)) first (none_set at f xs) in
    let two = set_next at 1 (at + 1) f b xs (slice_set xs at a) refl (omega (arith, room)) second one in
    let three = set_next at 2 (at + 2) f c xs (slice_set (slice_set xs at a) (at + 1) b) refl (omega (arith, room))
    third two in
    let four = set_next at 3 (at + 3) f d xs (slice_set (slice_set (slice_set xs at a) (at + 1) b) (at + 2) c) refl
    (omega (arith, room)) last three in
    four.pixels i lt
    ∙ both (nat_le at i && nat_lt i (at + 4)) _ ink _ (get_or xs i black) (λ t.
    let parts = and_parts (nat_le at i) (nat_lt i (at + 4)) t in
    let here : at + (i - at) ≡ i = omega (arith, leb-true _ _ parts.0) in
    ap (λ j. get_or xs j black) here)

-- ---- four columns

bit_or_none : (there : Bool) (sixel bit : ℕ)
    → (bit_at (cond there sixel 0) bit == 1) ≡ (there && (bit_at sixel bit == 1))
bit_or_none true sixel bit = refl
bit_or_none false sixel bit = ap (λ n. n == 1) (bit_at-zero bit)

and_group : (a b c : Bool) → (a && (b && c)) ≡ ((a && b) && c)
and_group true b c = refl
and_group false b c = refl

fewer : (at i n : ℕ) → n ≤ 4
    → ((nat_le at i && nat_lt i (at + 4)) && nat_lt (i - at) n) ≡ (nat_le at i && nat_lt i (at + n))
fewer at i n few = grind (arith, nat_tests, few)

-- of four pixels of a row those are painted whose bytes are there and have the bit
pub few_pixels : (at bit i : ℕ) (bytes sixels : List ℕ) → AreFirstSixels bytes sixels → length bytes ≤ 4
    → ((nat_le at i && nat_lt i (at + 4)) && (bit_at (slice_index sixels (i - at)) bit == 1))
    ≡ ((nat_le at i && nat_lt i (at + length bytes)) && has_bit (slice_index bytes (i - at)) bit)
few_pixels at bit i bytes sixels are few =
    let n = length bytes in
    let within = nat_le at i && nat_lt i (at + 4) in
    let own = has_bit (slice_index bytes (i - at)) bit in
    and_when within _ (nat_lt (i - at) n && own) (λ t.
    let parts = and_parts (nat_le at i) (nat_lt i (at + 4)) t in
    ap (λ s. bit_at s bit == 1) (are.each (i - at) (omega (arith, leb-true _ _ parts.0, ltb-true _ _ parts.1)))
    ∙ bit_or_none (nat_lt (i - at) n) _ bit)
    ∙ and_group within (nat_lt (i - at) n) own
    ∙ ap (λ (t : Bool). t && own) (fewer at i n few)

-- the columns of the first k bytes
pub first_columns : (left top n k x y : ℕ) (bytes : List ℕ) → k ≤ length bytes
    → is_stretched left top n (take k bytes) x y
    ≡ ((nat_le left x && nat_lt x (left + k))
    && ((nat_le top y && nat_lt y (top + n)) && has_bit (slice_index bytes (x - left)) (y - top)))
first_columns left top n k x y bytes few =
    let first = take k bytes in
    let long : length first ≡ k = length-take-le k bytes few in
    let rows = nat_le top y && nat_lt y (top + n) in
    ap (λ m. (nat_le left x && nat_lt x (left + m))
    && (rows && has_bit (slice_index first (x - left)) (y - top))) long
    ∙ and_when (nat_le left x && nat_lt x (left + k)) _ _ (λ t.
    let parts = and_parts (nat_le left x) (nat_lt x (left + k)) t in
    ap (λ b. rows && has_bit b (y - top))
    (get_or-take k bytes (x - left) 0 (omega (arith, leb-true _ _ parts.0, ltb-true _ _ parts.1))))

-- the columns of the first m bytes after the first k
part_columns : (left top n k m x y : ℕ) (bytes : List ℕ) → k + m ≤ length bytes
    → is_stretched (left + k) top n (take m (drop k bytes)) x y
    ≡ ((nat_le (left + k) x && nat_lt x (left + k + m))
    && ((nat_le top y && nat_lt y (top + n)) && has_bit (slice_index bytes (x - left)) (y - top)))
part_columns left top n k m x y bytes within =
    let rows = nat_le top y && nat_lt y (top + n) in
    first_columns (left + k) top n m x y (drop k bytes) (omega (arith, within, length-drop k bytes))
    ∙ and_when (nat_le (left + k) x && nat_lt x (left + k + m)) _ _ (λ t.
    let parts = and_parts (nat_le (left + k) x) (nat_lt x (left + k + m)) t in
    let here : k + (x - (left + k)) ≡ x - left = omega (arith, leb-true _ _ parts.0) in
    ap (λ b. rows && has_bit b (y - top))
    (get_or-drop k bytes (x - (left + k)) 0 ∙ ap (λ j. get_or bytes j 0) here))

over_columns : (left j k m x : ℕ) → j ≤ k → k ≤ j + m
    → ((nat_le left x && nat_lt x (left + k)) || (nat_le (left + j) x && nat_lt x (left + j + m)))
    ≡ (nat_le left x && nat_lt x (left + (j + m)))
over_columns left j k m x most least = grind (arith, nat_tests, most, least)

more_columns : (left top n j k m x y : ℕ) (bytes : List ℕ) → j ≤ k → k ≤ j + m → j + m ≤ length bytes
    → (is_stretched left top n (take k bytes) x y || is_stretched (left + j) top n (take m (drop j bytes)) x y)
    ≡ is_stretched left top n (take (j + m) bytes) x y
more_columns left top n j k m x y bytes most least within =
    ap₂ (λ u v. u || v) (first_columns left top n k x y bytes (omega (arith, least, within)))
    (part_columns left top n j m x y bytes within)
    ∙ or_and (nat_le left x && nat_lt x (left + k)) (nat_le (left + j) x && nat_lt x (left + j + m))
    ((nat_le top y && nat_lt y (top + n)) && has_bit (slice_index bytes (x - left)) (y - top))
    ∙ ap (λ (t : Bool). t && ((nat_le top y && nat_lt y (top + n))
    && has_bit (slice_index bytes (x - left)) (y - top))) (over_columns left j k m x most least)
    ∙ sym (first_columns left top n (j + m) x y bytes within)

pub no_columns : (n w left top : ℕ) (bytes : List ℕ) (ink : Ink) (xs : List Ink)
    → IsStretchPainted n w left top (take 0 bytes) ink xs xs
no_columns n w left top bytes ink xs = record {
  long = refl;
  pixels = λ i lt.
      ap (λ t. cond t ink (get_or xs i black))
      (sym (first_columns left top n 0 (i % w) (i / w) bytes (omega arith) ∙ no_row left (i % w) _));
}

-- m columns from j on, at the place at, which reach further than the k before
pub stretched_over : (j k m n w left top at : ℕ) (part bytes : List ℕ) (ink : Ink) (old mid new : List Ink)
    → part ≡ take m (drop j bytes) → j ≤ k → k ≤ j + m → j + m ≤ length bytes
    → IsStretchPainted n w left top (take k bytes) ink old mid → length new ≡ length mid
    → ((i : ℕ) → i < length mid
    → get_or new i black ≡ cond (is_stretched at top n part (i % w) (i / w)) ink (get_or mid i black))
    → at ≡ left + j → IsStretchPainted n w left top (take (j + m) bytes) ink old new
stretched_over j k m n w left top at part bytes ink old mid new is most least within before long all place = record {
  long = long ∙ before.long;
  pixels = λ i below.
      let x = i % w in
      let y = i / w in
      let here = is_stretched (left + j) top n (take m (drop j bytes)) x y in
      all i (omega (arith, below, before.long))
      ∙ ap (λ (l : ℕ). cond (is_stretched l top n part x y) ink (get_or mid i black)) place
      ∙ ap (λ (bs : List ℕ). cond (is_stretched (left + j) top n bs x y) ink (get_or mid i black)) is
      ∙ ap (λ o. cond here ink o) (before.pixels i below)
      ∙ sym (both_over (is_stretched left top n (take k bytes) x y) here ink (get_or old i black))
      ∙ ap (λ (t : Bool). cond t ink (get_or old i black))
      (more_columns left top n j k m x y bytes most least within);
}
