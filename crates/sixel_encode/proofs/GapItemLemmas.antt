-- The list of where gaps end.
use Rattle.std.proofs.Common.{◌≡◌, ◌≢◌, ◌⊎◌, ℕ, zero, suc, ◌+◌, ◌-◌, ◌*◌, ◌%◌, ◌/◌, ◌^◌, ◌<◌, ◌≤◌, List, length, get_or}
use Rattle.std.proofs.Common.{set, max, w64, inl, inr, sym, ap, subst, ◌∙◌, arith, bit_and, bit_or}
use Rattle.std.specs.Prelude.{nat_lt}
use Rattle.std.specs.Int.{bit_at, trailing_zeros}
use Rattle.std.proofs.lemmas.Bool.{cases_eq, cases_lt, le-ltb, lt-ltb}
use Rattle.std.proofs.lemmas.List.{get_or-set_other, get_or-set_same, length-set}
use Rattle.std.proofs.lemmas.Nat.{and-not, and_comm, le_or_r, one_shl, or_lt, pow_below, pow_pos}
use Rattle.std.proofs.lemmas.Nat.Bits.{bit_at-pow_other, bit_at-pow_same, bit_at-trailing_zeros, bit_at-zero}
use Rattle.std.proofs.lemmas.Nat.Bits.{bit_at_clear_other, bit_at_clear_same, and_pow, bit_at_or, same_from_bits_below}
use mir.Val.{bool_byte}
use Rattle.sixel_encode.specs.Columns.{IsInkIn}
use Rattle.sixel_encode.specs.Gaps.{AreEndBits, AreGapEnds, AreGapEndsBut, AreRising, IsGapEnd}

-- ---- the items of the list

-- an item is no less than its index
rising_from : {bytes ends : List ℕ} {count : ℕ} (i : ℕ) → AreRising bytes ends count → i < count → i ≤ get_or ends i 0
rising_from zero items lt = omega arith
rising_from (suc i) items lt =
    omega (arith, rising_from i items (omega (arith, lt)), items.rising i (suc i) (omega arith) lt)

pub few_items : {bytes ends : List ℕ} (count to : ℕ) → AreRising bytes ends count
    → ((i : ℕ) → i < count → get_or ends i 0 < to) → count ≤ to
few_items zero to items before = omega arith
few_items (suc n) to items before = omega (arith, rising_from n items (omega arith), before n (omega arith))

-- no item
pub no_items : (bytes ends : List ℕ) → length ends ≡ 2113 → AreGapEnds 0 bytes ends 0
no_items bytes ends long = record {
  items = record {
    long = long;
    each = λ i lt. absurd (omega (arith, lt));
    rising = λ i j lt less. absurd (omega (arith, less));
  };
  before = λ i lt. absurd (omega (arith, lt));
  all = λ x lt e. absurd (omega (arith, lt));
}

-- columns whose group isn't in the mask have no gap end
pub ends_on : {from : ℕ} (to groups : ℕ) {bytes ends : List ℕ} {count : ℕ} → from ≤ to → IsInkIn groups bytes
    → ((x : ℕ) → from ≤ x → x < to → x < length bytes → bit_at groups (x / 32) ≡ 0) → AreGapEnds from bytes ends count
    → AreGapEnds to bytes ends count
ends_on {from} to groups le ink unset are = record {
  items = are.items;
  before = λ i lt. omega (arith, are.before i lt, le);
  all = λ x lt e. elim (cases_lt x from) [
    | inl less ↦ are.all x less e
    | inr past ↦ absurd (e.ink (ink x e.within (unset x (omega (arith, past)) lt e.within)))
  ];
}

-- a group whose ends aren't added yet
pub group_begun : {at : ℕ} (bits : ℕ) {bytes ends : List ℕ} {count : ℕ} → AreGapEnds at bytes ends count
    → AreEndBits at bytes bits → AreGapEndsBut at bits bytes ends count
group_begun {at} bits {bytes} are set = record {
  items = are.items;
  before = λ i lt. omega (arith, are.before i lt);
  later = λ i j lt less is. omega (arith, are.before i lt);
  rest = λ j lt is. (set j lt).0 is;
  all = λ x lt e. elim (cases_lt x at) [
    | inl less ↦ inl (are.all x less e)
    | inr past ↦
        let place : at + (x - at) ≡ x = omega (arith, past) in
        let inner : x - at < 32 = omega (arith, lt, past) in
        inr (x - at, inner, place, (set (x - at) inner).1 (subst (λ (k : ℕ). IsGapEnd bytes k) (sym place) e))
  ];
}

-- a group whose ends are all added
pub group_done : {at : ℕ} {bytes ends : List ℕ} {count : ℕ} → AreGapEndsBut at 0 bytes ends count
    → AreGapEnds (at + 32) bytes ends count
group_done are = record {
  items = are.items;
  before = are.before;
  all = λ x lt e. elim (are.all x lt e) [
    | inl listed ↦ listed
    | inr w ↦ absurd (omega (arith, w.3, bit_at-zero w.0))
  ];
}

-- ---- one more item

-- the lowest of the first 32 bits that is set, or 32
pub record IsLowest (left low : ℕ) : Type 0 where
  pub most : low ≤ 32
  pub clear : (i : ℕ) → i < low → bit_at left i ≡ 0
  pub set_here : low < 32 → bit_at left low ≡ 1

pub lowest_is : (left : ℕ) → left < 2 ^ 32 → IsLowest left (trailing_zeros w64 (bit_or left (2 ^ 32)))
lowest_is left few =
    let both = bit_or left (2 ^ 32) in
    let low = trailing_zeros w64 both in
    let some : 0 < both = omega (arith, le_or_r left (2 ^ 32)) in
    let most : both < 2 ^ 64 = or_lt 64 left (2 ^ 32) (omega (arith, few)) (omega arith) in
    let found = bit_at-trailing_zeros w64 both some most in
    let behind : bit_at both 32 ≡ max (bit_at left 32) 1 =
    bit_at_or left (2 ^ 32) 32 ∙ ap (max (bit_at left 32)) (bit_at-pow_same 32) in
    record {
      most = elim (cases_lt 32 low) [
        | inl past ↦ absurd (omega (arith, behind, found.2 32 past))
        | inr past ↦ omega (arith, past)
      ];
      clear = λ i lt. omega (arith, found.2 i lt, bit_at_or left (2 ^ 32) i);
      set_here = λ lt.
          let other = bit_at-pow_other 32 low (λ e. absurd (omega (arith, e, lt))) in
          omega (arith, found.1, bit_at_or left (2 ^ 32) low, other);
    }

-- the mask without its lowest bit
abbrev pub IsRest : ℕ → ℕ → ℕ → Type 0
IsRest left low rest = ((j : ℕ) → j < 32 → j ≢ low → bit_at rest j ≡ bit_at left j)
    × (low < 32 → bit_at rest low ≡ 0)

pub rest_is : (left low : ℕ) → low < 64 → IsRest left low (bit_and left (2 ^ 64 - 1 - 1 * 2 ^ low % 2 ^ 64))
rest_is left low small = (
  λ j lt other. bit_at_clear_other w64 left low small j (omega (arith, lt)) other,
  λ lt. bit_at_clear_same w64 left low small,
)

-- the mask is smaller without it
pub rest_less : {left low : ℕ} → left < 2 ^ 32 → left ≢ 0 → IsLowest left low
    → bit_and left (2 ^ 64 - 1 - 1 * 2 ^ low % 2 ^ 64) < left
rest_less {left} {low} few some lowest = elim (cases_lt low 32) [
  | inl small ↦
      let one : 1 * 2 ^ low % 2 ^ 64 ≡ 2 ^ low = one_shl low 64 (omega (arith, small)) in
      let less : 2 ^ low < 2 ^ 64 = pow_below low 64 (omega (arith, small)) in
      let parts = and-not 64 (2 ^ low) left less (omega (arith, few)) in
      let low_part : bit_and (2 ^ low) left ≡ 2 ^ low =
      and_comm (2 ^ low) left ∙ and_pow left low ∙ ap (λ (n : ℕ). n * 2 ^ low) (lowest.set_here small) ∙ omega arith in
      let turned = and_comm left (2 ^ 64 - 1 - 2 ^ low) in
      rw one (omega (arith, parts, low_part, turned, pow_pos low))
  | inr past ↦
      let none : left ≡ 0 = same_from_bits_below 32 left 0 few (omega arith) (λ i lt.
      lowest.clear i (omega (arith, past, lt)) ∙ sym (bit_at-zero i)) in
      absurd (some none)
]

-- nothing was added
nothing_added : {at left low : ℕ} (rest x : ℕ) {bytes ends : List ℕ} {count : ℕ} → IsLowest left low
    → IsRest left low rest → low ≡ 32 → AreGapEndsBut at left bytes ends count
    → AreGapEndsBut at rest bytes (set ends count x) count
nothing_added {left} rest x {bytes} {ends} {count} lowest is none are =
    let same : (i : ℕ) → i < count → get_or (set ends count x) i 0 ≡ get_or ends i 0 =
    λ i lt. get_or-set_other ends count i x 0 (λ e. absurd (omega (arith, e, lt))) in
    let bit : (j : ℕ) → j < 32 → bit_at rest j ≡ bit_at left j =
    λ j lt. is.0 j lt (λ e. absurd (omega (arith, e, lt, none))) in
    record {
      items = record {
        long = length-set ends count x ∙ are.items.long;
        each = λ i lt. subst (λ (k : ℕ). IsGapEnd bytes k) (sym (same i lt)) (are.items.each i lt);
        rising = λ i j lt less.
            omega (arith, same i (omega (arith, lt, less)), same j less, are.items.rising i j lt less);
      };
      before = λ i lt. omega (arith, same i lt, are.before i lt);
      later = λ i j lt less set. omega (arith, same i lt, are.later i j lt less (sym (bit j less) ∙ set));
      rest = λ j lt set. are.rest j lt (sym (bit j lt) ∙ set);
      all = λ y lt e. elim (are.all y lt e) [
        | inl w ↦ inl (w.0, w.1, same w.0 w.1 ∙ w.2)
        | inr w ↦ inr (w.0, w.1, w.2, bit w.0 w.1 ∙ w.3)
      ];
    }

one_added : {at left low : ℕ} (rest x : ℕ) {bytes ends : List ℕ} {count : ℕ} → IsLowest left low → IsRest left low rest
    → low < 32 → x ≡ at + low → count < 2113 → AreGapEndsBut at left bytes ends count
    → AreGapEndsBut at rest bytes (set ends count x) (count + 1)
one_added {at} {left} {low} rest x {bytes} {ends} {count} lowest is small its room are =
    let new = set ends count x in
    let same : (i : ℕ) → i < count → get_or new i 0 ≡ get_or ends i 0 =
    λ i lt. get_or-set_other ends count i x 0 (λ e. absurd (omega (arith, e, lt))) in
    let here : get_or new count 0 ≡ at + low =
    get_or-set_same ends count x 0 (omega (arith, room, are.items.long)) ∙ its in
    let last : (i : ℕ) → i < count + 1 → (i < count) ⊎ (i ≡ count) = λ i lt. elim (cases_lt i count) [
      | inl less ↦ inl less
      | inr past ↦ inr (omega (arith, past, lt))
    ] in
    let at_last : (i : ℕ) → i ≡ count → get_or new i 0 ≡ at + low =
    λ i e. ap (λ (k : ℕ). get_or new k 0) e ∙ here in
    let other : (j : ℕ) → bit_at rest j ≡ 1 → j ≢ low =
    λ j set e. absurd (omega (arith, is.1 small, sym (ap (bit_at rest) e) ∙ set)) in
    let kept : (j : ℕ) → j < 32 → bit_at rest j ≡ 1 → bit_at left j ≡ 1 =
    λ j lt set. sym (is.0 j lt (other j set)) ∙ set in
    let above : (j : ℕ) → j < 32 → bit_at rest j ≡ 1 → low < j = λ j lt set. elim (cases_lt low j) [
      | inl less ↦ less
      | inr past ↦ elim (cases_eq j low) [
        | inl e ↦ absurd (other j set e)
        | inr differ ↦ absurd (omega (arith, kept j lt set, lowest.clear j (omega (arith, past, differ))))
      ]
    ] in
    record {
      items = record {
        long = length-set ends count x ∙ are.items.long;
        each = λ i lt. elim (last i lt) [
          | inl less ↦ subst (λ (k : ℕ). IsGapEnd bytes k) (sym (same i less)) (are.items.each i less)
          | inr e ↦ subst (λ (k : ℕ). IsGapEnd bytes k) (sym (at_last i e)) (are.rest low small (lowest.set_here small))
        ];
        rising = λ i j lt less. elim (last j less) [
          | inl inner ↦ omega (arith, same i (omega (arith, lt, inner)), same j inner, are.items.rising i j lt inner)
          | inr e ↦
              let first : i < count = omega (arith, e, lt) in
              omega (arith, same i first, at_last j e, are.later i low first small (lowest.set_here small))
        ];
      };
      before = λ i lt. elim (last i lt) [
        | inl less ↦ omega (arith, same i less, are.before i less)
        | inr e ↦ omega (arith, at_last i e, small)
      ];
      later = λ i j lt less set. elim (last i lt) [
        | inl first ↦ omega (arith, same i first, are.later i j first less (kept j less set))
        | inr e ↦ omega (arith, at_last i e, above j less set)
      ];
      rest = λ j lt set. are.rest j lt (kept j lt set);
      all = λ y lt e. elim (are.all y lt e) [
        | inl w ↦ inl (w.0, omega (arith, w.1), same w.0 w.1 ∙ w.2)
        | inr w ↦ elim (cases_eq w.0 low) [
          | inl is_low ↦ inl (count, omega arith, here ∙ ap (λ (k : ℕ). at + k) (sym is_low) ∙ w.2)
          | inr differ ↦ inr (w.0, w.1, w.2, is.0 w.0 w.1 differ ∙ w.3)
        ]
      ];
    }

pub lowest_added : {at left low : ℕ} (rest x more : ℕ) {bytes ends : List ℕ} {count : ℕ} → IsLowest left low
    → IsRest left low rest → x ≡ at + low → more ≡ bool_byte (nat_lt low 32) → count < 2113
    → AreGapEndsBut at left bytes ends count → AreGapEndsBut at rest bytes (set ends count x) (count + more)
lowest_added {low} rest x more {count} lowest is its many room are = elim (cases_lt low 32) [
  | inl small ↦
      let one : more ≡ 1 = many ∙ ap bool_byte (lt-ltb low 32 small) in
      rw one (one_added rest x lowest is small its room are)
  | inr past ↦
      let none : more ≡ 0 = many ∙ ap bool_byte (le-ltb low 32 (omega (arith, past))) in
      let all : low ≡ 32 = omega (arith, past, lowest.most) in
      let plain : count + 0 ≡ count = omega arith in
      rw (none, plain) (nothing_added rest x lowest is all are)
]
