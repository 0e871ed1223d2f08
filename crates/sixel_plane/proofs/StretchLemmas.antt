-- The columns of data bytes, and groups of them painted at once.
use Rattle.std.proofs.Common.{◌≡◌, ◌==◌, ℕ, zero, suc, ◌+◌, ◌*◌, ◌-◌, ◌%◌, ◌^◌, ◌<◌, ◌≤◌, Bool, true, false, ◌&&◌, ◌||◌}
use Rattle.std.proofs.Common.{cond, add-one, List, length, get_or, map, replicate, w8, inl, inr, refl, sym, ap, ap₂}
use Rattle.std.proofs.Common.{◌∙◌, arith, subst}
use Rattle.std.specs.Prelude.{nat_lt, nat_le}
use Rattle.std.specs.Int.{bit_at}
use Rattle.std.specs.Int.Bits.{bit_and, bit_or}
use Rattle.std.specs.List.{range_with_len}
use Rattle.std.proofs.lemmas.Bool.Decides.{nat_tests}
use Rattle.std.proofs.lemmas.Bool.{cases_lt, lt-ltb, le-ltb}
use Rattle.std.proofs.lemmas.Nat.Bits.{bit_at-lt}
use Rattle.std.proofs.lemmas.Simd.{length-put_chunk, length-replicate, get_or-replicate, length-chunk}
use Rattle.std.proofs.lemmas.Simd.{get_or-chunk, length-zip2, get_or-zip2, tops_compared, length-sel_l, get_or-sel_l}
use lib.Lanes.{chunk, put_chunk, top, zip2, sel_l}
use Rattle.sixel_grammar.specs.Bytes.{is_data}
use Rattle.sixel_model.specs.Positions.{any_below}
use Rattle.sixel_plane.specs.Stretches.{AreEqual, AreMapped, ArePainted, AreSixelLanes, in_row, register_by_sixel}
use Rattle.sixel_plane.specs.Stretches.{run_sixel, sixel_of}
use Rattle.sixel_model.proofs.PositionLemmas.{any_below_same}
use Rattle.sixel_plane.proofs.LaneLemmas.{no_bit, stored_group}

mapped_group : (at : ℕ) (f : ℕ → ℕ → ℕ) (old group : List ℕ) → length group ≡ 16 → at + 16 ≤ length old
    → ((j : ℕ) → j < 16 → get_or group j 0 ≡ f j (get_or old (at + j) 0))
    → AreMapped at 16 f old (put_chunk at old group)
mapped_group at f old group long room each = record {
  long = length-put_chunk at old group;
  changed = λ i lt. stored_group at 16 (λ k. f (k - at) (get_or old k 0)) old group long room
      (λ j few.
      let back : j ≡ at + j - at = omega arith in
      each j few ∙ ap (λ k. f k (get_or old (at + j) 0)) back) i;
}

-- ---- coverage

pub covered_group : (at : ℕ) (old sixels : List ℕ) → length sixels ≡ 16 → at + 16 ≤ length old
    → AreMapped at 16 (λ j b. bit_or b (get_or sixels j 0)) old
    (put_chunk at old (zip2 bit_or (chunk at 16 old) sixels))
covered_group at old sixels long room =
    let loaded : length (chunk at 16 old) ≡ 16 = length-chunk at 16 old room in
    let whole : length (zip2 bit_or (chunk at 16 old) sixels) ≡ 16 =
    length-zip2 bit_or (chunk at 16 old) sixels (loaded ∙ sym long) ∙ loaded in
    mapped_group at (λ j b. bit_or b (get_or sixels j 0)) old (zip2 bit_or (chunk at 16 old) sixels) whole room
    (λ j lt. get_or-zip2 bit_or (chunk at 16 old) sixels j 0 0 0 (omega arith) (omega arith)
    ∙ ap (λ b. bit_or b (get_or sixels j 0)) (get_or-chunk at 16 old j 0 lt))

-- ---- one row

chosen : (b bit old register : ℕ)
    → cond (bit_at b bit == 0) old register ≡ cond (bit_at b bit == 1) register old
chosen b bit old register =
    let two = bit_at-lt b bit in
    grind (arith, nat_tests)

-- which lanes lack the bit
abbrev without : ℕ → List ℕ → List Bool
without bit sixels = zip2 (λ a b. a == b) (zip2 bit_and sixels (replicate 16 (1 * 2 ^ bit % 256))) (replicate 16 0)

length-without : (bit : ℕ) (sixels : List ℕ) → length sixels ≡ 16 → length (without bit sixels) ≡ 16
length-without bit sixels long =
    let inner : length (zip2 bit_and sixels (replicate 16 (1 * 2 ^ bit % 256))) ≡ 16 =
    length-zip2 bit_and sixels (replicate 16 (1 * 2 ^ bit % 256))
    (long ∙ sym (length-replicate 16 (1 * 2 ^ bit % 256))) ∙ long in
    length-zip2 (λ a b. a == b) _ (replicate 16 0) (inner ∙ sym (length-replicate {A = ℕ} 16 0)) ∙ inner

get_or-without : (bit : ℕ) (sixels : List ℕ) (j : ℕ) → bit < 8 → length sixels ≡ 16 → j < 16
    → get_or (without bit sixels) j false ≡ (bit_at (get_or sixels j 0) bit == 0)
get_or-without bit sixels j small long lt =
    let mask = replicate 16 (1 * 2 ^ bit % 256) in
    let splat : length mask ≡ 16 = length-replicate 16 (1 * 2 ^ bit % 256) in
    let inner : length (zip2 bit_and sixels mask) ≡ 16 =
    length-zip2 bit_and sixels mask (long ∙ sym splat) ∙ long in
    let zeros : length {A = ℕ} (replicate 16 0) ≡ 16 = length-replicate {A = ℕ} 16 0 in
    get_or-zip2 (λ a b. a == b) (zip2 bit_and sixels mask) (replicate 16 0) j 0 0 false (omega arith) (omega arith)
    ∙ ap₂ (λ a b. a == b)
    (get_or-zip2 bit_and sixels mask j 0 0 0 (omega arith) (omega arith)
    ∙ ap (λ m. bit_and (get_or sixels j 0) m) (get_or-replicate 16 j (1 * 2 ^ bit % 256) 0 lt))
    (get_or-replicate 16 j 0 0 lt)
    ∙ no_bit bit (get_or sixels j 0) small

pub painted_group : (at bit register : ℕ) (old sixels : List ℕ) → bit < 8 → length sixels ≡ 16 → at + 16 ≤ length old
    → AreMapped at 16 (register_by_sixel sixels bit register) old (put_chunk at old (sel_l
    (map (top 7) (zip2 (λ a b. cond (a == b) 255 0)
    (zip2 bit_and sixels (replicate 16 (1 * 2 ^ bit % 256))) (replicate 16 0)))
    (chunk at 16 old) (replicate 16 register)))
painted_group at bit register old sixels small long room =
    let loaded : length (chunk at 16 old) ≡ 16 = length-chunk at 16 old room in
    let splat : length (replicate 16 register) ≡ 16 = length-replicate 16 register in
    let tests : length (without bit sixels) ≡ 16 = length-without bit sixels long in
    let whole : length (sel_l (without bit sixels) (chunk at 16 old) (replicate 16 register)) ≡ 16 =
    length-sel_l (without bit sixels) (chunk at 16 old) (replicate 16 register) (tests ∙ sym loaded)
    (tests ∙ sym splat) ∙ tests in
    subst (λ ms. AreMapped at 16 (register_by_sixel sixels bit register) old
    (put_chunk at old (sel_l ms (chunk at 16 old) (replicate 16 register))))
    (sym (tops_compared w8 (λ a b. a == b) (zip2 bit_and sixels (replicate 16 (1 * 2 ^ bit % 256))) (replicate 16 0)))
    (mapped_group at (register_by_sixel sixels bit register) old
    (sel_l (without bit sixels) (chunk at 16 old) (replicate 16 register)) whole room
    (λ j lt. get_or-sel_l (without bit sixels) (chunk at 16 old) (replicate 16 register) j 0 (omega arith)
    (omega arith) (omega arith)
    ∙ (λ i. cond (get_or-without bit sixels j small long lt i) (get_or-chunk at 16 old j 0 lt i)
    (get_or-replicate 16 j register 0 lt i))
    ∙ chosen (get_or sixels j 0) bit (get_or old (at + j) 0) register))

-- ---- the sixels of data bytes

get_or-range : (a n j : ℕ) → j < n → get_or (range_with_len a n) j 0 ≡ a + j
get_or-range a zero j lt = absurd (omega arith)
get_or-range a (suc n) zero lt = omega arith
get_or-range a (suc n) (suc j) lt = get_or-range (a + 1) n j (omega arith) ∙ omega arith

number : (j : ℕ) → j < 16 → get_or (range_with_len 0 16) j 0 ≡ j
number j lt =
    let from : get_or (range_with_len 0 16) j 0 ≡ 0 + j = get_or-range 0 16 j lt in
    omega (arith, from)

length-range : (a n : ℕ) → length (range_with_len a n) ≡ n
length-range a zero = refl
length-range a (suc n) = ap suc (length-range (a + 1) n)

less_63 : (b : ℕ) → is_data b ≡ true → (b + (256 - 63)) % 256 ≡ b - 63
less_63 b are =
    let low : 63 ≤ b = grind (arith, nat_tests) in
    let high : b ≤ 126 = grind (arith, nat_tests) in
    omega arith

sixel_or_none : (byte count j : ℕ) → (j < count → is_data byte ≡ true)
    → cond (nat_lt j count) ((byte + (256 - 63)) % 256) 0 ≡ cond (nat_lt j count) (byte - 63) 0
sixel_or_none byte count j are = elim (cases_lt j count) [
  | inl few ↦
      let same : (byte + (256 - 63)) % 256 ≡ byte - 63 = less_63 byte (are few) in
      ap (λ (n : ℕ). cond (nat_lt j count) n 0) same
  | inr past ↦ grind (arith, nat_tests)
]

-- the first `count` lanes, and 0 in the lanes after them
abbrev prefix_lanes : ℕ → List ℕ → List ℕ
prefix_lanes count lanes =
    sel_l (map (top 7) (zip2 (λ a b. cond (nat_lt a b) 255 0) (range_with_len 0 16) (replicate 16 count))) lanes
    (replicate 16 0)

prefix_at : (count : ℕ) (lanes : List ℕ) → length lanes ≡ 16
    → (length (prefix_lanes count lanes) ≡ 16)
    × ((j : ℕ) → j < 16 → get_or (prefix_lanes count lanes) j 0 ≡ cond (nat_lt j count) (get_or lanes j 0) 0)
prefix_at count lanes whole =
    let taken = zip2 nat_lt (range_with_len 0 16) (replicate 16 count) in
    let numbers : length (range_with_len 0 16) ≡ 16 = length-range 0 16 in
    let counts : length (replicate 16 count) ≡ 16 = length-replicate 16 count in
    let zeros : length {A = ℕ} (replicate 16 0) ≡ 16 = length-replicate {A = ℕ} 16 0 in
    let tests : length taken ≡ 16 = length-zip2 nat_lt (range_with_len 0 16) (replicate 16 count)
    (numbers ∙ sym counts) ∙ numbers in
    let same = tops_compared w8 nat_lt (range_with_len 0 16) (replicate 16 count) in (
      ap (λ ms. length (sel_l ms lanes (replicate 16 0))) same
          ∙ length-sel_l taken lanes (replicate 16 0) (tests ∙ sym whole) (tests ∙ sym zeros) ∙ tests,
      λ j lt.
          ap (λ ms. get_or (sel_l ms lanes (replicate 16 0)) j 0) same
          ∙ get_or-sel_l taken lanes (replicate 16 0) j 0 (omega arith) (omega arith) (omega arith)
          ∙ ap₂ (λ (t : Bool) (z : ℕ). cond t (get_or lanes j 0) z)
          (get_or-zip2 nat_lt (range_with_len 0 16) (replicate 16 count) j 0 0 false (omega arith) (omega arith)
          ∙ ap₂ nat_lt (number j lt) (get_or-replicate 16 j count 0 lt))
          (get_or-replicate 16 j 0 0 lt),
    )

pub sixels_of : (at count : ℕ) (bytes : List ℕ) → at + 16 ≤ length bytes
    → ((j : ℕ) → j < count → is_data (get_or bytes (at + j) 0) ≡ true)
    → AreSixelLanes bytes at count (sel_l
    (map (top 7) (zip2 (λ a b. cond (nat_lt a b) 255 0) (range_with_len 0 16) (replicate 16 count)))
    (zip2 (λ a b. (a + (256 - b)) % 256) (chunk at 16 bytes) (replicate 16 63)) (replicate 16 0))
sixels_of at count bytes room are =
    let less : ℕ → ℕ → ℕ = λ a b. (a + (256 - b)) % 256 in
    let lanes = zip2 less (chunk at 16 bytes) (replicate 16 63) in
    let loaded : length (chunk at 16 bytes) ≡ 16 = length-chunk at 16 bytes room in
    let marks : length {A = ℕ} (replicate 16 63) ≡ 16 = length-replicate {A = ℕ} 16 63 in
    let whole : length lanes ≡ 16 = length-zip2 less (chunk at 16 bytes) (replicate 16 63) (loaded ∙ sym marks)
    ∙ loaded in
    let prefix = prefix_at count lanes whole in
    record {
      long = prefix.0;
      each = λ j lt.
          prefix.1 j lt
          ∙ ap (λ (n : ℕ). cond (nat_lt j count) n 0)
          (get_or-zip2 less (chunk at 16 bytes) (replicate 16 63) j 0 0 0 (omega arith) (omega arith)
          ∙ ap₂ less (get_or-chunk at 16 bytes j 0 lt) (get_or-replicate 16 j 63 0 lt))
          ∙ sixel_or_none (get_or bytes (at + j) 0) count j (are j);
    }

-- lanes with one sixel
pub equal_of : (bits count : ℕ) → AreEqual bits count (sel_l
    (map (top 7) (zip2 (λ a b. cond (nat_lt a b) 255 0) (range_with_len 0 16) (replicate 16 count)))
    (replicate 16 bits) (replicate 16 0))
equal_of bits count =
    let prefix = prefix_at count (replicate 16 bits) (length-replicate 16 bits) in
    record {
      long = prefix.0;
      each = λ j lt. prefix.1 j lt ∙ ap (λ (n : ℕ). cond (nat_lt j count) n 0) (get_or-replicate 16 j bits 0 lt);
    }

-- ---- rows and groups one after another

row_over : (r b a : Bool) (x o : ℕ) → cond r (cond b x (cond a x o)) (cond a x o) ≡ cond ((r && b) || a) x o
row_over true true a x o = refl
row_over true false a x o = refl
row_over false b a x o = refl

pub painted_none : (w start count : ℕ) (sixel : ℕ → ℕ) (register : ℕ) (xs : List ℕ)
    → ArePainted 0 w start count sixel register xs xs
unfolding any_below
painted_none w start count sixel register xs = record { long = refl; pixels = λ i lt. refl }

-- one more row
pub rows_more : (k w start register from : ℕ) (sixels old mid new : List ℕ) → from ≡ start + k * w
    → ArePainted k w start 16 (λ j. get_or sixels j 0) register old mid
    → AreMapped from 16 (register_by_sixel sixels k register) mid new
    → ArePainted (k + 1) w start 16 (λ j. get_or sixels j 0) register old new
unfolding any_below
rows_more k w start register from sixels old mid new at before row = record {
  long = row.long ∙ before.long;
  pixels = λ i lt.
      let p = in_row w start 16 (λ j. get_or sixels j 0) i in
      let s : ℕ = start + k * w in
      let r : Bool = nat_le s i && nat_lt i (s + 16) in
      let b : Bool = bit_at (get_or sixels (i - s) 0) k == 1 in
      let in_mid : i < length mid = omega (arith, before.long) in
      let written : get_or new i 0 ≡ cond r (cond b register (get_or mid i 0)) (get_or mid i 0) =
      subst (λ (f : ℕ). get_or new i 0 ≡ cond (nat_le f i && nat_lt i (f + 16))
      (cond (bit_at (get_or sixels (i - f) 0) k == 1) register (get_or mid i 0)) (get_or mid i 0)) at
      (row.changed i in_mid) in
      let joined : get_or new i 0 ≡ cond ((r && b) || any_below k p) register (get_or old i 0) =
      written ∙ ap (λ (o : ℕ). cond r (cond b register o) o) (before.pixels i lt)
      ∙ row_over r b (any_below k p) register (get_or old i 0) in
      rw add-one joined;
}

any_below_or : (n : ℕ) (p q : ℕ → Bool) → any_below n (λ k. p k || q k) ≡ (any_below n p || any_below n q)
unfolding any_below
any_below_or zero p q = refl
any_below_or (suc n) p q =
    ap (λ (t : Bool). (p n || q n) || t) (any_below_or n p q) ∙ turned (p n) (q n) (any_below n p) (any_below n q)
  where
    turned : (a b c d : Bool) → ((a || b) || (c || d)) ≡ ((a || c) || (b || d))
    turned true b c d = refl
    turned false true true d = refl
    turned false true false d = refl
    turned false false c d = refl

-- one row: a group after the columns before it
row_joined : (s n i k : ℕ) (f g : ℕ → ℕ) → ((j : ℕ) → j < 16 → g j ≡ f (n + j))
    → ((nat_le s i && nat_lt i (s + (n + 16))) && (bit_at (f (i - s)) k == 1))
    ≡ (((nat_le (s + n) i && nat_lt i (s + n + 16)) && (bit_at (g (i - (s + n))) k == 1))
    || ((nat_le s i && nat_lt i (s + n)) && (bit_at (f (i - s)) k == 1)))
row_joined s n i k f g same = elim (cases_lt i (s + n)) [
  | inl below ↦ grind (arith, nat_tests)
  | inr from ↦ elim (cases_lt i (s + n + 16)) [
    | inl to ↦
        let few : i - (s + n) < 16 = omega arith in
        let back : n + (i - (s + n)) ≡ i - s = omega arith in
        let here : g (i - (s + n)) ≡ f (i - s) = same (i - (s + n)) few ∙ ap f back in
        let bit : (bit_at (g (i - (s + n))) k == 1) ≡ (bit_at (f (i - s)) k == 1) = ap (λ b. bit_at b k == 1) here in
        grind (arith, nat_tests)
    | inr above ↦ grind (arith, nat_tests)
  ]
]

group_over : (a b : Bool) (x o : ℕ) → cond a x (cond b x o) ≡ cond (a || b) x o
group_over true b x o = refl
group_over false b x o = refl

-- one more group
pub groups_more : (w start n register : ℕ) (f : ℕ → ℕ) (sixels old mid new : List ℕ)
    → ((j : ℕ) → j < 16 → get_or sixels j 0 ≡ f (n + j))
    → ArePainted 6 w start n f register old mid
    → ArePainted 6 w (start + n) 16 (λ j. get_or sixels j 0) register mid new
    → ArePainted 6 w start (n + 16) f register old new
groups_more w start n register f sixels old mid new same before group = record {
  long = group.long ∙ before.long;
  pixels = λ i lt.
      let p = in_row w (start + n) 16 (λ j. get_or sixels j 0) i in
      let q = in_row w start n f i in
      let in_mid : i < length mid = omega (arith, before.long) in
      let each : (k : ℕ) → k < 6 → in_row w start (n + 16) f i k ≡ (p k || q k) = λ k few.
      let turned : start + k * w + n ≡ start + n + k * w = omega arith in
      subst (λ (t : ℕ). in_row w start (n + 16) f i k
      ≡ (((nat_le t i && nat_lt i (t + 16)) && (bit_at (get_or sixels (i - t) 0) k == 1)) || q k)) turned
      (row_joined (start + k * w) n i k f (λ j. get_or sixels j 0) same) in
      group.pixels i in_mid ∙ ap (λ (o : ℕ). cond (any_below 6 p) register o) (before.pixels i lt)
      ∙ group_over (any_below 6 p) (any_below 6 q) register (get_or old i 0)
      ∙ ap (λ (t : Bool). cond t register (get_or old i 0))
      (sym (any_below_same 6 (in_row w start (n + 16) f i) (λ k. p k || q k) each ∙ any_below_or 6 p q));
}

none_below : (n : ℕ) → any_below n (λ k. false) ≡ false
unfolding any_below
none_below zero = refl
none_below (suc n) = none_below n

pub no_groups : (w start register : ℕ) (f : ℕ → ℕ) (xs : List ℕ) → ArePainted 6 w start 0 f register xs xs
no_groups w start register f xs = record {
  long = refl;
  pixels = λ i lt.
      let each : (k : ℕ) → k < 6 → in_row w start 0 f i k ≡ false = λ k few. empty_row (start + k * w) i k f in
      sym (ap (λ (t : Bool). cond t register (get_or xs i 0))
      (any_below_same 6 (in_row w start 0 f i) (λ k. false) each ∙ none_below 6));
}
  where
    empty_row : (s i k : ℕ) (f : ℕ → ℕ)
        → ((nat_le s i && nat_lt i (s + 0)) && (bit_at (f (i - s)) k == 1)) ≡ false
    empty_row s i k f = elim
        (cases_lt i s) [ inl below ↦ grind (arith, nat_tests) | inr from ↦ grind (arith, nat_tests) ]

-- ---- coverage, group by group

pub no_columns : (from : ℕ) (f : ℕ → ℕ → ℕ) (xs : List ℕ) → AreMapped from 0 f xs xs
no_columns from f xs = record { long = refl; changed = λ i lt. grind (arith, nat_tests) }

pub columns_more : (from n : ℕ) (f : ℕ → ℕ) (sixels old mid new : List ℕ)
    → ((j : ℕ) → j < 16 → get_or sixels j 0 ≡ f (n + j))
    → AreMapped from n (λ j b. bit_or b (f j)) old mid
    → AreMapped (from + n) 16 (λ j b. bit_or b (get_or sixels j 0)) mid new
    → AreMapped from (n + 16) (λ j b. bit_or b (f j)) old new
columns_more from n f sixels old mid new same before group = record {
  long = group.long ∙ before.long;
  changed = λ i lt.
      let in_mid : i < length mid = omega (arith, before.long) in
      let a = before.changed i lt in
      let b = group.changed i in_mid in
      elim (cases_lt i (from + n)) [
        | inl below ↦ grind (arith, nat_tests)
        | inr low ↦ elim (cases_lt i (from + n + 16)) [
          | inl to ↦
              let few : i - (from + n) < 16 = omega arith in
              let back : n + (i - (from + n)) ≡ i - from = omega arith in
              let here : get_or sixels (i - (from + n)) 0 ≡ f (i - from) = same (i - (from + n)) few ∙ ap f back in
              grind (arith, nat_tests)
          | inr above ↦ grind (arith, nat_tests)
        ]
      ];
}

-- ---- a group of a stretch

-- the lane has one of the columns that are left
left_of : (count n few j : ℕ) → few ≤ count - n → (few < 16 → few ≡ count - n) → j < 16
    → nat_lt j few ≡ nat_lt (n + j) count
left_of count n few j most all lt = elim (cases_lt j few) [
  | inl low ↦ lt-ltb j few low ∙ sym (lt-ltb (n + j) count (omega arith))
  | inr high ↦
      let few_is : few ≡ count - n = all (omega arith) in
      le-ltb j few high ∙ sym (le-ltb (n + j) count (omega arith))
]

-- the lanes of a group have the sixels of its columns
pub lanes_of : (bytes lanes : List ℕ) (count n few : ℕ) → few ≤ count - n → (few < 16 → few ≡ count - n)
    → AreSixelLanes bytes n few lanes → (j : ℕ) → j < 16 → get_or lanes j 0 ≡ sixel_of bytes count (n + j)
lanes_of bytes lanes count n few most all are j lt =
    let same = left_of count n few j most all lt in
    are.each j lt ∙ ap (λ (t : Bool). cond t (get_or bytes (n + j) 0 - 63) 0) same

-- one more group, whose lanes have the sixels of its columns
group_then : (w start covered n next register : ℕ) (f : ℕ → ℕ) (lanes ro rm rn co cm cn : List ℕ) → next ≡ n + 16
    → ((j : ℕ) → j < 16 → get_or lanes j 0 ≡ f (n + j))
    → ArePainted 6 w start n f register ro rm × AreMapped covered n (λ j b. bit_or b (f j)) co cm
    → ArePainted 6 w (start + n) 16 (λ j. get_or lanes j 0) register rm rn
    → AreMapped (covered + n) 16 (λ j b. bit_or b (get_or lanes j 0)) cm cn
    → ArePainted 6 w start next f register ro rn × AreMapped covered next (λ j b. bit_or b (f j)) co cn
group_then w start covered n next register f lanes ro rm rn co cm cn end same before rows columns =
    subst (λ (m : ℕ). ArePainted 6 w start m f register ro rn × AreMapped covered m (λ j b. bit_or b (f j)) co cn)
    (sym end) (
      groups_more w start n register f lanes ro rm rn same before.0 rows,
      columns_more covered n f lanes co cm cn same before.1 columns,
    )

pub group_more : (w start covered n next register count few : ℕ) (bytes lanes ro rm rn co cm cn : List ℕ)
    → next ≡ n + 16 → few ≤ count - n → (few < 16 → few ≡ count - n) → AreSixelLanes bytes n few lanes
    → ArePainted 6 w start n (sixel_of bytes count) register ro rm
    × AreMapped covered n (λ j b. bit_or b (sixel_of bytes count j)) co cm
    → ArePainted 6 w (start + n) 16 (λ j. get_or lanes j 0) register rm rn
    → AreMapped (covered + n) 16 (λ j b. bit_or b (get_or lanes j 0)) cm cn
    → ArePainted 6 w start next (sixel_of bytes count) register ro rn
    × AreMapped covered next (λ j b. bit_or b (sixel_of bytes count j)) co cn
group_more w start covered n next register count few bytes lanes ro rm rn co cm cn end most all are before rows
    columns =
    group_then w start covered n next register (sixel_of bytes count) lanes ro rm rn co cm cn end
    (lanes_of bytes lanes count n few most all are) before rows columns

-- a stretch of one group
pub group_alone : (w start covered register count few : ℕ) (bytes lanes ro rn co cn : List ℕ) → count ≤ 16
    → AreSixelLanes bytes 0 few lanes → few ≡ count
    → ArePainted 6 w start 16 (λ j. get_or lanes j 0) register ro rn
    → AreMapped covered 16 (λ j b. bit_or b (get_or lanes j 0)) co cn
    → ArePainted 6 w start 16 (sixel_of bytes count) register ro rn
    × AreMapped covered 16 (λ j b. bit_or b (sixel_of bytes count j)) co cn
group_alone w start covered register count few bytes lanes ro rn co cn room are all rows columns =
    let at_start : start ≡ start + 0 = omega arith in
    let at_covered : covered ≡ covered + 0 = omega arith in
    group_more w start covered 0 16 register count few bytes lanes ro ro rn co co cn (omega arith) (omega (arith, all))
    (λ lt. omega (arith, all)) are (
      no_groups w start register (sixel_of bytes count) ro,
      no_columns covered (λ j b. bit_or b (sixel_of bytes count j)) co,
    )
    (subst (λ (s : ℕ). ArePainted 6 w s 16 (λ j. get_or lanes j 0) register ro rn) at_start rows)
    (subst (λ (s : ℕ). AreMapped s 16 (λ j b. bit_or b (get_or lanes j 0)) co cn) at_covered columns)

-- ---- a group of a run

-- the columns of a run that are left are a run
pub run_there : (bits count n few j : ℕ) → few ≤ count - n → (few < 16 → few ≡ count - n) → j < 16
    → run_sixel bits few j ≡ run_sixel bits count (n + j)
run_there bits count n few j most all lt =
    ap (λ (t : Bool). cond t bits 0) (left_of count n few j most all lt)

pub run_more : (w start covered n next register count few bits : ℕ) (lanes ro rm rn co cm cn : List ℕ)
    → next ≡ n + 16 → few ≤ count - n → (few < 16 → few ≡ count - n) → AreEqual bits few lanes
    → ArePainted 6 w start n (run_sixel bits count) register ro rm
    × AreMapped covered n (λ j b. bit_or b (run_sixel bits count j)) co cm
    → ArePainted 6 w (start + n) 16 (λ j. get_or lanes j 0) register rm rn
    → AreMapped (covered + n) 16 (λ j b. bit_or b (get_or lanes j 0)) cm cn
    → ArePainted 6 w start next (run_sixel bits count) register ro rn
    × AreMapped covered next (λ j b. bit_or b (run_sixel bits count j)) co cn
run_more w start covered n next register count few bits lanes ro rm rn co cm cn end most all are before rows columns =
    group_then w start covered n next register (run_sixel bits count) lanes ro rm rn co cm cn end
    (λ j lt. are.each j lt ∙ run_there bits count n few j most all lt) before rows columns

-- a run of one group
pub run_alone : (w start covered register count few bits : ℕ) (lanes ro rn co cn : List ℕ) → count ≤ 16
    → AreEqual bits few lanes → few ≡ count
    → ArePainted 6 w start 16 (λ j. get_or lanes j 0) register ro rn
    → AreMapped covered 16 (λ j b. bit_or b (get_or lanes j 0)) co cn
    → ArePainted 6 w start 16 (run_sixel bits count) register ro rn
    × AreMapped covered 16 (λ j b. bit_or b (run_sixel bits count j)) co cn
run_alone w start covered register count few bits lanes ro rn co cn room are all rows columns =
    let at_start : start ≡ start + 0 = omega arith in
    let at_covered : covered ≡ covered + 0 = omega arith in
    run_more w start covered 0 16 register count few bits lanes ro ro rn co co cn (omega arith) (omega (arith, all))
    (λ lt. omega (arith, all)) are (
      no_groups w start register (run_sixel bits count) ro,
      no_columns covered (λ j b. bit_or b (run_sixel bits count j)) co,
    )
    (subst (λ (s : ℕ). ArePainted 6 w s 16 (λ j. get_or lanes j 0) register ro rn) at_start rows)
    (subst (λ (s : ℕ). AreMapped s 16 (λ j b. bit_or b (get_or lanes j 0)) co cn) at_covered columns)

-- the data bytes of a group
pub data_of : (bytes : List ℕ) (count n few j : ℕ) → ((j : ℕ) → j < count → is_data (get_or bytes j 0) ≡ true)
    → few ≤ count - n → j < few → is_data (get_or bytes (n + j) 0) ≡ true
data_of bytes count n few j are most lt = are (n + j) (omega arith)
