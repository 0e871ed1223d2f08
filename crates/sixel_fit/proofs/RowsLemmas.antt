-- On the entries of a palette, and on rows below a picture.
use Rattle.std.proofs.Common.{◌≡◌, ◌∙◌, ◌+◌, ◌-◌, ◌*◌, ◌<◌, ◌≤◌, ◌++◌, ◌&&◌, ℕ, zero, suc, Bool, true, false, List, []}
use Rattle.std.proofs.Common.{◌∷◌, Option, Some, None, ap, ap₂, arith, get_or, inl, inr, is_some, length, not, refl}
use Rattle.std.proofs.Common.{replicate, sym}
use Rattle.std.specs.Prelude.{◌==◌, if◌then◌else◌, nat_le, nat_lt, position, slice_set}
use Rattle.std.specs.List.{list_all, list_any}
use Rattle.std.proofs.Math.Nat.{mul-add}
use Rattle.std.proofs.lemmas.Bool.{and_from, and_parts, cases_lt, eq-eqb, eqb-true, le-leb, le-ltb, leb-true}
use Rattle.std.proofs.lemmas.Bool.{lt-ltb, or_from}
use Rattle.std.proofs.lemmas.List.{ext_get_or, get_or-set_other, get_or-set_same}
use Rattle.std.proofs.lemmas.List.{length-append, length-replicate, length-set}
use Rattle.std.proofs.lemmas.List.Folds.{list_all-append}
use Rattle.std.proofs.lemmas.List.Sums.{position_or_len_is}
use Rattle.sixel_model.specs.declared.colour.Parts.{Parts}
use Rattle.sixel_model.specs.declared.picture.PictureReason.TheVariants.{Size, Count, Register, NoColour}
use Rattle.sixel_model.specs.Colours.{palette_at}
use Rattle.sixel_model.specs.Pictures.{IsAnyPicture, PictureValue, is_side, picture_fault, picture_of_parts}
use Rattle.sixel_model.specs.Profiles.{count_of}
use Rattle.sixel_fit.specs.Rows.{with_rows}

-- ---- entries

-- the entry of a register, as an element
pub entry_at : (palette : List (Option Parts)) (k : ℕ) → palette_at palette k ≡ get_or palette k None
entry_at [] k = refl
entry_at (entry ∷ palette) zero = refl
entry_at (entry ∷ palette) (suc k) = entry_at palette k

-- one more element that fails
pub fails_more : {X : Type 0} (test : X → Bool) (xs : List X) (d : X) (i : ℕ)
    → ((k : ℕ) → k < i → test (get_or xs k d) ≡ false) → test (get_or xs i d) ≡ false → (k : ℕ) → k < i + 1
    → test (get_or xs k d) ≡ false
fails_more test xs d i before here k lt =
    elim (cases_lt k i) [
      | inl less ↦ before k less
      | inr not_less ↦
          let same : k ≡ i = omega (arith, lt, not_less) in ap (λ (n : ℕ). test (get_or xs n d)) same ∙ here
    ]

-- none passes
pub none_any : {X : Type 0} (test : X → Bool) (xs : List X) (d : X)
    → ((k : ℕ) → k < length xs → test (get_or xs k d) ≡ false) → list_any test xs ≡ false
none_any test [] d fails = refl
none_any test (x ∷ xs) d fails =
    or_from (test x) (list_any test xs) (fails 0 (omega arith))
    (none_any test xs d (λ k lt. fails (suc k) (omega (arith, lt))))

-- the first that passes
pub first_at : {X : Type 0} (test : X → Bool) (xs : List X) (d : X) (i : ℕ) → i < length xs
    → ((k : ℕ) → k < i → test (get_or xs k d) ≡ false) → test (get_or xs i d) ≡ true → position test xs ≡ Some i
first_at test xs d i lt before here =
    rw (position_or_len_is test xs i d (omega (arith, lt)) before (λ within. here), lt-ltb i (length xs) lt) refl

pub first_nowhere : {X : Type 0} (test : X → Bool) (xs : List X) (d : X)
    → ((k : ℕ) → k < length xs → test (get_or xs k d) ≡ false) → position test xs ≡ None
first_nowhere test xs d fails =
    rw (
      position_or_len_is test xs (length xs) d (omega arith) fails (λ within. absurd (omega (arith, within))),
      le-ltb (length xs) (length xs) (omega arith),
    ) refl

-- ---- a copy of a palette

-- the first k entries are copied, and the others are empty
pub record IsCopiedTo (k : ℕ) (palette copy : List (Option Parts)) : Type 0 where
  pub long : length copy ≡ length palette
  pub same : (r : ℕ) → r < k → get_or copy r None ≡ get_or palette r None
  pub empty : (r : ℕ) → k ≤ r → get_or copy r None ≡ None

-- one more entry
pub copied_some : {k : ℕ} {palette copy : List (Option Parts)} (colour : Parts) → IsCopiedTo k palette copy
    → k < length palette → Some colour ≡ palette_at palette k
    → IsCopiedTo (k + 1) palette (slice_set copy k (Some colour))
copied_some {k} {palette} {copy} colour c lt is = record {
  long = length-set copy k (Some colour) ∙ c.long;
  same = λ r less. elim (cases_lt r k) [
    | inl before ↦
        get_or-set_other copy k r (Some colour) None (λ e. absurd (omega (arith, e, before))) ∙ c.same r before
    | inr after ↦
        let same : r ≡ k = omega (arith, less, after) in
        rw same (get_or-set_same copy k (Some colour) None (omega (arith, lt, c.long)) ∙ is ∙ entry_at palette k)
  ];
  empty = λ r le.
      get_or-set_other copy k r (Some colour) None (λ e. absurd (omega (arith, e, le))) ∙ c.empty r (omega (arith, le));
}

pub copied_empty : {k : ℕ} {palette copy : List (Option Parts)} → IsCopiedTo k palette copy
    → None ≡ palette_at palette k → IsCopiedTo (k + 1) palette copy
copied_empty {k} {palette} {copy} c is = record {
  long = c.long;
  same = λ r less. elim (cases_lt r k) [
    | inl before ↦ c.same r before
    | inr after ↦
        let same : r ≡ k = omega (arith, less, after) in
        rw same (c.empty k (omega arith) ∙ is ∙ entry_at palette k)
  ];
  empty = λ r le. c.empty r (omega (arith, le));
}

pub copied_all : {k : ℕ} {palette copy : List (Option Parts)} → IsCopiedTo k palette copy → length palette ≤ k
    → copy ≡ palette
copied_all {k} {palette} {copy} c all =
    ext_get_or None copy palette c.long (λ r lt. c.same r (omega (arith, lt, all, c.long)))

-- ---- a picture of these parts

no_fault : (a b c d : Bool)
    → (if not a then Some Size else if not b then Some Count else if not c then Some Register else if not d then Some
    NoColour else None)
    ≡ None → (a ≡ true) × (b ≡ true) × (c ≡ true) × (d ≡ true)
no_fault true true true true h = (refl, refl, refl, refl)
no_fault true true true false h = cc h
no_fault true true false d h = cc h
no_fault true false c d h = cc h
no_fault false b c d h = cc h

no_fault_from : (a b c d : Bool) → a ≡ true → b ≡ true → c ≡ true → d ≡ true
    → (if not a then Some Size else if not b then Some Count else if not c then Some Register else if not d then Some
    NoColour else None)
    ≡ None
no_fault_from a b c d first second third fourth = rw (first, second, third, fourth) refl

-- the register has a colour also if another gets one
coloured_set : (palette : List (Option Parts)) (r : ℕ) (pad : Parts) (s : ℕ)
    → is_some (palette_at palette s) ≡ true → is_some (palette_at (slice_set palette r (Some pad)) s) ≡ true
coloured_set [] r pad s is = is
coloured_set (entry ∷ palette) zero pad zero is = refl
coloured_set (entry ∷ palette) zero pad (suc s) is = is
coloured_set (entry ∷ palette) (suc r) pad zero is = is
coloured_set (entry ∷ palette) (suc r) pad (suc s) is = coloured_set palette r pad s is

-- and so has that one
coloured_here : (palette : List (Option Parts)) (r : ℕ) (pad : Parts) → r < length palette
    → is_some (palette_at (slice_set palette r (Some pad)) r) ≡ true
coloured_here [] r pad lt = absurd (omega (arith, lt))
coloured_here (entry ∷ palette) zero pad lt = refl
coloured_here (entry ∷ palette) (suc r) pad lt = coloured_here palette r pad (omega (arith, lt))

all_weaker : (p q : ℕ → Bool) (xs : List ℕ) → ((x : ℕ) → p x ≡ true → q x ≡ true) → list_all p xs ≡ true
    → list_all q xs ≡ true
all_weaker p q [] follows all = all
all_weaker p q (x ∷ xs) follows all =
    let both = and_parts (p x) (list_all p xs) all in
    and_from (q x) (list_all q xs) (follows x both.0) (all_weaker p q xs follows both.1)

all_replicate : (test : ℕ → Bool) (n r : ℕ) → test r ≡ true → list_all test (replicate n r) ≡ true
all_replicate test zero r is = refl
all_replicate test (suc n) r is = and_from (test r) (list_all test (replicate n r)) is (all_replicate test n r is)

all_longer : (test : ℕ → Bool) (xs : List ℕ) (n r : ℕ) → list_all test xs ≡ true → test r ≡ true
    → list_all test (xs ++ replicate n r) ≡ true
all_longer test xs n r all is =
    list_all-append test xs (replicate n r)
    ∙ and_from (list_all test xs) (list_all test (replicate n r)) all (all_replicate test n r is)

-- how many pixels there are
pub longer_count : (p : PictureValue) (height r : ℕ) → length p.registers ≡ p.width * p.height → p.height ≤ height
    → length (p.registers ++ replicate (p.width * (height - p.height)) r) ≡ p.width * height
longer_count p height r count above =
    let whole : p.height + (height - p.height) ≡ height = omega (arith, above) in
    length-append p.registers (replicate (p.width * (height - p.height)) r)
    ∙ ap₂ (λ (a b : ℕ). a + b) count (length-replicate (p.width * (height - p.height)) r)
    ∙ sym (mul-add p.width p.height (height - p.height)) ∙ ap (λ (n : ℕ). p.width * n) whole

-- how many registers a picture has
counted : (p : PictureValue) → IsAnyPicture p → length p.registers ≡ p.width * p.height
counted p is =
    let registers : ℕ = count_of is.profile in
    eqb-true (length p.registers) (p.width * p.height)
    (no_fault (is_side p.width && is_side p.height) (length p.registers == p.width * p.height)
    (list_all (λ s. nat_lt s registers) p.registers) (list_all (λ s. is_some (palette_at p.palette s)) p.registers)
    is.parts.accepted).1

-- how many are added
added_count : (width before height count : ℕ) → count ≡ width * before → before ≤ height
    → width * height - count ≡ width * (height - before)
added_count width before height count is above =
    let whole : before + (height - before) ≡ height = omega (arith, above) in
    let parts : width * height ≡ width * before + width * (height - before) =
    ap (λ (n : ℕ). width * n) (sym whole) ∙ mul-add width before (height - before) in
    omega (arith, parts, is)

-- a picture of these parts is the picture with rows below
pub rows_are : (p : PictureValue) (height : ℕ) (pad : Parts) (r width : ℕ) (given registers : List ℕ)
    (palette : List (Option Parts)) → IsAnyPicture p → p.height ≤ height → width ≡ p.width → given ≡ p.registers
    → registers ≡ given ++ replicate (width * height - length given) r → palette ≡ slice_set p.palette r (Some pad)
    → picture_of_parts width height palette registers ≡ with_rows p height pad r
rows_are p height pad r width given registers palette is above wide taken items colours =
    let more : p.width * height - length p.registers ≡ p.width * (height - p.height) =
    added_count p.width p.height height (length p.registers) (counted p is) above in
    rw (items, colours, taken, wide, more) refl

-- the parts of a picture with rows below
pub rows_fit : (p : PictureValue) (height : ℕ) (pad : Parts) (r : ℕ) → IsAnyPicture p → p.height ≤ height
    → height ≤ 2048 → r < length p.palette
    → let q : PictureValue = with_rows p height pad r in
    picture_fault (length q.palette) q.width q.height q.palette q.registers ≡ None
rows_fit p height pad r is above most lt =
    let registers : ℕ = count_of is.profile in
    let long : length p.palette ≡ registers = is.parts.palette.entries in
    let after : List (Option Parts) = slice_set p.palette r (Some pad) in
    let size : length after ≡ registers = length-set p.palette r (Some pad) ∙ long in
    let more : ℕ = p.width * (height - p.height) in
    let tests = no_fault (is_side p.width && is_side p.height) (length p.registers == p.width * p.height)
    (list_all (λ s. nat_lt s registers) p.registers) (list_all (λ s. is_some (palette_at p.palette s)) p.registers)
    is.parts.accepted in
    let sides = and_parts (is_side p.width) (is_side p.height) tests.0 in
    let some : 1 ≤ p.height = leb-true 1 p.height (and_parts (nat_le 1 p.height) (nat_le p.height 2048) sides.1).0 in
    no_fault_from (is_side p.width && is_side height) (length (p.registers ++ replicate more r) == p.width * height)
    (list_all (λ s. nat_lt s (length after)) (p.registers ++ replicate more r))
    (list_all (λ s. is_some (palette_at after s)) (p.registers ++ replicate more r))
    (and_from (is_side p.width) (is_side height) sides.0
    (and_from (nat_le 1 height) (nat_le height 2048) (le-leb 1 height (omega (arith, some, above)))
    (le-leb height 2048 most)))
    (eq-eqb (length (p.registers ++ replicate more r)) (p.width * height)
    (longer_count p height r (eqb-true (length p.registers) (p.width * p.height) tests.1) above))
    (all_longer (λ s. nat_lt s (length after)) p.registers more r
    (rw size tests.2) (lt-ltb r (length after) (omega (arith, lt, size, long))))
    (all_longer (λ s. is_some (palette_at after s)) p.registers more r
    (all_weaker (λ s. is_some (palette_at p.palette s)) (λ s. is_some (palette_at after s)) p.registers
    (λ s. coloured_set p.palette r pad s) tests.3)
    (coloured_here p.palette r pad lt))
