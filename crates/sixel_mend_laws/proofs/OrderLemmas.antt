-- Colours in the order in which they are first seen.
use Rattle.std.proofs.Common.{◌≡◌, ◌∙◌, ◌<◌, ◌≤◌, ◌⊎◌, ◌||◌, ◌∷◌, ◌++◌, ℕ, Bool, true, false, List, [], Option, Some}
use Rattle.std.proofs.Common.{None}
use Rattle.std.proofs.Common.{append_assoc, ap, arith, fold, inl, inr, length, refl, slice_get, subst, suc, sym, zero}
use Rattle.std.specs.Prelude.{IsSome, nat_lt, if◌then◌else◌}
use Rattle.std.specs.List.{list_any}
use Rattle.std.proofs.lemmas.Bool.{ltb-false, ltb-true}
use Rattle.std.proofs.lemmas.List.{append-nil}
use Rattle.std.proofs.lemmas.Map.Keys.{any_passes_from_place}
use Rattle.sixel_model.specs.declared.colour.Parts.{Parts}
use Rattle.sixel_model.specs.Colours.{is_same, palette_at}
use Rattle.sixel_model.specs.Pictures.{PictureValue}
use Rattle.sixel_ppm.specs.PpmReading.{distinct, palette_of, with_colour}
use Rattle.sixel_ppm.proofs.PpmColourLemmas.{same_as_itself}
use Rattle.sixel_mend.specs.Mended.{mended_colours}
use Rattle.sixel_mend.proofs.NumberLemmas.{same_is}
use Rattle.sixel_mend_laws.specs.Laws.{AreInOrder, ColoursInOrder, IsFirstAt}
use Rattle.sixel_mend_laws.proofs.MendedLemmas.{mended_is}

-- ---- a list with one more at its end

module _ {X : Type 0} where
  get_first : (xs : List X) (x : X) (i : ℕ) (c : X) → slice_get xs i ≡ Some c → slice_get (xs ++ x ∷ []) i ≡ Some c
  get_first [] x i c is = let no : None ≡ Some c = is in cc
  get_first (y ∷ xs) x zero c is = is
  get_first (y ∷ xs) x (suc i) c is = get_first xs x i c is

  get_last : (xs : List X) (x : X) → slice_get (xs ++ x ∷ []) (length xs) ≡ Some x
  get_last [] x = refl
  get_last (y ∷ xs) x = get_last xs x

  get_either : (xs : List X) (x : X) (i : ℕ) (c : X) → slice_get (xs ++ x ∷ []) i ≡ Some c
      → (slice_get xs i ≡ Some c) ⊎ ((i ≡ length xs) × (x ≡ c))
  get_either [] x zero c is = inr (refl, (let same : x ≡ c = cc in same))
  get_either [] x (suc i) c is = let no : None ≡ Some c = is in cc
  get_either (y ∷ xs) x zero c is = inl is
  get_either (y ∷ xs) x (suc i) c is = elim (get_either xs x i c is) [
    | inl there ↦ inl there
    | inr last ↦ inr (ap suc last.0, last.1)
  ]

  get_below : (xs : List X) (i : ℕ) (c : X) → slice_get xs i ≡ Some c → i < length xs
  get_below [] i c is = let no : None ≡ Some c = is in cc
  get_below (x ∷ xs) zero c is = omega arith
  get_below (x ∷ xs) (suc i) c is = omega (arith, get_below xs i c is)

-- ---- where a colour comes first

-- there is one such index
first_same : (colours : List Parts) (i j : ℕ) (c : Parts) → IsFirstAt colours i c → IsFirstAt colours j c → i ≡ j
first_same colours i j c one other = by (nat_lt i j) (nat_lt j i) refl refl
  where
    by : (a b : Bool) → nat_lt i j ≡ a → nat_lt j i ≡ b → i ≡ j
    by true b less e = absurd (other.1 i (ltb-true i j less) one.0)
    by false true e less = absurd (one.1 j (ltb-true j i less) other.0)
    by false false e f = omega (arith, ltb-false i j e, ltb-false j i f)

first_stays : (colours : List Parts) (x : Parts) (i : ℕ) (c : Parts) → IsFirstAt colours i c
    → IsFirstAt (colours ++ x ∷ []) i c
first_stays colours x i c first = (
  get_first colours x i c first.0,
  λ j below is. elim (get_either colours x j c is) [
    | inl there ↦ first.1 j below there
    | inr last ↦
        let no : ⊥ = omega (arith, below, get_below colours i c first.0, last.0) in
        no
  ],
)

-- the first of a colour, and of a longer list
first_in_more : (colours : List Parts) (x : Parts) (i j : ℕ) (c : Parts) → IsFirstAt colours i c
    → IsFirstAt (colours ++ x ∷ []) j c → i ≡ j
first_in_more colours x i j c first other = first_same (colours ++ x ∷ []) i j c (first_stays colours x i c first) other

-- ---- the colours that were seen

-- it is the first, or one of the others
there_in_one : (y x : Parts) (seen : List Parts) (b : Bool) → is_same x y ≡ b → (b || list_any (is_same x) seen) ≡ true
    → (list_any (is_same x) seen ≡ true → (r : ℕ) × (slice_get seen r ≡ Some x))
    → (r : ℕ) × (slice_get (y ∷ seen) r ≡ Some x)
there_in_one y x seen true same any rest = (0, ap (λ (c : Parts). Some c) (sym (same_is x y same)))
there_in_one y x seen false other any rest =
    let more = rest any in
    (suc more.0, more.1)

there_from_any : (seen : List Parts) (x : Parts) → list_any (is_same x) seen ≡ true
    → (r : ℕ) × (slice_get seen r ≡ Some x)
there_from_any [] x any = let no : false ≡ true = any in cc
there_from_any (y ∷ seen) x any = there_in_one y x seen (is_same x y) refl any (there_from_any seen x)

any_from_there : (seen : List Parts) (x : Parts) (r : ℕ) → slice_get seen r ≡ Some x → list_any (is_same x) seen ≡ true
any_from_there seen x r there = any_passes_from_place (is_same x) seen r x there (same_as_itself x)

-- the colours in the order in which they are first seen
pub record AreSeen (colours seen : List Parts) : Type 0 where
  pub first : (r : ℕ) (c : Parts) → slice_get seen r ≡ Some c → (i : ℕ) × IsFirstAt colours i c
  pub each : (i : ℕ) (c : Parts) → slice_get colours i ≡ Some c → (r : ℕ) × (slice_get seen r ≡ Some c)
  pub order : (r s i j : ℕ) (c d : Parts) → r < s → slice_get seen r ≡ Some c → slice_get seen s ≡ Some d
      → IsFirstAt colours i c → IsFirstAt colours j d → i < j

module _ (colours seen : List Parts) (x : Parts) (are : AreSeen colours seen) where
  -- the order of two colours that were seen before
  order_before : (r s i j : ℕ) (c d : Parts) → r < s → slice_get seen r ≡ Some c → slice_get seen s ≡ Some d
      → IsFirstAt (colours ++ x ∷ []) i c → IsFirstAt (colours ++ x ∷ []) j d → i < j
  order_before r s i j c d below one other first second =
      let a = are.first r c one in
      let b = are.first s d other in
      omega (
        arith,
        are.order r s a.0 b.0 c d below one other a.1 b.1,
        first_in_more colours x a.0 i c a.1 first,
        first_in_more colours x b.0 j d b.1 second,
      )

  seen_before : list_any (is_same x) seen ≡ true → AreSeen (colours ++ x ∷ []) seen
  seen_before any = record {
    first = λ r c there.
        let a = are.first r c there in
        (a.0, first_stays colours x a.0 c a.1);
    each = λ i c is. elim (get_either colours x i c is) [
      | inl there ↦ are.each i c there
      | inr last ↦
          let r = there_from_any seen x any in
          (r.0, r.1 ∙ ap (λ (d : Parts). Some d) last.1)
    ];
    order = order_before;
  }

  -- a colour that wasn't seen before is first seen at the end
  first_at_end : list_any (is_same x) seen ≡ false → IsFirstAt (colours ++ x ∷ []) (length colours) x
  first_at_end none = (
    get_last colours x,
    λ j below is. elim (get_either colours x j x is) [
      | inl there ↦
          let r = are.each j x there in
          let no : true ≡ false = sym (any_from_there seen x r.0 r.1) ∙ none in
          cc
      | inr last ↦
          let no : ⊥ = omega (arith, below, last.0) in
          no
    ],
  )

  -- of two colours the second is the new one
  order_last : list_any (is_same x) seen ≡ false → (r i j : ℕ) (c d : Parts) → slice_get seen r ≡ Some c → x ≡ d
      → IsFirstAt (colours ++ x ∷ []) i c → IsFirstAt (colours ++ x ∷ []) j d → i < j
  order_last none r i j c d one same first second =
      let a = are.first r c one in
      let last : length colours ≡ j =
      first_same (colours ++ x ∷ []) (length colours) j x (first_at_end none)
      (subst (λ (e : Parts). IsFirstAt (colours ++ x ∷ []) j e) (sym same) second) in
      omega (arith, get_below colours a.0 c a.1.0, first_in_more colours x a.0 i c a.1 first, last)

  order_more : list_any (is_same x) seen ≡ false → (r s i j : ℕ) (c d : Parts) → r < s
      → slice_get (seen ++ x ∷ []) r ≡ Some c → slice_get (seen ++ x ∷ []) s ≡ Some d
      → IsFirstAt (colours ++ x ∷ []) i c → IsFirstAt (colours ++ x ∷ []) j d → i < j
  order_more none r s i j c d below one other first second =
      elim (get_either seen x r c one) [
        | inl there ↦ elim (get_either seen x s d other) [
          | inl later ↦ order_before r s i j c d below there later first second
          | inr last ↦ order_last none r i j c d there last.1 first second
        ]
        | inr end ↦ elim (get_either seen x s d other) [
          | inl later ↦
              let no : ⊥ = omega (arith, below, end.0, get_below seen s d later) in
              absurd no
          | inr last ↦
              let no : ⊥ = omega (arith, below, end.0, last.0) in
              absurd no
        ]
      ]

  seen_last : list_any (is_same x) seen ≡ false → AreSeen (colours ++ x ∷ []) (seen ++ x ∷ [])
  seen_last none = record {
    first = λ r c there. elim (get_either seen x r c there) [
      | inl before ↦
          let a = are.first r c before in
          (a.0, first_stays colours x a.0 c a.1)
      | inr last ↦ (
        length colours,
        subst (λ (d : Parts). IsFirstAt (colours ++ x ∷ []) (length colours) d) last.1
            (first_at_end none),
      )
    ];
    each = λ i c is. elim (get_either colours x i c is) [
      | inl there ↦
          let r = are.each i c there in
          (r.0, get_first seen x r.0 c r.1)
      | inr last ↦ (length seen, get_last seen x ∙ ap (λ (d : Parts). Some d) last.1)
    ];
    order = order_more none;
  }

  seen_more : AreSeen (colours ++ x ∷ []) (with_colour seen x)
  seen_more = by (list_any (is_same x) seen) refl
    where
      by : (b : Bool) → list_any (is_same x) seen ≡ b
          → AreSeen (colours ++ x ∷ []) (if b then seen else seen ++ x ∷ [])
      by true any = seen_before any
      by false none = seen_last none

seen_from : (before seen more : List Parts) → AreSeen before seen → AreSeen (before ++ more) (fold with_colour seen more)
seen_from before seen [] are = subst (λ (cs : List Parts). AreSeen cs seen) (sym (append-nil before)) are
seen_from before seen (x ∷ more) are =
    subst (λ (cs : List Parts). AreSeen cs (fold with_colour (with_colour seen x) more))
    (append_assoc before (x ∷ []) more)
    (seen_from (before ++ x ∷ []) (with_colour seen x) more (seen_more before seen x are))

none_seen : AreSeen [] []
none_seen = record {
  first = λ r c is. let no : None ≡ Some c = is in cc;
  each = λ i c is. let no : None ≡ Some c = is in cc;
  order = λ r s i j c d below is. let no : None ≡ Some c = is in cc;
}

all_seen : (colours : List Parts) → AreSeen colours (distinct colours)
all_seen colours = seen_from [] [] colours none_seen

-- ---- the palette

entry_is : (n : ℕ) (seen : List Parts) (r : ℕ) → length seen ≤ n → palette_at (palette_of n seen) r ≡ slice_get seen r
entry_is zero [] r few = refl
entry_is zero (c ∷ seen) r few = absurd (omega (arith, few))
entry_is (suc n) [] zero few = refl
entry_is (suc n) [] (suc r) few = entry_is n [] r (omega arith)
entry_is (suc n) (c ∷ seen) zero few = refl
entry_is (suc n) (c ∷ seen) (suc r) few = entry_is n seen r (omega (arith, few))

some_before : (seen : List Parts) (r s : ℕ) → r < s → IsSome (slice_get seen s) → IsSome (slice_get seen r)
some_before [] r s below some = let no : false ≡ true = some in cc
some_before (c ∷ seen) r zero below some = absurd (omega (arith, below))
some_before (c ∷ seen) zero (suc s) below some = refl
some_before (c ∷ seen) (suc r) (suc s) below some = some_before seen r s (omega (arith, below)) some

-- one register for each colour
not_twice : (colours seen : List Parts) (r s : ℕ) (c : Parts) → AreSeen colours seen → r < s
    → slice_get seen r ≡ Some c → slice_get seen s ≡ Some c → ⊥
not_twice colours seen r s c are below one other =
    let a = are.first r c one in
    let no : a.0 < a.0 = are.order r s a.0 a.0 c c below one other a.1 a.1 in
    omega (arith, no)

seen_once : (colours seen : List Parts) (r s : ℕ) (c : Parts) → AreSeen colours seen → slice_get seen r ≡ Some c
    → slice_get seen s ≡ Some c → r ≡ s
seen_once colours seen r s c are one other = by (nat_lt r s) (nat_lt s r) refl refl
  where
    by : (a b : Bool) → nat_lt r s ≡ a → nat_lt s r ≡ b → r ≡ s
    by true b less e = absurd (not_twice colours seen r s c are (ltb-true r s less) one other)
    by false true e less = absurd (not_twice colours seen s r c are (ltb-true s r less) other one)
    by false false e f = omega (arith, ltb-false r s e, ltb-false s r f)

palette_in_order : (registers : ℕ) (colours : List Parts) → length (distinct colours) ≤ registers
    → AreInOrder colours (palette_of registers (distinct colours))
palette_in_order registers colours few =
    let seen = distinct colours in
    let are = all_seen colours in
    let at : (r : ℕ) → palette_at (palette_of registers seen) r ≡ slice_get seen r =
    λ r. entry_is registers seen r few in
    record {
      each = λ i c is.
          let r = are.each i c is in
          (r.0, at r.0 ∙ r.1);
      once = λ r s c one other. seen_once colours seen r s c are (sym (at r) ∙ one) (sym (at s) ∙ other);
      order = λ r s i j c d below one other first second.
          are.order r s i j c d below (sym (at r) ∙ one) (sym (at s) ∙ other) first second;
      from_0 = λ r s below some.
          subst (λ (o : Option Parts). IsSome o) (sym (at r))
          (some_before seen r s below (subst (λ (o : Option Parts). IsSome o) (at s) some));
      no_other = λ r c is.
          let a = are.first r c (sym (at r) ∙ is) in
          (a.0, a.1.0);
    }

pub colours_in_order : (registers : ℕ) → ColoursInOrder registers
colours_in_order registers m events p gives =
    let is = mended_is registers m events gives.0 gives.1 p gives.3 in
    subst (λ (q : PictureValue). AreInOrder (mended_colours m events q.width q.height) q.palette) (sym is.is)
    (palette_in_order registers (mended_colours m events gives.0 gives.1) is.few)
