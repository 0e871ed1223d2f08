-- One colour of a palette replaced.
use Rattle.std.proofs.Common.{◌≡◌, ◌<◌, ◌≤◌, ◌||◌, ◌++◌, ◌∷◌, ◌∙◌, [], ℕ, zero, suc, Bool, false, true, List, None}
use Rattle.std.proofs.Common.{Option, Some, ap, ap₂, arith, fold, get_or, length, map, refl, sym}
use Rattle.std.specs.Prelude.{slice_set, if◌then◌else◌}
use Rattle.std.specs.List.{list_any}
use Rattle.std.specs.Option.{option_map}
use Rattle.std.proofs.lemmas.List.Folds.{list_any-append, list_any_at}
use Rattle.sixel_model.specs.declared.colour.Parts.{Parts}
use Rattle.sixel_model.specs.Colours.{is_entry, is_same}
use Rattle.sixel_ppm.specs.PpmReading.{distinct, palette_of, with_colour}
use Rattle.sixel_mend.proofs.NumberLemmas.{same_is}
use Rattle.sixel_mend.proofs.RgbLemmas.{or_parts}
use Rattle.sixel_mend.proofs.SwapLemmas.{swapped}

-- at most one element passes the test
abbrev pub IsOnce : {X : Type 0} → (X → Bool) → List X → Type 0
IsOnce p [] = Unit {0}
IsOnce p (x ∷ xs) = (p x ≡ true → list_any p xs ≡ false) × IsOnce p xs

-- ---- each colour is seen once

once_push : {X : Type 0} (p : X → Bool) (xs : List X) (x : X) → IsOnce p xs → (list_any p xs ≡ true → p x ≡ false)
    → IsOnce p (xs ++ x ∷ [])
once_push p [] x once new = ((λ h. refl), tt)
once_push p (y ∷ xs) x once new =
    ((λ h. passes h), once_push p xs x once.1 (λ h. new (later (p y) (list_any p xs) h)))
  where
    later : (a b : Bool) → b ≡ true → (a || b) ≡ true
    later true b h = refl
    later false b h = h

    passes : p y ≡ true → list_any p (xs ++ x ∷ []) ≡ false
    passes h =
        let last : p x ≡ false = new (rw h refl) in list_any-append p xs (x ∷ []) ∙ rw (once.0 h, last) refl

once_with : (a : Parts) (seen : List Parts) (c : Parts) → IsOnce (is_same a) seen
    → IsOnce (is_same a) (with_colour seen c)
once_with a seen c once = by (list_any (is_same c) seen) refl
  where
    new : (b : Bool) → is_same a c ≡ b → list_any (is_same c) seen ≡ false → list_any (is_same a) seen ≡ true
        → b ≡ false
    new false e none some = refl
    new true e none some =
        sym some ∙ ap (λ (x : Parts). list_any (is_same x) seen) (same_is a c e) ∙ none

    by : (b : Bool) → list_any (is_same c) seen ≡ b → IsOnce (is_same a) (if b then seen else seen ++ c ∷ [])
    by true e = once
    by false e = once_push (is_same a) seen c once (λ some. new (is_same a c) refl e some)

once_from : (a : Parts) (seen more : List Parts) → IsOnce (is_same a) seen
    → IsOnce (is_same a) (fold with_colour seen more)
once_from a seen [] once = once
once_from a seen (c ∷ more) once = once_from a (with_colour seen c) more (once_with a seen c once)

-- ---- the entries of a palette

pub any_entry : (n : ℕ) (a : Parts) (seen : List Parts) → length seen ≤ n
    → list_any (is_entry a) (palette_of n seen) ≡ list_any (is_same a) seen
any_entry zero a [] few = refl
any_entry zero a (c ∷ seen) few = absurd (omega arith)
any_entry (suc n) a [] few = any_entry n a [] (omega arith)
any_entry (suc n) a (c ∷ seen) few = ap (λ (b : Bool). is_same a c || b) (any_entry n a seen (omega (arith, few)))

once_among : (n : ℕ) (a : Parts) (seen : List Parts) → length seen ≤ n → IsOnce (is_same a) seen
    → IsOnce (is_entry a) (palette_of n seen)
once_among zero a seen few once = tt
once_among (suc n) a [] few once = ((λ h. any_entry n a [] (omega arith)), once_among n a [] (omega arith) tt)
once_among (suc n) a (c ∷ seen) few once = (
  (λ h. any_entry n a seen (omega (arith, few)) ∙ once.0 h),
  once_among n a seen (omega (arith, few)) once.1,
)

-- a palette of distinct colours has each of them once
pub once_in_palette : (n : ℕ) (a : Parts) (colours : List Parts) → length (distinct colours) ≤ n
    → IsOnce (is_entry a) (palette_of n (distinct colours))
once_in_palette n a colours few = once_among n a (distinct colours) few (once_from a [] colours tt)

-- ---- one entry replaced

entry_swapped : (a b : Parts) (o : Option Parts) → is_entry a o ≡ true → Some b ≡ option_map (swapped a b) o
entry_swapped a b None h = cc
entry_swapped a b (Some c) h = rw h refl

entry_kept : (a b : Parts) (o : Option Parts) → is_entry a o ≡ false → is_entry b o ≡ false
    → o ≡ option_map (swapped a b) o
entry_kept a b None h k = refl
entry_kept a b (Some c) h k = rw (h, k) refl

others_kept : (a b : Parts) (xs : List (Option Parts)) → list_any (is_entry a) xs ≡ false
    → list_any (is_entry b) xs ≡ false → xs ≡ map (option_map (swapped a b)) xs
others_kept a b [] h k = refl
others_kept a b (o ∷ xs) h k =
    let first = or_parts (is_entry a o) (list_any (is_entry a) xs) h in
    let second = or_parts (is_entry b o) (list_any (is_entry b) xs) k in
    ap₂ (λ (p : Option Parts) (ps : List (Option Parts)). p ∷ ps) (entry_kept a b o first.0 second.0)
    (others_kept a b xs first.1 second.1)

-- the only entry that is the first colour, replaced by the second, which the palette doesn't have
pub entry_replaced : (a b : Parts) (xs : List (Option Parts)) (r : ℕ) → IsOnce (is_entry a) xs
    → list_any (is_entry b) xs ≡ false → r < length xs → is_entry a (get_or xs r None) ≡ true
    → slice_set xs r (Some b) ≡ map (option_map (swapped a b)) xs
entry_replaced a b [] r once none lt here = absurd (omega arith)
entry_replaced a b (o ∷ xs) zero once none lt here =
    let rest = or_parts (is_entry b o) (list_any (is_entry b) xs) none in
    ap₂ (λ (p : Option Parts) (ps : List (Option Parts)). p ∷ ps) (entry_swapped a b o here)
    (others_kept a b xs (once.0 here) rest.1)
entry_replaced a b (o ∷ xs) (suc r) once none lt here =
    let rest = or_parts (is_entry b o) (list_any (is_entry b) xs) none in
    let some : list_any (is_entry a) xs ≡ true = list_any_at (is_entry a) xs r None (omega (arith, lt)) here in
    ap₂ (λ (p : Option Parts) (ps : List (Option Parts)). p ∷ ps)
    (entry_kept a b o (before (is_entry a o) refl some) rest.0)
    (entry_replaced a b xs r once.1 rest.1 (omega (arith, lt)) here)
  where
    before : (x : Bool) → is_entry a o ≡ x → list_any (is_entry a) xs ≡ true → x ≡ false
    before false e some = refl
    before true e some = sym some ∙ once.0 e
