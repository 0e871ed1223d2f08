-- Colours numbered in the order in which they first appear.
use Rattle.std.proofs.Common.{◌≡◌, ◌+◌, ◌<◌, ◌≤◌, ℕ, zero, suc, Bool, true, false, ◌||◌, Option, Some, None, List, []}
use Rattle.std.proofs.Common.{◌∷◌, ◌++◌, length, cond, refl, sym, ap, ap₂, ◌∙◌, arith, zero-add, length-append, inl}
use Rattle.std.proofs.Common.{inr, length-set}
use Rattle.std.specs.Prelude.{get_or, is_some, nat_lt, slice_set, position, unwrap_or}
use Rattle.std.specs.List.{list_any, position_from, position_or_len}
use Rattle.std.proofs.lemmas.Bool.Decides.{nat_tests}
use Rattle.std.proofs.lemmas.Bool.{cases_lt, lt-ltb}
use Rattle.std.proofs.lemmas.Grind.{get_or-set_at}
use Rattle.std.proofs.lemmas.List.{get_or-set_other}
use Rattle.std.proofs.lemmas.List.Quantifiers.{position-Some}
use Rattle.std.proofs.lemmas.List.Sums.{fails_before_first, position_or_len_is}
use Rattle.std.proofs.lemmas.Iterator.Adapters.{position_from-zero}
use Rattle.sixel_model.specs.Colours.{is_entry, is_same, palette_at}
use Rattle.sixel_ppm.specs.PpmReading.{palette_of, register_among, with_colour}
use Rattle.sixel_ppm.specs.PpmColours.{Fills, HasRegister, IsUnusedFrom, KeepsRegisters}
use Rattle.sixel_model.specs.declared.colour.Parts.{Parts}
use Rattle.sixel_model.specs.declared.colour.Parts.TheVariants.{Rgb, Hls}
use Rattle.sixel_ppm.specs.declared.ppm.colours.Colours.{Colours}

-- ---- the first index at which a test passes

pub position_then_any : {X : Type 0} (p : X → Bool) (xs : List X) (k i : ℕ) → position_from p k xs ≡ Some i
    → list_any p xs ≡ true
position_then_any p [] k i e = cc
position_then_any p (x ∷ xs) k i e =
    elim (p x) as (λ t. cond t (Some k) (position_from p (k + 1) xs) ≡ Some i → (t || list_any p xs) ≡ true)
    [ true ↦ (λ h. refl) | false ↦ (λ h. position_then_any p xs (k + 1) i h) ] e

pub none_then_any : {X : Type 0} (p : X → Bool) (xs : List X) (k : ℕ) → position_from p k xs ≡ None
    → list_any p xs ≡ false
none_then_any p [] k e = refl
none_then_any p (x ∷ xs) k e =
    elim (p x) as (λ t. cond t (Some k) (position_from p (k + 1) xs) ≡ None → (t || list_any p xs) ≡ false)
    [ true ↦ (λ h. cc) | false ↦ (λ h. none_then_any p xs (k + 1) h) ] e

-- a new last item that passes, if no other does
pub position_at_end : {X : Type 0} (p : X → Bool) (xs : List X) (y : X) (k : ℕ) → list_any p xs ≡ false → p y ≡ true
    → position_from p k (xs ++ y ∷ []) ≡ Some (k + length xs)
position_at_end p [] y k none here = rw here (ap (λ (n : ℕ). Some n) (omega arith))
position_at_end p (x ∷ xs) y k none here =
    elim (p x) as (λ t. (t || list_any p xs) ≡ false
    → cond t (Some k) (position_from p (k + 1) (xs ++ y ∷ [])) ≡ Some (k + length (x ∷ xs))) [
      | true ↦ (λ h. cc)
      | false ↦ (λ h. position_at_end p xs y (k + 1) h here ∙ ap (λ (n : ℕ). Some n) (omega arith))
    ] none

-- an index found before is found again in a longer list
pub position_stays : {X : Type 0} (p : X → Bool) (xs ys : List X) (k : ℕ) → list_any p xs ≡ true
    → position_from p k (xs ++ ys) ≡ position_from p k xs
position_stays p [] ys k some = cc
position_stays p (x ∷ xs) ys k some =
    elim (p x) as (λ t. (t || list_any p xs) ≡ true
    → cond t (Some k) (position_from p (k + 1) (xs ++ ys)) ≡ cond t (Some k) (position_from p (k + 1) xs))
    [ true ↦ (λ h. refl) | false ↦ (λ h. position_stays p xs ys (k + 1) h) ] some

-- a found index is below the length
pub position_within : {X : Type 0} (p : X → Bool) (xs : List X) (k i : ℕ) → position_from p k xs ≡ Some i
    → (k ≤ i) × (i < k + length xs)
position_within p [] k i e = cc
position_within p (x ∷ xs) k i e =
    elim (p x) as (λ t. cond t (Some k) (position_from p (k + 1) xs) ≡ Some i → (k ≤ i) × (i < k + length (x ∷ xs))) [
      | true ↦ (λ h. let same : k ≡ i = cc in (omega arith, omega arith))
      | false ↦ (λ h. let more = position_within p xs (k + 1) i h in (omega arith, omega arith))
    ] e

pub any_then_position : {X : Type 0} (p : X → Bool) (xs : List X) (k : ℕ) → list_any p xs ≡ true
    → (i : ℕ) × (position_from p k xs ≡ Some i)
any_then_position p [] k some = cc
any_then_position p (x ∷ xs) k some =
    elim (p x) as (λ t. (t || list_any p xs) ≡ true → (i : ℕ) × (cond t (Some k) (position_from p (k + 1) xs) ≡ Some i))
    [ true ↦ (λ h. (k, refl)) | false ↦ (λ h. any_then_position p xs (k + 1) h) ] some

-- ---- the palette of colours

no_entry : (c : Parts) (n k : ℕ) → position_from (is_entry c) k (palette_of n []) ≡ None
no_entry c zero k = refl
no_entry c (suc n) k = no_entry c n (k + 1)

-- a colour has the same index in the palette as among the colours
pub entry_of : (c : Parts) (n : ℕ) (seen : List Parts) (k : ℕ) → length seen ≤ n
    → position_from (is_entry c) k (palette_of n seen) ≡ position_from (is_same c) k seen
entry_of c n [] k few = no_entry c n k
entry_of c zero (x ∷ seen) k few = absurd (omega arith)
entry_of c (suc n) (x ∷ seen) k few =
    ap (λ (o : Option ℕ). cond (is_same c x) (Some k) o) (entry_of c n seen (k + 1) (omega arith))

-- the next register gets the next colour
pub palette_of-set : (n : ℕ) (seen : List Parts) (c : Parts) → length seen < n
    → slice_set (palette_of n seen) (length seen) (Some c) ≡ palette_of n (seen ++ c ∷ [])
palette_of-set zero seen c lt = absurd (omega arith)
palette_of-set (suc n) [] c lt = refl
palette_of-set (suc n) (x ∷ seen) c lt = ap (λ (t : List (Option Parts)). Some x ∷ t)
    (palette_of-set n seen c (omega arith))

pub same_as_itself : (c : Parts) → is_same c c ≡ true
same_as_itself (Rgb red green blue) = grind (arith, nat_tests)
same_as_itself (Hls hue lightness saturation) = grind (arith, nat_tests)

-- ---- the register of a colour

pub index_among : (c : Colours) (seen : List Parts) (colour : Parts) (o : Option ℕ) → Fills c seen
    → o ≡ position (is_entry colour) c.palette → position_from (is_same colour) 0 seen ≡ o
index_among c seen colour o fills found =
    sym (entry_of colour (length c.palette) seen 0 fills.few)
    ∙ ap (position_from (is_entry colour) 0) (sym fills.palette)
    ∙ sym (position_from-zero (is_entry colour) c.palette) ∙ sym found

-- a colour that was seen before
pub numbered_before : (c : Colours) (seen : List Parts) (colour : Parts) (o : Option ℕ) (i : ℕ) → o ≡ Some i
    → o ≡ position (is_entry colour) c.palette → Fills c seen
    → (i ≡ register_among (with_colour seen colour) colour) × Fills c (with_colour seen colour)
numbered_before c seen colour o i is found fills =
    let at : position_from (is_same colour) 0 seen ≡ Some i = index_among c seen colour o fills found ∙ is in
    let any : list_any (is_same colour) seen ≡ true = position_then_any (is_same colour) seen 0 i at in
    rw any (sym (ap (λ (o : Option ℕ). unwrap_or o 0) at), fills)

-- the register at which the palette has a colour
pub register_seen : (c : Colours) (seen : List Parts) (colour : Parts) (i : ℕ)
    → position (is_entry colour) c.palette ≡ Some i → Fills c seen → HasRegister seen colour i
register_seen c seen colour i is fills =
    let at : position_from (is_same colour) 0 seen ≡ Some i = index_among c seen colour (Some i) fills (sym is) in
    (position_then_any (is_same colour) seen 0 i at, sym (ap (λ (o : Option ℕ). unwrap_or o 0) at))

-- a colour that is new
new_colour : (c : Colours) (seen : List Parts) (colour : Parts) (o : Option ℕ) → o ≡ None
    → o ≡ position (is_entry colour) c.palette → Fills c seen → list_any (is_same colour) seen ≡ false
new_colour c seen colour o is found fills =
    none_then_any (is_same colour) seen 0 (index_among c seen colour o fills found ∙ is)

pub none_left : (c : Colours) (seen : List Parts) (colour : Parts) (o : Option ℕ) → o ≡ None
    → o ≡ position (is_entry colour) c.palette → length c.palette ≤ c.count → Fills c seen
    → length c.palette < length (with_colour seen colour)
none_left c seen colour o is found full fills =
    let none : list_any (is_same colour) seen ≡ false = new_colour c seen colour o is found fills in
    rw none (omega (arith, fills.count, length-append seen (colour ∷ [])))

pub numbered_next : (c : Colours) (palette : List (Option Parts)) (seen : List Parts) (colour : Parts) (o : Option ℕ)
    → o ≡ None
    → o ≡ position (is_entry colour) c.palette → c.count < length c.palette
    → palette ≡ slice_set c.palette c.count (Some colour)
    → Fills c seen
    → (c.count ≡ register_among (with_colour seen colour) colour)
    × Fills (record { palette = palette; count = c.count + 1 }) (with_colour seen colour)
numbered_next c palette seen colour o is found room set fills =
    let none : list_any (is_same colour) seen ≡ false = new_colour c seen colour o is found fills in
    let at = position_at_end (is_same colour) seen colour 0 none (same_as_itself colour) in
    let long = length-append seen (colour ∷ []) in
    let next : c.count ≡ unwrap_or (position_from (is_same colour) 0 (seen ++ colour ∷ [])) 0 =
    fills.count ∙ sym (ap (λ (o : Option ℕ). unwrap_or o 0) at ∙ zero-add (length seen)) in
    let same : length palette ≡ length c.palette = ap length set ∙ length-set c.palette c.count (Some colour) in
    let whole : palette ≡ palette_of (length c.palette) (seen ++ colour ∷ []) =
    set ∙ ap₂ (λ (p : List (Option Parts)) (n : ℕ). slice_set p n (Some colour)) fills.palette fills.count
    ∙ palette_of-set (length c.palette) seen colour (omega (arith, fills.count)) in
    rw none (
      next,
      record {
        palette = rw same whole;
        count = omega (arith, fills.count);
        few = omega (arith, fills.count, same);
      },
    )

-- a register below the count of colours has an entry
pub entry_there : (n : ℕ) (seen : List Parts) (i : ℕ) → i < length seen → length seen ≤ n
    → is_some (palette_at (palette_of n seen) i) ≡ true
entry_there n [] i lt few = absurd (omega arith)
entry_there zero (x ∷ seen) i lt few = absurd (omega arith)
entry_there (suc n) (x ∷ seen) zero lt few = refl
entry_there (suc n) (x ∷ seen) (suc i) lt few = entry_there n seen i (omega arith) (omega arith)

register_by : (seen : List Parts) (c : Parts) (found : (i : ℕ) × (position_from (is_same c) 0 seen ≡ Some i))
    → register_among seen c < length seen
register_by seen c found =
    let within = position_within (is_same c) seen 0 found.0 found.1 in
    let is : register_among seen c ≡ found.0 = ap (λ (o : Option ℕ). unwrap_or o 0) found.1 in
    omega (arith, within.1, is)

-- a colour that was seen has a register below the count of colours
pub register_within : (seen : List Parts) (c : Parts) → list_any (is_same c) seen ≡ true
    → register_among seen c < length seen
register_within seen c any = register_by seen c (any_then_position (is_same c) seen 0 any)

-- ---- the first register of a colour in a palette

position_is : (p : Option Parts → Bool) (xs : List (Option Parts)) (i : ℕ) → i < length xs → p (get_or xs i None) ≡ true
    → ((k : ℕ) → k < i → p (get_or xs k None) ≡ false) → position p xs ≡ Some i
position_is p xs i lt here before =
    let at : position_or_len p xs ≡ i = position_or_len_is p xs i None (omega arith) before (λ _. here) in
    let below : nat_lt i (length xs) ≡ true = grind (arith, nat_tests) in
    rw (at, below) refl

none_passes : (p : Option Parts → Bool) (xs : List (Option Parts)) (k : ℕ) → position p xs ≡ None → k < length xs
    → p (get_or xs k None) ≡ false
none_passes p xs k none lt = elim (cases_lt (position_or_len p xs) (length xs)) [
  | inl below ↦
      let test : nat_lt (position_or_len p xs) (length xs) ≡ true = lt-ltb (position_or_len p xs) (length xs) below in
      let some : position p xs ≡ Some (position_or_len p xs) = rw test refl in
      cc
  | inr above ↦ fails_before_first p xs k None (omega (arith, lt, above))
]

-- the next register becomes the first of its colour
pub first_next : (palette : List (Option Parts)) (count : ℕ) (colour : Parts)
    → None ≡ position (is_entry colour) palette → count < length palette
    → position (is_entry colour) (slice_set palette count (Some colour)) ≡ Some count
first_next palette count colour none room =
    let next = slice_set palette count (Some colour) in
    position_is (is_entry colour) next count (omega (arith, length-set palette count (Some colour)))
    (ap (is_entry colour) (get_or-set_at palette count count (Some colour) None refl room) ∙ same_as_itself colour)
    (λ k lt.
    ap (is_entry colour) (get_or-set_other palette count k (Some colour) None (λ e. absurd (omega (arith, e, lt))))
    ∙ none_passes (is_entry colour) palette k (sym none) (omega arith))

pub unused_next : (palette : List (Option Parts)) (count : ℕ) (colour : Parts) → IsUnusedFrom palette count
    → IsUnusedFrom (slice_set palette count (Some colour)) (count + 1)
unused_next palette count colour unused = λ r past.
    get_or-set_other palette count r (Some colour) None (λ e. absurd (omega (arith, e, past)))
    ∙ unused r (omega (arith, past))

used_before : (palette : List (Option Parts)) (count i : ℕ) (c : Parts) → IsUnusedFrom palette count
    → is_entry c (get_or palette i None) ≡ true → i < count
used_before palette count i c unused some = elim (cases_lt i count) [
  | inl below ↦ below
  | inr past ↦ let none : is_entry c (get_or palette i None) ≡ false = ap (is_entry c) (unused i past) in cc
]

-- a colour keeps its register when the next register gets a colour
pub registers_kept : (palette : List (Option Parts)) (count : ℕ) (colour : Parts) → IsUnusedFrom palette count
    → KeepsRegisters palette (slice_set palette count (Some colour))
registers_kept palette count colour unused = λ c i at.
    let was = position-Some (is_entry c) palette i None at in
    let before : i < count = used_before palette count i c unused was.1 in
    position_is (is_entry c) (slice_set palette count (Some colour)) i
    (omega (arith, was.0, length-set palette count (Some colour)))
    (ap (is_entry c) (get_or-set_other palette count i (Some colour) None (λ e. absurd (omega (arith, e, before))))
    ∙ was.1)
    (λ k lt.
    ap (is_entry c) (get_or-set_other palette count k (Some colour) None (λ e. absurd (omega (arith, e, lt, before))))
    ∙ was.2 k lt)
