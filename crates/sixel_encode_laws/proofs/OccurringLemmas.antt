-- The registers that occur in a band: each is used, there is at least one, and no more than the palette's entries.
use Rattle.std.proofs.Common.{◌≡◌, ℕ, zero, suc, ◌+◌, ◌*◌, ◌<◌, ◌≤◌, Bool, true, false, not, ◌&&◌, cond, Option}
use Rattle.std.proofs.Common.{List, [], ◌∷◌, length, refl, sym, ap, ◌∙◌, subst, arith, lit≤}
use Rattle.std.specs.Prelude.{◌==◌, nat_lt, filter, is_some, count_by}
use Rattle.std.specs.List.{list_any, range_with_len, AllByRecursion}
use Rattle.std.proofs.lemmas.Bool.{and_from, and_parts, eqb-true, eq-eqb, lt-ltb, ltb-true}
use Rattle.std.proofs.lemmas.List.Recursion.{is_count_by}
use Rattle.sixel_model.specs.declared.colour.Parts.{Parts}
use Rattle.sixel_model.specs.Colours.{palette_at}
use Rattle.sixel_model.specs.Pictures.{PictureValue, register_of}
use Rattle.sixel_encode.specs.Canon.{band_registers, bands, below, column_bits, has_pixel, occurs}
use Rattle.sixel_encode.proofs.BitLemmas.{column_has}
use Rattle.sixel_encode.proofs.OccurLemmas.{occurs_is, pixel_occurs}
use Rattle.sixel_encode.proofs.PartedLemmas.{IsUsed, Parted, pixel_used}
use Rattle.sixel_encode.proofs.RangeLemmas.{InRange, any_filter, any_range, filter_range, range_any}
use Rattle.sixel_encode_laws.specs.Laws.{entries_of}

-- a register that occurs in a band is one of the palette, and has a colour
pub occurs_used : {registers : ℕ} {p : PictureValue} (band r : ℕ) → Parted registers p → occurs p band r ≡ true
    → IsUsed registers p r
occurs_used {registers} {p} band r h here =
    let i : InRange 0 p.width (λ x. not (column_bits p band r x == 0)) =
    range_any p.width 0 _ (sym (occurs_is p band r) ∙ here) in
    let k : InRange 0 6 (has_pixel p band r i.number) =
    range_any 6 0 _ (column_has p band r i.number ∙ i.passes) in
    let parts = and_parts (nat_lt (6 * band + k.number) p.height) (register_of p i.number (6 * band + k.number) == r)
    k.passes in
    let under : i.number < 0 + p.width = i.under in
    let within : i.number < p.width = omega arith in
    subst (IsUsed registers p) (eqb-true (register_of p i.number (6 * band + k.number)) r parts.1)
    (pixel_used h i.number (6 * band + k.number) within (ltb-true (6 * band + k.number) p.height parts.0))

pub band_used : {registers : ℕ} {p : PictureValue} (band : ℕ) → Parted registers p
    → AllByRecursion (IsUsed registers p) (band_registers p band)
unfolding band_registers
band_used {registers} {p} band h =
    filter_range (IsUsed registers p) (occurs p band) (length p.palette) 0 (length p.palette) (omega arith)
    (λ r l here. occurs_used band r h here)

-- ---- at least one

any_some : (q : ℕ → Bool) (rs : List ℕ) → list_any q rs ≡ true → 1 ≤ length rs
any_some q [] h = cc h
any_some q (r ∷ rs) h = omega arith

-- the register of a pixel of a band is one of the band's registers; if it passes, one of them does
pub own_listed : {registers : ℕ} {p : PictureValue} (band x k : ℕ) (q : ℕ → Bool) → Parted registers p → x < p.width
    → k < 6 → 6 * band + k < p.height → q (register_of p x (6 * band + k)) ≡ true
    → list_any q (band_registers p band) ≡ true
unfolding band_registers
own_listed {registers} {p} band x k q h l m inside passes =
    let own = register_of p x (6 * band + k) in
    let used : own < registers = (pixel_used h x (6 * band + k) l inside).under in
    let entries : length p.palette ≡ registers = h.entries in
    any_filter (occurs p band) q (below (length p.palette))
    ∙ any_range (length p.palette) 0 own (λ r. occurs p band r && q r) (omega arith) (omega arith)
    (and_from _ _ (pixel_occurs p band own x k l m
    (and_from _ _ (lt-ltb (6 * band + k) p.height inside) (eq-eqb own own refl))) passes)

-- each band has at least one register
pub band_some : {registers : ℕ} {p : PictureValue} (band : ℕ) → Parted registers p → band < bands p
    → 1 ≤ length (band_registers p band)
band_some {p} band h l =
    let some : 0 < p.width = omega (arith, h.some_width) in
    any_some (λ r. true) (band_registers p band)
    (own_listed band 0 0 (λ r. true) h some (omega arith) (omega arith) refl)

-- ---- no more than the entries of the palette

-- how many of the n numbers from a on pass
abbrev pub entries : (ℕ → Bool) → ℕ → ℕ → ℕ
entries t a zero = 0
entries t a (suc n) = cond (t a) (1 + entries t (a + 1) n) (entries t (a + 1) n)

entries_shift : (n a : ℕ) (t : ℕ → Bool) → entries t (suc a) n ≡ entries (λ i. t (suc i)) a n
entries_shift zero a t = refl
entries_shift (suc n) a t =
    let e : suc a + 1 ≡ suc (a + 1) = omega arith in
    let rest : entries t (suc a + 1) n ≡ entries (λ i. t (suc i)) (a + 1) n =
    ap (λ b. entries t b n) e ∙ entries_shift n (a + 1) t in
    ap (λ m. cond (t (suc a)) (1 + m) m) rest

pub entries_are : (xs : List (Option Parts))
    → entries (λ i. is_some (palette_at xs i)) 0 (length xs) ≡ count_by is_some xs
entries_are xs =
    is_count_by (λ ys. entries (λ i. is_some (palette_at ys i)) 0 (length ys)) is_some refl
    (λ x ys. ap (λ m. cond (is_some x) (1 + m) m)
    (entries_shift (length ys) 0 (λ i. is_some (palette_at (x ∷ ys) i)))) xs

kept_step : (r : ℕ) (rs : List ℕ) (m : ℕ) (q t : Bool) → (q ≡ true → t ≡ true) → length rs ≤ m
    → length (cond q (r ∷ rs) rs) ≤ cond t (1 + m) m
kept_step r rs m true true h l = omega arith
kept_step r rs m true false h l = (let e : false ≡ true = h refl in cc e)
kept_step r rs m false true h l = omega arith
kept_step r rs m false false h l = l

kept_length : (n a : ℕ) (q t : ℕ → Bool) → ((r : ℕ) → q r ≡ true → t r ≡ true)
    → length (filter q (range_with_len a n)) ≤ entries t a n
kept_length zero a q t h = lit≤ tt
kept_length (suc n) a q t h =
    kept_step a (filter q (range_with_len (a + 1) n)) (entries t (a + 1) n) (q a) (t a) (h a)
    (kept_length n (a + 1) q t h)

pub band_length : {registers : ℕ} {p : PictureValue} (band : ℕ) → Parted registers p
    → length (band_registers p band) ≤ entries_of p
unfolding band_registers
band_length {p} band h =
    let kept : length (filter (occurs p band) (range_with_len 0 (length p.palette)))
    ≤ entries (λ i. is_some (palette_at p.palette i)) 0 (length p.palette) =
    kept_length (length p.palette) 0 (occurs p band) (λ i. is_some (palette_at p.palette i))
    (λ r here. (occurs_used band r h here).coloured) in
    let all : entries (λ i. is_some (palette_at p.palette i)) 0 (length p.palette) ≡ count_by is_some p.palette =
    entries_are p.palette in
    omega arith
