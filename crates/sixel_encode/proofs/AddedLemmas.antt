-- Adding the bits of a register, row by row.
use Rattle.std.proofs.Common.{◌≡◌, ◌==◌, ℕ, ◌+◌, ◌*◌, ◌%◌, ◌^◌, ◌<◌, ◌≤◌, Bool, true, false, cond}
use Rattle.std.proofs.Common.{◌&&◌, List, length, get_or, replicate, refl, sym, ap, ap₂, ◌∙◌, arith}
use Rattle.std.proofs.Math.Pow.{pow_mono}
use Rattle.std.proofs.lemmas.Bool.{le-leb, lt-leb}
use Rattle.std.proofs.lemmas.Simd.{length-replicate, get_or-replicate, length-chunk, get_or-chunk, length-zip2}
use Rattle.std.proofs.lemmas.Simd.{get_or-zip2}
use lib.Lanes.{chunk, sel_l, zip2}
use Rattle.sixel_encode.specs.Columns.{bits_to, is_in_row}
use Rattle.sixel_encode.proofs.BitLemmas.{row_added, row_passed}
use Rattle.sixel_encode.proofs.RepeatLemmas.{chosen_at, length-chosen, tests}

-- the bits to add in a group of pixels
abbrev pub marks_of : ℕ → ℕ → List ℕ → List ℕ
marks_of register bits v = sel_l (tests v (replicate 32 register)) (replicate 32 bits) (replicate 32 0)

length-marks : (register bits : ℕ) (v : List ℕ) → length v ≡ 32 → length (marks_of register bits v) ≡ 32
length-marks register bits v long =
    length-chosen v (replicate 32 register) (replicate 32 bits) long (length-replicate 32 register)
    (length-replicate 32 bits)

mark_at : (register bits j : ℕ) (v : List ℕ) → length v ≡ 32 → j < 32
    → get_or (marks_of register bits v) j 0 ≡ cond (get_or v j 0 == register) bits 0
mark_at register bits j v long small =
    chosen_at v (replicate 32 register) (replicate 32 bits) j long (length-replicate 32 register)
    (length-replicate 32 bits) small
    ∙ ap₂ (λ (r b : ℕ). cond (get_or v j 0 == r) b 0)
    (get_or-replicate 32 j register 0 small) (get_or-replicate 32 j bits 0 small)

-- addition in eight bits
abbrev pub plus : ℕ → ℕ → ℕ
plus a b = (a + b) % 256

pub length-added : (at register bits : ℕ) (row v : List ℕ) → length v ≡ 32 → at + 32 ≤ length row
    → length (zip2 plus v (marks_of register bits (chunk at 32 row))) ≡ 32
length-added at register bits row v long room =
    length-zip2 plus v (marks_of register bits (chunk at 32 row))
    (long ∙ sym (length-marks register bits (chunk at 32 row) (length-chunk at 32 row room))) ∙ long

-- the bit was added where the row has the register
pub added_at : (at register bits j : ℕ) (row v : List ℕ) → length v ≡ 32 → at + 32 ≤ length row → j < 32
    → get_or (zip2 plus v (marks_of register bits (chunk at 32 row))) j 0
    ≡ (get_or v j 0 + cond (get_or row (at + j) 0 == register) bits 0) % 256
added_at at register bits j row v long room small =
    let w = chunk at 32 row in
    let loaded : length w ≡ 32 = length-chunk at 32 row room in
    let marks = length-marks register bits w loaded in
    get_or-zip2 plus v (marks_of register bits w) j 0 0 0 (omega arith) (omega arith)
    ∙ ap (plus (get_or v j 0))
    (mark_at register bits j w loaded small
    ∙ ap (λ (r : ℕ). cond (r == register) bits 0) (get_or-chunk at 32 row j 0 small))

-- ---- one column, row by row

-- the data byte of the first rows of a column
abbrev pub Spells : (ℕ → Bool) → ℕ → ℕ → Type 0
Spells has row sixel = (sixel ≡ 63 + bits_to has row) × (bits_to has row < 2 ^ row)

-- the bits up to a row are below 64
most_bits : (row : ℕ) → row < 6 → 2 ^ (row + 1) ≤ 64
most_bits row small = let high : row + 1 ≤ 6 = omega arith in pow_mono {i = row + 1} {j = 6} high

spells_bit : (has : ℕ → Bool) (row sixel : ℕ) (t : Bool) → row < 6 → has row ≡ t → Spells has row sixel
    → Spells has (row + 1) (plus sixel (cond t (1 * 2 ^ row % 256) 0))
spells_bit has row sixel true small here before =
    let more = row_added has row (bits_to has row) small here refl before.1 in
    let fits : bits_to has row + 1 * 2 ^ row % 256 < 64 = omega (arith, most_bits row small) in
    (omega arith, rw (sym more.0) more.1)
spells_bit has row sixel false small gone before =
    let same = row_passed has row (bits_to has row) gone refl before.1 in
    let fits : bits_to has (row + 1) < 64 = omega (arith, most_bits row small) in
    (omega arith, rw (sym same.0) same.1)

pub spells_more : (has : ℕ → Bool) (row sixel bit : ℕ) (t : Bool) → row < 6 → has row ≡ t → bit ≡ 1 * 2 ^ row % 256
    → Spells has row sixel → Spells has (row + 1) (plus sixel (cond t bit 0))
spells_more has row sixel bit t small here is before = rw is (spells_bit has row sixel t small here before)

pub spells_same : (has : ℕ → Bool) (row sixel : ℕ) → has row ≡ false → Spells has row sixel → Spells has (row + 1) sixel
spells_same has row sixel gone before =
    let same = row_passed has row (bits_to has row) gone refl before.1 in
    (omega arith, rw (sym same.0) same.1)

-- ---- which rows are there

pub row_there : (rows : List ℕ) (width register x k : ℕ) (b : Bool) → k * width + width ≤ length rows
    → (get_or rows (k * width + x) 0 == register) ≡ b → is_in_row rows width register x k ≡ b
row_there rows width register x k b room is =
    ap (λ (t : Bool). t && (get_or rows (k * width + x) 0 == register)) (le-leb _ _ room) ∙ is

pub row_missing : (rows : List ℕ) (width register x k : ℕ) → length rows < k * width + width
    → is_in_row rows width register x k ≡ false
row_missing rows width register x k past =
    ap (λ (t : Bool). t && (get_or rows (k * width + x) 0 == register)) (lt-leb _ _ past)
