-- Planes with a register for each pixel, and a coverage byte for each column of each band.
use Rattle.std.proofs.Common.{◌≡◌, ◌==◌, ◌≢◌, ℕ, zero, suc, ◌+◌, ◌*◌, ◌/◌, ◌%◌, ◌<◌, ◌≤◌, Bool, true, false, ◌&&◌, ◌||◌}
use Rattle.std.proofs.Common.{cond, List, length, get_or, replicate, nat_le, nat_lt, if◌then◌else◌, inl, inr, refl, sym}
use Rattle.std.proofs.Common.{ap, ◌∙◌, arith, max, mul_comm, take}
use Rattle.std.specs.Int.{bit_at, div_ceil}
use Rattle.std.specs.Int.Bits.{bit_or, or_zero_r}
use Rattle.std.proofs.lemmas.Bool.{and_parts, and_from, leb-true, ltb-true, le-leb, lt-ltb, eqb-true, eq-eqb, cases_eq}
use Rattle.std.proofs.lemmas.List.{get_or-replicate, get_or-take, length-take-le}
use Rattle.std.proofs.lemmas.Nat.{div-add-mod', mod_below, div-mul-add, mod-mul-add, mul-add-lt, mul-le}
use Rattle.std.proofs.lemmas.Nat.{row_fits_turned}
use Rattle.std.proofs.lemmas.Nat.Bits.{bit_at_or, bit_at-lt, bit_at-zero, same_from_bits_below}
use Rattle.sixel_plane.specs.BandPlanes.{has_coverage_bit, grid_of_bands}
use Rattle.sixel_model.specs.Geometry.{covers}
use Rattle.sixel_plane.specs.Lanes.{AreChanged}
use Rattle.sixel_model.specs.Positions.{any_below}
use Rattle.sixel_model.specs.Grids.{RowsArePainted, blank_grid, painted_grid}
use Rattle.sixel_model.proofs.CoverLemmas.{lies_under, covers_under, PassesBelow, passes_below, any_below_at}
use Rattle.sixel_plane.proofs.PaintedLemmas.{blank_unpainted, grid_after_run}
use Rattle.sixel_model.proofs.PaintLemmas.{painted_same}
use Rattle.sixel_model.proofs.RunLemmas.{IsRunBelow, in_row_at, run_more, same_test}

-- ---- indices

-- a row's band is one of the bands of a plane
pub band_below : (h y : ℕ) → y < h → y / 6 < div_ceil h 6
band_below h y lt = omega arith

-- each column of each band has a coverage byte
pub band_fits : (w h x y : ℕ) → x < w → y < h → y / 6 * w + x < w * div_ceil h 6
band_fits w h x y inside_x inside_y = mul-add-lt (y / 6) w x (div_ceil h 6) (band_below h y inside_y) inside_x

-- ---- a blank plane

pub blank_bands : (w h : ℕ) (registers coverage : List ℕ) → 0 < w → coverage ≡ replicate (w * div_ceil h 6) 0
    → grid_of_bands w h registers coverage ≡ blank_grid w h
blank_bands w h registers coverage some blank =
    blank_unpainted w h registers (has_coverage_bit w coverage) some
    (λ x y inside_x inside_y.
    let byte : get_or coverage (y / 6 * w + x) 0 ≡ 0 =
    ap (λ (l : List ℕ). get_or l (y / 6 * w + x) 0) blank
    ∙ get_or-replicate (w * div_ceil h 6) (y / 6 * w + x) 0 0 (band_fits w h x y inside_x inside_y) in
    ap (λ n. n == 1) (ap (λ b. bit_at b (y % 6)) byte ∙ bit_at-zero (y % 6)))

-- ---- painting

-- a run covers the pixels of its columns, in the rows of its band with set bits
pub covered_band : (left count band bits x y : ℕ) → covers left count band 1 bits x y
    ≡ (((nat_le left x && nat_lt x (left + count)) && (nat_le band (y / 6) && nat_lt (y / 6) (band + 1)))
    && (bit_at bits (y % 6) == 1))
covered_band left count band bits x y =
    same_test _ _
    (λ t.
    let under = lies_under left count band bits x y t in
    let row : y ≡ band * 6 + under.bit = omega (arith, under.row) in
    let line : y / 6 ≡ band = ap (λ n. n / 6) row ∙ div-mul-add band 6 under.bit under.below in
    let bit : y % 6 ≡ under.bit = ap (λ n. n % 6) row ∙ mod-mul-add band 6 under.bit under.below in
    and_from _ _
    (and_from _ _ (and_from _ _ (le-leb left x under.from) (lt-ltb x (left + count) under.to))
    (and_from _ _ (le-leb band (y / 6) (omega arith)) (lt-ltb (y / 6) (band + 1) (omega arith))))
    (ap (λ n. bit_at bits n == 1) bit ∙ eq-eqb (bit_at bits under.bit) 1 under.set))
    (λ t.
    let parts =
    and_parts ((nat_le left x && nat_lt x (left + count)) && (nat_le band (y / 6) && nat_lt (y / 6) (band + 1)))
    (bit_at bits (y % 6) == 1) t in
    let both = and_parts (nat_le left x && nat_lt x (left + count)) (nat_le band (y / 6) && nat_lt (y / 6) (band + 1))
    parts.0 in
    let columns = and_parts (nat_le left x) (nat_lt x (left + count)) both.0 in
    let rows = and_parts (nat_le band (y / 6)) (nat_lt (y / 6) (band + 1)) both.1 in
    let low = leb-true _ _ rows.0 in
    let high = ltb-true _ _ rows.1 in
    let line : y / 6 ≡ band = omega arith in
    let place : y / 6 * 6 + y % 6 ≡ y = div-add-mod' y 6 in
    covers_under left count band bits x y record {
      bit = y % 6;
      below = mod_below y 6 (omega arith);
      set = eqb-true (bit_at bits (y % 6)) 1 parts.1;
      row = omega arith;
      from = leb-true _ _ columns.0;
      to = ltb-true _ _ columns.1;
    })

greater : (a b : ℕ) → a < 2 → b < 2 → (max a b == 1) ≡ ((b == 1) || (a == 1))
greater zero zero p q = refl
greater zero (suc zero) p q = refl
greater (suc zero) zero p q = refl
greater (suc zero) (suc zero) p q = refl
greater (suc (suc a)) b p q = absurd (omega arith)
greater a (suc (suc b)) p q = absurd (omega arith)

or_bit_of : (old bits k : ℕ) → (bit_at (bit_or old bits) k == 1) ≡ ((bit_at bits k == 1) || (bit_at old k == 1))
or_bit_of old bits k =
    ap (λ n. n == 1) (bit_at_or old bits k) ∙ greater (bit_at old k) (bit_at bits k) (bit_at-lt old k)
    (bit_at-lt bits k)

pub same_either : (t : Bool) (x : ℕ) → cond t x x ≡ x
same_either true x = refl
same_either false x = refl

-- a pixel of the run's column, which is written only if its bit is set
pub painted_put : (t : Bool) (k w left band bits register start : ℕ) (old mid new : List ℕ) → 0 < w → left + 1 ≤ w
    → start ≡ (6 * band + k) * w + left → t ≡ (bit_at bits k == 1)
    → IsRunBelow k w left 1 band bits register 0 old mid
    → AreChanged start (start + 1) (λ r. if t then register else r) mid new
    → IsRunBelow (k + 1) w left 1 band bits register 0 old new
painted_put true k w left band bits register start old mid new some fits at set before c =
    run_more k w left 1 band bits start register 0 old mid new some fits at (sym set) before c.long c.changed
painted_put false k w left band bits register start old mid new some fits at clear before c =
    painted_same k band 1 bits _ _ register 0 old mid new (sym clear) before c.long
    (λ i lt. c.changed i lt ∙ same_either (nat_le start i && nat_lt i (start + 1)) (get_or mid i 0))

-- a bit of a byte to which bits were added, or not
pub or_bit : (t : Bool) (old bits k : ℕ)
    → (bit_at (cond t (bit_or old bits) old) k == 1) ≡ ((t && (bit_at bits k == 1)) || (bit_at old k == 1))
or_bit true old bits k = or_bit_of old bits k
or_bit false old bits k = refl

-- which pixels the coverage bytes mark after a run
pub painted_bit : (w left count band bits : ℕ) (old new : List ℕ) (x y : ℕ) → x < w → left + count ≤ w
    → y / 6 * w + x < length old
    → AreChanged (band * w + left) (band * w + left + count) (λ b. bit_or b bits) old new
    → has_coverage_bit w new x y ≡ (covers left count band 1 bits x y || has_coverage_bit w old x y)
painted_bit w left count band bits old new x y inside fits there changed =
    let byte = changed.changed (y / 6 * w + x) there in
    let place = in_row_at w band (y / 6) x left count inside fits in
    let before : ℕ = get_or old (y / 6 * w + x) 0 in
    ap (λ n. bit_at n (y % 6) == 1) (byte ∙ ap (λ (t : Bool). cond t (bit_or before bits) before) place)
    ∙ or_bit _ before bits (y % 6)
    ∙ ap (λ t. t || (bit_at before (y % 6) == 1)) (sym (covered_band left count band bits x y))

-- the grid after a run
pub painted_bands : (w h left count band bits register : ℕ) (registers coverage registers_after coverage_after : List ℕ)
    → 0 < w → left + count ≤ w → length registers ≡ w * h → length coverage ≡ w * div_ceil h 6
    → AreChanged (band * w + left) (band * w + left + count) (λ b. bit_or b bits) coverage coverage_after
    → ((i : ℕ) → i < length registers → get_or registers_after i 0
    ≡ cond (covers left count band 1 bits (i % w) (i / w)) register (get_or registers i 0))
    → grid_of_bands w h registers_after coverage_after
    ≡ painted_grid (grid_of_bands w h registers coverage) left band count bits register
painted_bands w h left count band bits register registers coverage registers_after coverage_after
    some fits whole bands changed written =
    grid_after_run w h left count band bits register registers registers_after (has_coverage_bit w coverage)
    (has_coverage_bit w coverage_after) some whole
    (λ x y inside_x inside_y.
    painted_bit w left count band bits coverage coverage_after x y inside_x fits
    (rw bands (band_fits w h x y inside_x inside_y)) changed)
    written

unchanged : (t : Bool) (bits o : ℕ) → bits ≡ 0 → o ≡ cond t (bit_or o bits) o
unchanged true bits o none = sym (ap (bit_or o) none ∙ or_zero_r o)
unchanged false bits o none = refl

-- a run without set bits changes no coverage
pub nothing_changed : (from to bits : ℕ) (bytes : List ℕ) → bits ≡ 0
    → AreChanged from to (λ b. bit_or b bits) bytes bytes
nothing_changed from to bits bytes none = record {
  long = refl;
  changed = λ i lt. unchanged _ bits (get_or bytes i 0) none;
}

no_bit_of : (bits k : ℕ) → k < 6 → any_below 6 (λ n. bit_at bits n == 1) ≡ false → bit_at bits k ≡ bit_at 0 k
no_bit_of bits k small none = elim (cases_eq (bit_at bits k) 1) [
  | inl set ↦
      let some : any_below 6 (λ n. bit_at bits n == 1) ≡ true =
      any_below_at 6 k (λ n. bit_at bits n == 1) small (eq-eqb (bit_at bits k) 1 set) in
      cc
  | inr clear ↦ omega (arith, bit_at-lt bits k, bit_at-zero k)
]

some_bit_of : (bits : ℕ) → bits ≤ 63 → bits ≢ 0 → (t : Bool) → any_below 6 (λ n. bit_at bits n == 1) ≡ t
    → PassesBelow 6 (λ n. bit_at bits n == 1)
some_bit_of bits small some true found = passes_below 6 (λ n. bit_at bits n == 1) found
some_bit_of bits small some false none =
    absurd (some (same_from_bits_below 6 bits 0 (omega arith) (omega arith) (λ k few. no_bit_of bits k few none)))

-- a sixel other than 0 has a set bit
some_bit : (bits : ℕ) → bits ≤ 63 → bits ≢ 0 → PassesBelow 6 (λ n. bit_at bits n == 1)
some_bit bits small some = some_bit_of bits small some _ refl

-- a run with a set bit is inside one of the bands
pub run_fits : (w h left count band bits : ℕ) → bits ≤ 63 → left + count ≤ w
    → ((k : ℕ) → k < 6 → bit_at bits k ≡ 1 → 6 * band + k < h) → bits ≢ 0
    → band * w + left + count ≤ w * div_ceil h 6
run_fits w h left count band bits small fits rows some =
    let found = some_bit bits small some in
    let set : bit_at bits found.number ≡ 1 = eqb-true (bit_at bits found.number) 1 found.passes in
    let row : 6 * band + found.number < h = rows found.number found.below set in
    let few : found.number < 6 = found.below in
    let line : band < div_ceil h 6 = omega arith in
    let room : band * w + w ≤ w * div_ceil h 6 = row_fits_turned band w w (div_ceil h 6) line (omega arith) in
    omega arith

-- ---- whole bands

-- 63 has all six bits
all_set : (k : ℕ) → k < 6 → bit_at 63 k ≡ 1
all_set zero lt = refl
all_set (suc zero) lt = refl
all_set (suc (suc zero)) lt = refl
all_set (suc (suc (suc zero))) lt = refl
all_set (suc (suc (suc (suc zero)))) lt = refl
all_set (suc (suc (suc (suc (suc zero))))) lt = refl
all_set (suc (suc (suc (suc (suc (suc k)))))) lt = absurd (omega arith)

-- the coverage bytes of the whole bands are a prefix
pub bands_fit : (w h : ℕ) → h / 6 * w ≤ w * div_ceil h 6
bands_fit w h = omega (arith, mul-le (h / 6) w (div_ceil h 6) w (omega arith) (omega arith), mul_comm w (div_ceil h 6))

-- if each coverage byte of the whole bands has all six bits, their rows are painted
pub whole_painted : (w h common : ℕ) (coverage : List ℕ) → common ≡ 63 → h / 6 * w ≤ length coverage
    → ((i k : ℕ) → i < length (take (h / 6 * w) coverage) → bit_at common k ≡ 1
    → bit_at (get_or (take (h / 6 * w) coverage) i 0) k ≡ 1)
    → RowsArePainted w (has_coverage_bit w coverage) (h / 6 * 6)
whole_painted w h common coverage all long each x y inside_x inside_y =
    let i : ℕ = y / 6 * w + x in
    let n : ℕ = h / 6 * w in
    let k : ℕ = y % 6 in
    let turned : w * (h / 6) ≡ n = mul_comm w (h / 6) in
    let inside : i < n = omega (arith, turned, mul-add-lt (y / 6) w x (h / 6) (omega (arith, inside_y)) inside_x) in
    let short = length-take-le n coverage long in
    let bit : bit_at (get_or (take n coverage) i 0) k ≡ 1 =
    each i k (omega (arith, inside, short)) (ap (λ b. bit_at b k) all ∙ all_set k (mod_below y 6 (omega arith))) in
    eq-eqb _ _ (ap (λ b. bit_at b k) (sym (get_or-take n coverage i 0 inside)) ∙ bit)
