-- Planes with a coverage byte for each column of each band, and no registers.
use Rattle.std.proofs.Common.{◌≡◌, ℕ, ◌+◌, ◌-◌, ◌*◌, ◌<◌, ◌≤◌, Bool, true, false, not, cond}
use Rattle.std.proofs.Common.{Option, Some, None, List, [], length, get_or, inl, inr, refl, sym, ap}
use Rattle.std.proofs.Common.{◌∙◌, arith, subst}
use Rattle.std.specs.Prelude.{is_none}
use Rattle.std.specs.Int.{div_ceil}
use Rattle.std.specs.Int.Bits.{bit_or, or_zero_r}
use Rattle.std.proofs.lemmas.Bool.Decides.{nat_tests}
use Rattle.std.proofs.lemmas.Bool.{cond-true, cond-false, cases_lt, le-ltb, lt-ltb}
use Rattle.sixel_model.specs.Geometry.{covers}
use Rattle.sixel_model.specs.Grids.{cell, painted_grid}
use Rattle.sixel_plane.specs.BandPlanes.{grid_of_bands, has_coverage_bit}
use Rattle.sixel_plane.specs.CoverPlanes.{grid_of_cover}
use Rattle.sixel_plane.specs.Lanes.{AreChanged}
use Rattle.sixel_plane.specs.Stretches.{AreEqual, AreMapped, AreSixelLanes, in_stretch, run_sixel, sixel_of}
use Rattle.sixel_plane.specs.Stretches.{stretched_grid}
use Rattle.sixel_plane.proofs.BandLemmas.{band_fits, painted_bit, same_either}
use Rattle.sixel_plane.proofs.PaintedLemmas.{cell_of_painted, pixels_after}
use Rattle.sixel_plane.proofs.PlaneStretchLemmas.{covered_column}
use Rattle.sixel_plane.proofs.StretchLemmas.{columns_more, lanes_of, no_columns, run_there}

-- ---- groups

-- one more group of a stretch
pub cover_more : (covered n next count few : ℕ) (bytes lanes old mid new : List ℕ) → next ≡ n + 16 → few ≤ count - n
    → (few < 16 → few ≡ count - n) → AreSixelLanes bytes n few lanes
    → AreMapped covered n (λ j b. bit_or b (sixel_of bytes count j)) old mid
    → AreMapped (covered + n) 16 (λ j b. bit_or b (get_or lanes j 0)) mid new
    → AreMapped covered next (λ j b. bit_or b (sixel_of bytes count j)) old new
cover_more covered n next count few bytes lanes old mid new end most all are before columns =
    subst (λ (m : ℕ). AreMapped covered m (λ j b. bit_or b (sixel_of bytes count j)) old new) (sym end)
    (columns_more covered n (sixel_of bytes count) lanes old mid new (lanes_of bytes lanes count n few most all are)
    before columns)

-- a stretch of one group
pub cover_alone : (covered count : ℕ) (bytes lanes old new : List ℕ) → count ≤ 16 → AreSixelLanes bytes 0 count lanes
    → AreMapped covered 16 (λ j b. bit_or b (get_or lanes j 0)) old new
    → AreMapped covered 16 (λ j b. bit_or b (sixel_of bytes count j)) old new
cover_alone covered count bytes lanes old new room are columns =
    let at_covered : covered ≡ covered + 0 = omega arith in
    cover_more covered 0 16 count count bytes lanes old old new (omega arith) (omega arith) (λ lt. omega arith) are
    (no_columns covered (λ j b. bit_or b (sixel_of bytes count j)) old)
    (subst (λ (s : ℕ). AreMapped s 16 (λ j b. bit_or b (get_or lanes j 0)) old new) at_covered columns)

-- one more group of a run
pub cover_run_more : (covered n next count few bits : ℕ) (lanes old mid new : List ℕ) → next ≡ n + 16 → few ≤ count - n
    → (few < 16 → few ≡ count - n) → AreEqual bits few lanes
    → AreMapped covered n (λ j b. bit_or b (run_sixel bits count j)) old mid
    → AreMapped (covered + n) 16 (λ j b. bit_or b (get_or lanes j 0)) mid new
    → AreMapped covered next (λ j b. bit_or b (run_sixel bits count j)) old new
cover_run_more covered n next count few bits lanes old mid new end most all are before columns =
    subst (λ (m : ℕ). AreMapped covered m (λ j b. bit_or b (run_sixel bits count j)) old new) (sym end)
    (columns_more covered n (run_sixel bits count) lanes old mid new
    (λ j lt. are.each j lt ∙ run_there bits count n few j most all lt) before columns)

-- the groups of a run change its columns alone
pub run_changed : (covered count n bits : ℕ) (old new : List ℕ) → count ≤ n
    → AreMapped covered n (λ j b. bit_or b (run_sixel bits count j)) old new
    → AreChanged covered (covered + count) (λ b. bit_or b bits) old new
run_changed covered count n bits old new more mapped = record {
  long = mapped.long;
  changed = λ i lt.
      let a = mapped.changed i lt in
      elim (cases_lt i (covered + count)) [
        | inl to ↦ elim (cases_lt i covered) [
          | inl before ↦ grind (arith, nat_tests)
          | inr from ↦
              let here : run_sixel bits count (i - covered) ≡ bits =
              cond-true _ _ _ (lt-ltb (i - covered) count (omega arith)) in
              grind (arith, nat_tests)
        ]
        | inr past ↦
            let none : run_sixel bits count (i - covered) ≡ 0 =
            cond-false _ _ _ (le-ltb (i - covered) count (omega arith)) in
            let kept : bit_or (get_or old i 0) (run_sixel bits count (i - covered)) ≡ get_or old i 0 =
            ap (bit_or (get_or old i 0)) none ∙ or_zero_r (get_or old i 0) in
            grind (arith, nat_tests)
      ];
}

-- ---- grids

-- the grid after a run
pub painted_cover : (w h left count band bits : ℕ) (old new : List ℕ) → 0 < w → left + count ≤ w
    → length old ≡ w * div_ceil h 6
    → AreChanged (band * w + left) (band * w + left + count) (λ b. bit_or b bits) old new
    → grid_of_cover w h new ≡ painted_grid (grid_of_cover w h old) left band count bits 0
unfolding painted_grid
painted_cover w h left count band bits old new some fits bands changed =
    ap (λ (cells : List (Option ℕ)). record { width = w; height = h; cells = cells })
    (pixels_after w h 0 [] [] (covers left count band 1 bits) (has_coverage_bit w old) (has_coverage_bit w new) some
    (λ x y inside_x inside_y.
    painted_bit w left count band bits old new x y inside_x fits (rw bands (band_fits w h x y inside_x inside_y)) changed)
    (λ x y inside_x inside_y. sym (same_either (covers left count band 1 bits x y) 0)))

-- the grid after a stretch
pub stretched_cover : (w h left band count n : ℕ) (f : ℕ → ℕ) (old new : List ℕ) → 0 < w → left + count ≤ w
    → length old ≡ w * div_ceil h 6 → count ≤ n → ((j : ℕ) → count ≤ j → f j ≡ 0)
    → AreMapped (band * w + left) n (λ j b. bit_or b (f j)) old new
    → grid_of_cover w h new ≡ stretched_grid (grid_of_cover w h old) left band count f 0
unfolding stretched_grid
stretched_cover w h left band count n f old new some fits bands more none mapped =
    ap (λ (cells : List (Option ℕ)). record { width = w; height = h; cells = cells })
    (pixels_after w h 0 [] [] (in_stretch left band count f) (has_coverage_bit w old) (has_coverage_bit w new) some
    (λ x y inside_x inside_y.
    covered_column w left band count n (band * w + left) f old new x y inside_x fits more none refl
    (rw bands (band_fits w h x y inside_x inside_y)) mapped)
    (λ x y inside_x inside_y. sym (same_either (in_stretch left band count f x y) 0)))

-- ---- blank pixels

pub blank_if : (t : Bool) (r : ℕ) → not t ≡ is_none (cond t (Some r) None)
blank_if true r = refl
blank_if false r = refl

-- a pixel is blank exactly if its bit isn't set
pub blank_bit : (w h x y : ℕ) (registers coverage : List ℕ) → x < w → y < h
    → not (has_coverage_bit w coverage x y) ≡ is_none (cell (grid_of_bands w h registers coverage) x y)
blank_bit w h x y registers coverage inside_x inside_y =
    blank_if (has_coverage_bit w coverage x y) (get_or registers (y * w + x) 0)
    ∙ ap is_none (sym (cell_of_painted w h registers (has_coverage_bit w coverage) x y inside_x inside_y))
