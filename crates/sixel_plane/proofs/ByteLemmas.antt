-- Planes with a register and a mark for each pixel.
use Rattle.std.proofs.Common.{◌≡◌, ℕ, ◌+◌, ◌*◌, ◌/◌, ◌%◌, ◌<◌, Bool, true, false, ◌||◌, cond, not, Option, Some, None}
use Rattle.std.proofs.Common.{List, length, get_or, replicate, position, refl, sym, ap, ap₂, ◌∙◌, arith, mul_comm}
use Rattle.std.specs.Option.{option_map}
use Rattle.std.proofs.lemmas.Bool.{not-false, not-true}
use Rattle.std.proofs.lemmas.Iterator.Adapters.{position_from-zero}
use Rattle.std.proofs.lemmas.List.{get_or-replicate}
use Rattle.std.proofs.lemmas.List.Quantifiers.{position-Some}
use Rattle.std.proofs.lemmas.Nat.{div-add-mod', div-mul-add, mod_below, mod-mul-add, mul-add-lt}
use Rattle.sixel_plane.specs.BytePlanes.{is_marked, grid_of_marks}
use Rattle.sixel_model.specs.Geometry.{covers}
use Rattle.sixel_model.specs.Grids.{FirstUnpainted, IsFirstUnpainted, blank_grid, painted_grid}
use Rattle.sixel_plane.proofs.PaintedLemmas.{blank_unpainted, none_passes, place_fits, row_below, grid_after_run}
use Rattle.sixel_model.proofs.RunLemmas.{IsRunBelow, covered_rows}

-- no mark is set
pub blank_marks : (w h : ℕ) (registers : List ℕ) (marks : List Bool) → 0 < w → marks ≡ replicate (w * h) false
    → grid_of_marks w h registers marks ≡ blank_grid w h
blank_marks w h registers marks some blank =
    blank_unpainted w h registers (is_marked w marks) some
    (λ x y inside_x inside_y.
    ap (λ (l : List Bool). get_or l (y * w + x) false) blank
    ∙ get_or-replicate (w * h) (y * w + x) false false (place_fits w h x y inside_x inside_y))

-- ---- the first pixel without a mark

unmarked_at : (w h : ℕ) (marks : List Bool) (i : ℕ) → 0 < w → length marks ≡ w * h → position not marks ≡ Some i
    → IsFirstUnpainted w h (is_marked w marks) (i % w, i / w)
unmarked_at w h marks i some whole found =
    let first = position-Some not marks i false found in
    let place : i / w * w + i % w ≡ i = div-add-mod' i w in
    let marked : (k : ℕ) → k < i → get_or marks k false ≡ true = λ k lt. not-false _ (first.2 k lt) in
    record {
      inside_x = mod_below i w some;
      inside_y = row_below i w h some (rw (← whole) first.0);
      unpainted = rw place (not-true _ first.1);
      rows_before = λ x y inside above. marked (y * w + x)
          (omega (arith, mul-add-lt y w x (i / w) above inside, mul_comm w (i / w), place));
      columns_before = λ x before. marked (i / w * w + x) (omega arith);
    }

-- the pixel of the first unset mark is the first unpainted one
pub first_unmarked : (w h : ℕ) (marks : List Bool) (found : Option ℕ) → 0 < w → length marks ≡ w * h
    → found ≡ position not marks → FirstUnpainted w h (is_marked w marks) (option_map (λ i. (i % w, i / w)) found)
first_unmarked w h marks (Some i) some whole found = unmarked_at w h marks i some whole (sym found)
first_unmarked w h marks None some whole none = λ x y inside above.
    not-false _ (none_passes not 0 marks false (sym (position_from-zero not marks) ∙ sym none) (y * w + x)
    (rw whole (place_fits w h x y inside above)))

-- ---- painting

either : (t b : Bool) → cond t true b ≡ (t || b)
either true b = refl
either false b = refl

-- the grid after a run
pub painted_marks : (w h left count band bits register : ℕ) (registers registers_after : List ℕ)
    (marks marks_after : List Bool) → 0 < w → length registers ≡ w * h → length marks ≡ w * h
    → IsRunBelow 6 w left count band bits register 0 registers registers_after
    → IsRunBelow 6 w left count band bits true false marks marks_after
    → grid_of_marks w h registers_after marks_after
    ≡ painted_grid (grid_of_marks w h registers marks) left band count bits register
painted_marks w h left count band bits register registers registers_after marks marks_after
    some whole whole_marks written marked =
    grid_after_run w h left count band bits register registers registers_after (is_marked w marks)
    (is_marked w marks_after) some whole
    (λ x y inside_x inside_y.
    let before : Bool = get_or marks (y * w + x) false in
    covered_rows w left count band bits true false marks marks_after marked (y * w + x)
    (rw whole_marks (place_fits w h x y inside_x inside_y))
    ∙ ap₂ (λ a b. cond (covers left count band 1 bits a b) true before) (mod-mul-add y w x inside_x)
    (div-mul-add y w x inside_x)
    ∙ either (covers left count band 1 bits x y) before)
    (covered_rows w left count band bits register 0 registers registers_after written)
