-- Lists of pixels, row by row.
use Rattle.std.proofs.Common.{◌≡◌, ℕ, ◌+◌, ◌*◌, ◌/◌, ◌%◌, ◌<◌, Some, None, List, length, get_or, refl, ap, ◌∙◌, arith}
use Rattle.std.specs.Prelude.{slice_get, if◌then◌else◌}
use Rattle.std.specs.Option.{option_flatten}
use Rattle.std.proofs.lemmas.Nat.{mod-mul-add, div-mul-add, mul-add-lt}
use Rattle.std.proofs.lemmas.Option.{slice_get-get_or}
use Rattle.std.proofs.lemmas.List.FromFn.{length-map-range_with_len, get_or-map-range_with_len, fill_by_all}
use Rattle.sixel_model.specs.Geometry.{covers}
use Rattle.sixel_model.specs.Grids.{Grid, row_by_row, blank_grid, cell, painted_grid}

pub length_rows : {A : Type 0} (w h : ℕ) (f : ℕ → ℕ → A) → length (row_by_row w h f) ≡ w * h
unfolding row_by_row
length_rows w h f = length-map-range_with_len (λ i. f (i % w) (i / w)) 0 (w * h)

pub get_rows : {A : Type 0} (w h : ℕ) (f : ℕ → ℕ → A) (x y : ℕ) (d : A) → x < w → y < h
    → get_or (row_by_row w h f) (y * w + x) d ≡ f x y
unfolding row_by_row
get_rows w h f x y d p q =
    get_or-map-range_with_len (λ i. f (i % w) (i / w)) 0 (w * h) (y * w + x) (y * w + x) d
    (mul-add-lt y w x h q p) (omega arith)
    ∙ rw (mod-mul-add y w x p, div-mul-add y w x p) refl

-- the pixel at an index of a list made row by row
pub get_index : {A : Type 0} (w h : ℕ) (f : ℕ → ℕ → A) (i : ℕ) (d : A) → i < w * h
    → get_or (row_by_row w h f) i d ≡ f (i % w) (i / w)
unfolding row_by_row
get_index w h f i d lt =
    get_or-map-range_with_len (λ i. f (i % w) (i / w)) 0 (w * h) i i d lt (omega arith)

-- the pixel at x y of a list made row by row
pub at_rows : {A : Type 0} (w h : ℕ) (f : ℕ → ℕ → A) (x y : ℕ) → x < w → y < h
    → slice_get (row_by_row w h f) (y * w + x) ≡ Some (f x y)
at_rows w h f x y p q =
    let long : y * w + x < length (row_by_row w h f) = rw (length_rows w h f) (mul-add-lt y w x h q p) in
    slice_get-get_or (row_by_row w h f) (y * w + x) (f x y) long ∙ ap Some (get_rows w h f x y (f x y) p q)

-- a list with these pixels is the list made row by row
pub rows_from_index : {A : Type 0} (w h : ℕ) (f : ℕ → ℕ → A) (xs : List A) (d : A) → length xs ≡ w * h
    → ((i : ℕ) → i < w * h → get_or xs i d ≡ f (i % w) (i / w)) → xs ≡ row_by_row w h f
unfolding row_by_row
rows_from_index w h f xs d e h' = fill_by_all (λ i. f (i % w) (i / w)) xs (w * h) d e h'

-- the pixels after a run
pub cell-painted_grid : (s : Grid) (left band count bits register x y : ℕ) → x < s.width → y < s.height
    → cell (painted_grid s left band count bits register) x y
    ≡ (if covers left count band 1 bits x y then Some register else cell s x y)
unfolding cell painted_grid
cell-painted_grid s left band count bits register x y p q = ap option_flatten (at_rows s.width s.height _ x y p q)

-- the pixels of a blank plane
pub cell-blank_grid : (w h x y : ℕ) → x < w → y < h → cell (blank_grid w h) x y ≡ None
unfolding cell blank_grid
cell-blank_grid w h x y p q = ap option_flatten (at_rows w h _ x y p q)
