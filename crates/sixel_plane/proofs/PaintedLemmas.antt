-- Grids made of a register for each pixel, and of which pixels are painted.
use Rattle.std.proofs.Common.{◌≡◌, ℕ, zero, suc, ◌+◌, ◌*◌, ◌/◌, ◌%◌, ◌<◌, Bool, true, false, ◌||◌, cond, Option, Some}
use Rattle.std.proofs.Common.{None, List, [], ◌∷◌, length, get_or, map, nat_lt, inl, inr, refl, sym, ap, ap₂, ◌∙◌}
use Rattle.std.proofs.Common.{arith, mul_comm}
use Rattle.std.specs.Prelude.{is_none}
use Rattle.std.specs.List.{position_from}
use Rattle.std.specs.Option.{option_flatten, option_map}
use Rattle.std.proofs.lemmas.Bool.{cases_lt, le-ltb, lt-ltb}
use Rattle.std.proofs.lemmas.Iterator.Adapters.{position_from-zero}
use Rattle.std.proofs.lemmas.List.{get_or-map, length-map}
use Rattle.std.proofs.lemmas.List.Sums.{position_or_len_is}
use Rattle.std.proofs.lemmas.Nat.{div-add-mod', div_below, mod_below, div-mul-add, mod-mul-add, mul-add-lt}
use Rattle.sixel_model.specs.Geometry.{covers}
use Rattle.sixel_model.specs.Grids.{IsFirstUnpainted, IsFull, FirstUnpainted, RowsArePainted, blank_grid, cell}
use Rattle.sixel_model.specs.Grids.{first_blank, painted_cell, painted_grid, row_by_row, grid_of_painted}
use Rattle.sixel_model.proofs.GridLemmas.{length_rows, get_index, at_rows, rows_from_index}

-- ---- indices

pub row_below : (i w h : ℕ) → 0 < w → i < w * h → i / w < h
row_below i w h some lt = div_below i w h some (omega (arith, mul_comm w h))

pub place_fits : (w h x y : ℕ) → x < w → y < h → y * w + x < w * h
place_fits w h x y inside_x inside_y = mul-add-lt y w x h inside_y inside_x

-- two lists with the same pixels
pub same_rows : {A : Type 0} (w h : ℕ) (f g : ℕ → ℕ → A) (d : A) → 0 < w
    → ((x y : ℕ) → x < w → y < h → f x y ≡ g x y) → row_by_row w h f ≡ row_by_row w h g
same_rows w h f g d some same =
    rows_from_index w h g (row_by_row w h f) d (length_rows w h f)
    (λ i lt. get_index w h f i d lt ∙ same (i % w) (i / w) (mod_below i w some) (row_below i w h some lt))

-- ---- blank and painted pixels

pub cell_of_painted : (w h : ℕ) (registers : List ℕ) (is_painted : ℕ → ℕ → Bool) (x y : ℕ) → x < w → y < h
    → cell (grid_of_painted w h registers is_painted) x y ≡ painted_cell w registers is_painted x y
unfolding cell
cell_of_painted w h registers is_painted x y inside_x inside_y =
    ap option_flatten (at_rows w h (painted_cell w registers is_painted) x y inside_x inside_y)

-- if no pixel is painted, the grid is blank
pub blank_unpainted : (w h : ℕ) (registers : List ℕ) (is_painted : ℕ → ℕ → Bool) → 0 < w
    → ((x y : ℕ) → x < w → y < h → is_painted x y ≡ false)
    → grid_of_painted w h registers is_painted ≡ blank_grid w h
unfolding blank_grid
blank_unpainted w h registers is_painted some none =
    ap (λ (cells : List (Option ℕ)). record { width = w; height = h; cells = cells })
    (same_rows w h (painted_cell w registers is_painted) (λ x y. None) None some
    (λ x y inside_x inside_y.
    ap (λ t. cond t (Some (get_or registers (y * w + x) 0)) None) (none x y inside_x inside_y)))

-- a newly painted pixel over an old one
over : (t b : Bool) (r o : ℕ)
    → cond (t || b) (Some (cond t r o)) None ≡ cond t (Some r) (cond b (Some o) None)
over true b r o = refl
over false b r o = refl

-- painting sets the covered pixels to the register, and keeps the others
pub pixels_after : (w h register : ℕ) (old new : List ℕ) (is_over was_painted is_painted : ℕ → ℕ → Bool)
    → 0 < w → ((x y : ℕ) → x < w → y < h → is_painted x y ≡ (is_over x y || was_painted x y))
    → ((x y : ℕ) → x < w → y < h
    → get_or new (y * w + x) 0 ≡ cond (is_over x y) register (get_or old (y * w + x) 0))
    → row_by_row w h (painted_cell w new is_painted)
    ≡ row_by_row w h
    (λ x y. cond (is_over x y) (Some register) (cell (grid_of_painted w h old was_painted) x y))
pixels_after w h register old new is_over was_painted is_painted some painted written =
    same_rows w h (painted_cell w new is_painted)
    (λ x y. cond (is_over x y) (Some register) (cell (grid_of_painted w h old was_painted) x y))
    None some
    (λ x y inside_x inside_y.
    let t : Bool = is_over x y in
    ap₂ (λ (b : Bool) n. cond b (Some n) None) (painted x y inside_x inside_y) (written x y inside_x inside_y)
    ∙ over t (was_painted x y) register (get_or old (y * w + x) 0)
    ∙ ap (λ (o : Option ℕ). cond t (Some register) o)
    (sym (cell_of_painted w h old was_painted x y inside_x inside_y)))

-- the grid after a run, which marks the pixels that it covers and sets their register
pub grid_after_run : (w h left count band bits register : ℕ) (old new : List ℕ) (was_painted is_painted : ℕ → ℕ → Bool)
    → 0 < w → length old ≡ w * h
    → ((x y : ℕ) → x < w → y < h → is_painted x y ≡ (covers left count band 1 bits x y || was_painted x y))
    → ((i : ℕ) → i < length old
    → get_or new i 0 ≡ cond (covers left count band 1 bits (i % w) (i / w)) register (get_or old i 0))
    → grid_of_painted w h new is_painted
    ≡ painted_grid (grid_of_painted w h old was_painted) left band count bits register
unfolding painted_grid
grid_after_run w h left count band bits register old new was_painted is_painted some whole painted written =
    ap (λ (cells : List (Option ℕ)). record { width = w; height = h; cells = cells })
    (pixels_after w h register old new (covers left count band 1 bits) was_painted is_painted some painted
    (λ x y inside_x inside_y.
    written (y * w + x) (rw whole (place_fits w h x y inside_x inside_y))
    ∙ ap₂ (λ a b. cond (covers left count band 1 bits a b) register (get_or old (y * w + x) 0))
    (mod-mul-add y w x inside_x) (div-mul-add y w x inside_x)))

-- ---- positions in a list

-- the first item that passes
position_is : {A : Type 0} (p : A → Bool) (xs : List A) (d : A) (i : ℕ) → i < length xs
    → p (get_or xs i d) ≡ true → ((k : ℕ) → k < i → p (get_or xs k d) ≡ false) → position_from p 0 xs ≡ Some i
position_is p xs d i lt here before =
    sym (position_from-zero p xs)
    ∙ ap (λ n. cond (nat_lt n (length xs)) (Some n) None)
    (position_or_len_is p xs i d (omega arith) before (λ _. here))
    ∙ ap (λ t. cond t (Some i) None) (lt-ltb i (length xs) lt)

-- no item passes
position_none : {A : Type 0} (p : A → Bool) (xs : List A) (d : A)
    → ((k : ℕ) → k < length xs → p (get_or xs k d) ≡ false) → position_from p 0 xs ≡ None
position_none p xs d none =
    sym (position_from-zero p xs)
    ∙ ap (λ n. cond (nat_lt n (length xs)) (Some n) None)
    (position_or_len_is p xs (length xs) d (omega arith) none (λ lt. absurd (omega arith)))
    ∙ ap (λ t. cond t (Some (length xs)) None) (le-ltb (length xs) (length xs) (omega arith))

none_step : {A : Type 0} (p : A → Bool) (n : ℕ) (x : A) (xs : List A) (d : A) (t : Bool) → p x ≡ t
    → cond t (Some n) (position_from p (n + 1) xs) ≡ None
    → (position_from p (n + 1) xs ≡ None → (k : ℕ) → k < length xs → p (get_or xs k d) ≡ false)
    → (k : ℕ) → k < suc (length xs) → p (get_or (x ∷ xs) k d) ≡ false
none_step p n x xs d true e none more k lt = cc
none_step p n x xs d false e none more zero lt = e
none_step p n x xs d false e none more (suc k) lt = more none k (omega arith)

-- if the search finds none, no item passes
pub none_passes : {A : Type 0} (p : A → Bool) (n : ℕ) (xs : List A) (d : A) → position_from p n xs ≡ None
    → (k : ℕ) → k < length xs → p (get_or xs k d) ≡ false
none_passes p n [] d none k lt = absurd (omega arith)
none_passes p n (x ∷ xs) d none k lt =
    none_step p n x xs d (p x) refl none (none_passes p (n + 1) xs d) k (omega arith)

pub none_from_map : {A B : Type 0} (f : A → B) (o : Option A) → option_map f o ≡ None → o ≡ None
none_from_map f None e = refl
none_from_map f (Some x) e = cc

-- ---- the first blank pixel, and grids without one

-- the pixels before a pixel are those of the rows above, and those on its left
before_pixel : (w h : ℕ) (is_painted : ℕ → ℕ → Bool) (x y k : ℕ) → 0 < w → IsFirstUnpainted w h is_painted (x, y)
    → k < y * w + x → is_painted (k % w) (k / w) ≡ true
before_pixel w h is_painted x y k some first lt =
    let column : k % w < w = mod_below k w some in
    let place : k / w * w + k % w ≡ k = div-add-mod' k w in
    let inside : x < w = first.inside_x in
    let next : (y + 1) * w ≡ y * w + w = omega arith in
    let row : k / w < y + 1 = div_below k w (y + 1) some (omega arith) in
    elim (cases_lt (k / w) y) [
      | inl above ↦ first.rows_before (k % w) (k / w) column above
      | inr here ↦
          let same : k / w ≡ y = omega (arith, row, here) in
          let line : k / w * w ≡ y * w = ap (λ n. n * w) same in
          ap (is_painted (k % w)) same ∙ first.columns_before (k % w) (omega (arith, place, line, lt))
    ]

none_found : (w h : ℕ) (registers : List ℕ) (is_painted : ℕ → ℕ → Bool) → 0 < w → RowsArePainted w is_painted h
    → None ≡ first_blank (grid_of_painted w h registers is_painted)
unfolding first_blank
none_found w h registers is_painted some painted =
    let pixel = painted_cell w registers is_painted in
    ap (option_map (λ i. (i % w, i / w)))
    (sym (position_none is_none (row_by_row w h pixel) None
    (λ k lt.
    let inside : k < w * h = rw (← length_rows w h pixel) lt in
    ap is_none (get_index w h pixel k None inside)
    ∙ ap (λ t. is_none (cond t (Some (get_or registers (k / w * w + k % w) 0)) None))
    (painted (k % w) (k / w) (mod_below k w some) (row_below k w h some inside)))))

pixel_found : (w h x y : ℕ) (registers : List ℕ) (is_painted : ℕ → ℕ → Bool) → 0 < w
    → IsFirstUnpainted w h is_painted (x, y) → Some (x, y) ≡ first_blank (grid_of_painted w h registers is_painted)
unfolding first_blank
pixel_found w h x y registers is_painted some first =
    let pixel = painted_cell w registers is_painted in
    let inside : y * w + x < w * h = place_fits w h x y first.inside_x first.inside_y in
    let column : (y * w + x) % w ≡ x = mod-mul-add y w x first.inside_x in
    let row : (y * w + x) / w ≡ y = div-mul-add y w x first.inside_x in
    let found : position_from is_none 0 (row_by_row w h pixel) ≡ Some (y * w + x) =
    position_is is_none (row_by_row w h pixel) None (y * w + x) (rw (length_rows w h pixel) inside)
    (ap is_none (get_index w h pixel (y * w + x) None inside)
    ∙ ap (λ t. is_none (cond t (Some (get_or registers ((y * w + x) / w * w + (y * w + x) % w) 0)) None))
    (ap₂ is_painted column row ∙ first.unpainted))
    (λ k lt.
    ap is_none (get_index w h pixel k None (omega (arith, inside, lt)))
    ∙ ap (λ t. is_none (cond t (Some (get_or registers (k / w * w + k % w) 0)) None))
    (before_pixel w h is_painted x y k some first lt)) in
    ap₂ (λ a b. Some (a, b)) (sym column) (sym row)
    ∙ sym (ap (option_map (λ i. (i % w, i / w))) found)

-- the first unpainted pixel is the first blank one
pub first_blank_unpainted : (w h : ℕ) (registers : List ℕ) (is_painted : ℕ → ℕ → Bool) (found : Option (ℕ × ℕ)) → 0 < w
    → FirstUnpainted w h is_painted found → found ≡ first_blank (grid_of_painted w h registers is_painted)
first_blank_unpainted w h registers is_painted None some painted = none_found w h registers is_painted some painted
first_blank_unpainted w h registers is_painted (Some (x, y)) some first =
    pixel_found w h x y registers is_painted some first

some_painted : (t : Bool) (r : ℕ) → is_none (cond t (Some r) None) ≡ false → Some r ≡ cond t (Some r) None
some_painted true r e = refl
some_painted false r e = cc

-- if no pixel is blank, the registers are all of the grid's cells
pub full_registers : (w h : ℕ) (registers : List ℕ) (is_painted : ℕ → ℕ → Bool) → length registers ≡ w * h
    → IsFull (grid_of_painted w h registers is_painted)
    → map (λ r. Some r) registers ≡ row_by_row w h (painted_cell w registers is_painted)
unfolding first_blank
full_registers w h registers is_painted whole full =
    let pixel = painted_cell w registers is_painted in
    let none : position_from is_none 0 (row_by_row w h pixel) ≡ None =
    none_from_map (λ i. (i % w, i / w)) _ full in
    rows_from_index w h pixel (map (λ r. Some r) registers) None (length-map registers (λ r. Some r) ∙ whole)
    (λ i lt.
    let long : i < length (row_by_row w h pixel) = rw (length_rows w h pixel) lt in
    let inside : i < length registers = rw whole lt in
    let place : i / w * w + i % w ≡ i = div-add-mod' i w in
    let painted : is_none (pixel (i % w) (i / w)) ≡ false =
    ap is_none (sym (get_index w h pixel i None lt))
    ∙ none_passes is_none 0 (row_by_row w h pixel) None none i long in
    get_or-map (λ r. Some r) registers i 0 None inside
    ∙ ap (λ n. Some (get_or registers n 0)) (sym place)
    ∙ some_painted (is_painted (i % w) (i / w)) (get_or registers (i / w * w + i % w) 0) painted)
