-- The covered pixels after one more event.
use Rattle.std.proofs.Common.{◌≡◌, ◌<◌, ◌≤◌, ◌+◌, ◌-◌, ◌*◌, ◌/◌, ◌%◌, ◌^◌, ◌&&◌, ◌||◌, ℕ, suc, Bool, true, false, not}
use Rattle.std.proofs.Common.{min, Option, Some, None, List, [], ◌∷◌, ◌++◌, length, get_or, take, refl, sym, ap, ap₂}
use Rattle.std.proofs.Common.{subst}
use Rattle.std.proofs.Common.{◌∙◌, arith, map, cond, zero, ◌⊎◌, inl, inr}
use Rattle.std.specs.Prelude.{IsSomeAnd, IsTrue, bit_and, count_by, filter, is_none, is_some, nat_le, slice_get}
use Rattle.std.specs.Prelude.{unwrap_or, if◌then◌else◌}
use Rattle.std.specs.Int.{bit_at}
use Rattle.std.specs.List.{position_from, range_with_len}
use Rattle.std.specs.Option.{option_flatten, option_map_or, option_or}
use Rattle.std.proofs.lemmas.Bool.{agree_below_at, leb-true}
use Rattle.std.proofs.lemmas.Nat.Bits.{bit_at-lt, bit_at-zero, bit_at_and, bit_at_ones, bit_at_ones_above}
use Rattle.std.proofs.lemmas.Bool.{and_from, and_parts, false_from_ne_true, not-false, not-true, or_parts}
use Rattle.std.proofs.lemmas.List.Sums.{length-filter}
use Rattle.std.proofs.lemmas.Nat.{div-add-mod', div-mul-add, mod-mul-add, mod_below, mul-lt, row_fits}
use Rattle.std.proofs.lemmas.Option.{slice_get_within}
use Rattle.sixel_grammar.specs.declared.command.Command.TheVariants.{Raster}
use Rattle.sixel_grammar.specs.declared.command.Event.{Event}
use Rattle.sixel_grammar.specs.declared.command.Event.TheVariants.{Step}
use Rattle.sixel_model.specs.Events.{Attributes, bits_of, columns_of, has_sides, is_painting, raster_of}
use Rattle.sixel_model.specs.Geometry.{band, column, covers, falls, touches}
use Rattle.sixel_model.specs.Grids.{Grid, blank_grid, cell, first_blank, painted_grid, row_by_row}
use Rattle.sixel_model.specs.Pictures.{is_side}
use Rattle.sixel_model.specs.Positions.{any_at, earliest, passes_at}
use Rattle.sixel_model.specs.Rules.{breaks_box_size, is_covered, raster_before}
use Rattle.sixel_model.proofs.CoverLemmas.{any_below_at, covers_under, idle_covered, lies_under}
use Rattle.sixel_model.proofs.FirstLemmas.{earliest_all}
use Rattle.sixel_model.proofs.GridLemmas.{cell-blank_grid, cell-painted_grid, length_rows}
use Rattle.sixel_model.proofs.LastLemmas.{passes_there}
use Rattle.sixel_model.proofs.RunLemmas.{same_test}
use Rattle.sixel_model.proofs.StepLemmas.{covered_push, raster_push}
use Rattle.sixel_model.proofs.PositionLemmas.{option_or_none}
use Rattle.sixel_plane.proofs.PaintedLemmas.{none_from_map, none_passes, row_below}
use Rattle.sixel_judge.specs.Verdicts.{capped}
use Rattle.sixel_judge.proofs.BlankLemmas.{some_width}
use Rattle.sixel_judge.proofs.DrawLemmas.{falls_paints, sides}
use Rattle.sixel_judge.specs.Counting.{has_box, paints_early}
use Rattle.sixel_survey.specs.Counting.{blanks}
use Rattle.sixel_judge.specs.Covering.{IsCoverOf}
use Rattle.sixel_survey.specs.Covering.{AreCells, IsCoveredBy, blank_cells, blank_cells_in_row}
use Rattle.sixel_judge.proofs.NotesLemmas.{early_push}
use Rattle.sixel_survey.proofs.TallyLemmas.{kept_last, range_agree}
use Rattle.sixel_judge.proofs.TellLemmas.{Passes, passes_somewhere}
use Rattle.sixel_judge.proofs.OptionLemmas.{none_is}

-- ---- before the box is declared

-- if no command painted, no point is covered
pub early_item : (before : List Event)
    (p : Passes (λ earlier e. is_painting e && is_none (raster_before earlier)) before) → paints_early before ≡ true
unfolding paints_early any_at
early_item before p =
    let test = λ (earlier : List Event) (e : Event). is_painting e && is_none (raster_before earlier) in
    any_below_at (length before) p.at (passes_at test before) (slice_get_within before p.at p.item p.here)
    (passes_there test before p.at p.item p.here ∙ p.passes)

no_box_before : (at : ℕ) (before : List Event) (o : Option Attributes) → raster_before (take at before) ≡ o
    → raster_before before ≡ None → is_none o ≡ true
unfolding raster_before
no_box_before at before None is none = refl
no_box_before at before (Some a) is none =
    let some : earliest raster_of before ≡ Some a = earliest_all raster_of at before a is in cc

pub nothing_covered : (before : List Event) (x y : ℕ) → raster_before before ≡ None → paints_early before ≡ false
    → is_covered before x y ≡ false
unfolding is_covered
nothing_covered before x y none late = false_from_ne_true (any_at (λ earlier e. falls earlier e x y) before) (λ is.
    let p : Passes (λ earlier e. falls earlier e x y) before = passes_somewhere _ before is in
    let paints : is_painting p.item ≡ true = falls_paints (take p.at before) p.item x y p.passes in
    let bare : is_none (raster_before (take p.at before)) ≡ true =
    no_box_before p.at before (raster_before (take p.at before)) refl none in
    let early : paints_early before ≡ true =
    early_item before (record {
      at = p.at;
      item = p.item;
      here = p.here;
      passes = and_from (is_painting p.item) (is_none (raster_before (take p.at before))) paints bare;
    }) in
    cc)

no_bits : (e : Event) (a : Attributes) → raster_of e ≡ Some a → bits_of e % 64 ≡ 0
no_bits e a is = of_event e is
  where
    of_event : (e : Event) → raster_of e ≡ Some a → bits_of e % 64 ≡ 0
    of_event (Step (Raster pan pad width height)) h = refl
    of_event _ h = cc

-- a command that paints early stays one
late_before : (before : List Event) (e : Event) → paints_early (before ++ e ∷ []) ≡ false → paints_early before ≡ false
late_before before e late =
    (or_parts (is_painting e && is_none (raster_before before)) (paints_early before)
    (sym (early_push before e) ∙ late)).1

-- the first raster attributes, with both sides in range
pub cover_first : (before : List Event) (e : Event) (a : Attributes) → raster_before before ≡ None
    → raster_of e ≡ Some a → has_sides a ≡ true → IsCoverOf (blank_grid a.width a.height) (before ++ e ∷ [])
unfolding blank_grid
cover_first before e a none is sides =
    let parts = and_parts (is_side a.width) (is_side a.height) sides in
    record {
      box = a;
      box_is = raster_push before e ∙ ap₂ option_or none is;
      width_is = refl;
      height_is = refl;
      width = parts.0;
      height = parts.1;
      pixels = length_rows a.width a.height _;
      covered = λ late x y p q.
          let bare : cell (blank_grid a.width a.height) x y ≡ None = cell-blank_grid a.width a.height x y p q in
          ap is_some bare
          ∙ sym (idle_covered before e x y (no_bits e a is)
          ∙ nothing_covered before x y none (late_before before e late));
    }

-- ---- without a box in range

-- a box out of range stays
pub uncovered_stays : (before : List Event) (e : Event) → is_some (raster_before before) ≡ true
    → has_box before ≡ false → has_box (before ++ e ∷ []) ≡ false
uncovered_stays before e some none =
    ap (λ (o : Option Attributes). option_map_or has_sides o false)
    (raster_push before e ∙ first_stays (raster_before before) (raster_of e) some)
    ∙ none
  where
    first_stays : (o p : Option Attributes) → is_some o ≡ true → option_or o p ≡ o
    first_stays (Some a) p some = refl
    first_stays None p some = cc

-- the event declares no box in range
pub uncovered_next : (before : List Event) (e : Event) → raster_before before ≡ None
    → option_map_or has_sides (raster_of e) false ≡ false → has_box (before ++ e ∷ []) ≡ false
uncovered_next before e none wrong =
    ap (λ (o : Option Attributes). option_map_or has_sides o false)
    (raster_push before e ∙ ap (λ (o : Option Attributes). option_or o (raster_of e)) none)
    ∙ wrong

pub wrong_sides : (e : Event) → breaks_box_size e ≡ true → option_map_or has_sides (raster_of e) false ≡ false
unfolding breaks_box_size
wrong_sides e broken = of_raster (raster_of e) broken
  where
    of_raster : (o : Option Attributes) → option_map_or (λ a. not (has_sides a)) o false ≡ true
        → option_map_or has_sides o false ≡ false
    of_raster None h = cc
    of_raster (Some a) h = not-true (has_sides a) h

pub right_sides : (e : Event) (a : Attributes) → raster_of e ≡ Some a → breaks_box_size e ≡ false → has_sides a ≡ true
unfolding breaks_box_size
right_sides e a is fine = not-false (has_sides a) (rw is at fine)

-- raster attributes of this size, with both sides in range
pub record DeclaresSides (e : Event) (w h : ℕ) : Type 0 where
  pub box : Attributes
  pub is : raster_of e ≡ Some box
  pub width_is : box.width ≡ w
  pub height_is : box.height ≡ h
  pub in_range : has_sides box ≡ true

pub declares_sides : (e : Event) (w h : ℕ)
    → sides (raster_of e) ≡ Some (w, h) → breaks_box_size e ≡ false → DeclaresSides e w h
declares_sides e w h is fine = of_raster (raster_of e) refl is
  where
    of_raster : (o : Option Attributes) → raster_of e ≡ o
        → sides o ≡ Some (w, h) → DeclaresSides e w h
    of_raster None at k = cc
    of_raster (Some a) at k = record {
      box = a;
      is = at;
      width_is = ap (λ (o : Option (ℕ × ℕ)). (unwrap_or o (0, 0)).0) k;
      height_is = ap (λ (o : Option (ℕ × ℕ)). (unwrap_or o (0, 0)).1) k;
      in_range = right_sides e a at fine;
    }

pub declared_in_range : {e : Event} {w h : ℕ} → DeclaresSides e w h → IsTrue (is_side w) × IsTrue (is_side h)
declared_in_range d =
    let parts = and_parts (is_side d.box.width) (is_side d.box.height) d.in_range in (
      subst (λ (n : ℕ). IsTrue (is_side n)) d.width_is parts.0,
      subst (λ (n : ℕ). IsTrue (is_side n)) d.height_is parts.1,
    )

pub sides_told : {e : Event} {w h : ℕ} → DeclaresSides e w h → IsSomeAnd (raster_of e) (λ a. IsTrue (has_sides a))
sides_told d = rw d.is d.in_range

pub cover_declared : (before : List Event) {e : Event} {w h : ℕ} → raster_before before ≡ None → DeclaresSides e w h
    → IsCoverOf (blank_grid w h) (before ++ e ∷ [])
cover_declared before {e} {h} none d =
    subst (λ (n : ℕ). IsCoverOf (blank_grid n h) (before ++ e ∷ [])) d.width_is
    (subst (λ (n : ℕ). IsCoverOf (blank_grid d.box.width n) (before ++ e ∷ [])) d.height_is
    (cover_first before e d.box none d.is d.in_range))

pub none_declared : (o : Option Attributes) → is_some o ≡ false → o ≡ None
none_declared None h = refl
none_declared (Some a) h = cc

-- an event that isn't raster attributes declares no box
pub no_raster_stays : (before : List Event) (e : Event) → is_some (raster_of e) ≡ false → has_box before ≡ false
    → has_box (before ++ e ∷ []) ≡ false
no_raster_stays before e other none =
    ap (λ (o : Option Attributes). option_map_or has_sides o false)
    (raster_push before e ∙ ap (option_or (raster_before before)) (none_declared (raster_of e) other)
    ∙ option_or_none (raster_before before))
    ∙ none

-- ---- a run

-- the lowest bits of a band
pub few_lowest : (rows : ℕ) → rows ≤ 6 → 2 ^ rows - 1 ≤ 63
few_lowest rows le =
    leb-true (2 ^ rows - 1) 63 (agree_below_at (λ r. nat_le (2 ^ r - 1) 63) (λ r. true) 7 rows refl (omega (arith, le)))

pub low_bit : (bits rows k : ℕ) → k < rows → bit_at (bit_and bits (2 ^ rows - 1)) k ≡ bit_at bits k
low_bit bits rows k lt =
    let same = bit_at_and bits (2 ^ rows - 1) k in
    omega (arith, same, bit_at_ones rows k lt, bit_at-lt bits k)

pub no_high_bit : (bits rows k : ℕ) → rows ≤ k → bit_at (bit_and bits (2 ^ rows - 1)) k ≡ 0
no_high_bit bits rows k le =
    let same = bit_at_and bits (2 ^ rows - 1) k in
    omega (arith, same, bit_at_ones_above rows k le)

-- the column and the band of a run, capped
pub record IsRun (column band left line : ℕ) : Type 0 where
  pub column_is : column ≡ capped left
  pub band_is : band ≡ capped line

-- a run that begins right of the grid or below it covers none of its points
pub outside_covers : {left line : ℕ} (count bits : ℕ) {column band : ℕ} (width height x y : ℕ)
    → IsRun column band left line → width < 4294967296 → height < 4294967296 → (width ≤ column) ⊎ (height ≤ band)
    → x < width → y < height → covers left count line 1 bits x y ≡ false
outside_covers {left} {line} count bits {column} {band} width height x y r narrow low out p q =
    false_from_ne_true (covers left count line 1 bits x y) (λ is.
    let u = lies_under left count line bits x y is in
    let row : y ≡ 6 * line + u.bit = u.row in
    let from : left ≤ x = u.from in
    let column_is : column ≡ min left 18446744073709551615 = r.column_is in
    let band_is : band ≡ min line 18446744073709551615 = r.band_is in
    elim out [
      | inl right ↦ omega (arith, right, column_is, from, p, narrow)
      | inr below ↦ omega (arith, below, band_is, row, q, low)
    ])

-- a run that begins in the grid covers the same points of it as the part of it that lies in the grid
pub inside_covers : {left line : ℕ} (count bits : ℕ) {column band : ℕ} (width height part x y : ℕ)
    → IsRun column band left line → width < 4294967296 → height < 4294967296 → column < width → band < height
    → ((k : ℕ) → k < 6 → 6 * band + k < height → bit_at part k ≡ bit_at bits k)
    → ((k : ℕ) → k < 6 → height ≤ 6 * band + k → bit_at part k ≡ 0) → x < width → y < height
    → covers column (min count (width - column)) band 1 part x y ≡ covers left count line 1 bits x y
inside_covers {left} {line} count bits {column} {band} width height part x y r narrow low in_x in_y kept left_out p q =
    let column_is : column ≡ min left 18446744073709551615 = r.column_is in
    let band_is : band ≡ min line 18446744073709551615 = r.band_is in
    let across : column ≡ left = omega (arith, column_is, in_x, narrow) in
    let down : band ≡ line = omega (arith, band_is, in_y, low) in
    same_test (covers column (min count (width - column)) band 1 part x y) (covers left count line 1 bits x y)
    (λ is.
    let u = lies_under column (min count (width - column)) band part x y is in
    let row : y ≡ 6 * band + u.bit = u.row in
    let six : u.bit < 6 = u.below in
    let from : column ≤ x = u.from in
    let to : x < column + min count (width - column) = u.to in
    let set : bit_at bits u.bit ≡ 1 = sym (kept u.bit six (omega (arith, row, q))) ∙ u.set in
    covers_under left count line bits x y (record {
      bit = u.bit;
      below = six;
      set = set;
      row = omega (arith, row, down);
      from = omega (arith, from, across);
      to = omega (arith, to, across);
    }))
    (λ is.
    let u = lies_under left count line bits x y is in
    let row : y ≡ 6 * line + u.bit = u.row in
    let six : u.bit < 6 = u.below in
    let from : left ≤ x = u.from in
    let to : x < left + count = u.to in
    let set : bit_at part u.bit ≡ 1 = kept u.bit six (omega (arith, row, q, down)) ∙ u.set in
    covers_under column (min count (width - column)) band part x y (record {
      bit = u.bit;
      below = six;
      set = set;
      row = omega (arith, row, down);
      from = omega (arith, from, across);
      to = omega (arith, to, across, p, in_x);
    }))

-- a run that covers none of the points changes nothing
pub covered_none : (s : Grid) (left count line bits : ℕ)
    → ((x y : ℕ) → x < s.width → y < s.height → covers left count line 1 bits x y ≡ false)
    → IsCoveredBy s left count line bits s
covered_none s left count line bits none = record {
  same_width = refl;
  same_height = refl;
  pixels = λ long. long;
  covered = λ x y p q. rw (none x y p q) refl;
}

-- a run without a bit changes nothing
pub covered_blank : (s : Grid) (left count line bits : ℕ) → bits ≡ 0 → IsCoveredBy s left count line bits s
covered_blank s left count line bits blank =
    covered_none s left count line bits (λ x y p q.
    false_from_ne_true (covers left count line 1 bits x y) (λ is.
    let u = lies_under left count line bits x y is in
    let clear : bit_at bits u.bit ≡ 0 = ap (λ b. bit_at b u.bit) blank ∙ bit_at-zero u.bit in
    let set : bit_at bits u.bit ≡ 1 = u.set in
    cc))

-- the part of a run is painted, in any register
pub covered_part : (s : Grid) (left count line bits column band part_count part r : ℕ)
    → ((x y : ℕ) → x < s.width → y < s.height
    → covers column part_count band 1 part x y ≡ covers left count line 1 bits x y)
    → IsCoveredBy s left count line bits (painted_grid s column band part_count part r)
unfolding painted_grid
covered_part s left count line bits column band part_count part r same = record {
  same_width = refl;
  same_height = refl;
  pixels = λ long. length_rows s.width s.height _;
  covered = λ x y p q.
      ap is_some (cell-painted_grid s column band part_count part r x y p q)
      ∙ ap (λ (b : Bool). is_some (if b then Some r else cell s x y)) (same x y p q)
      ∙ some_if (covers left count line 1 bits x y) (cell s x y);
}
  where
    some_if : (b : Bool) (o : Option ℕ) → is_some (if b then Some r else o) ≡ (b || is_some o)
    some_if true o = refl
    some_if false o = refl

-- the covered pixels after a run of an event
pub cover_run : {s t : Grid} {before : List Event} (e : Event) → IsCoverOf s before
    → IsCoveredBy s (column 0 before) (columns_of 0 e) (band before) (bits_of e) t → IsCoverOf t (before ++ e ∷ [])
unfolding falls touches
cover_run {s} {before} e c b = record {
  box = c.box;
  box_is = raster_push before e ∙ ap (λ (o : Option Attributes). option_or o (raster_of e)) c.box_is;
  width_is = c.width_is ∙ sym b.same_width;
  height_is = c.height_is ∙ sym b.same_height;
  width = subst (λ (n : ℕ). IsTrue (is_side n)) (sym b.same_width) c.width;
  height = subst (λ (n : ℕ). IsTrue (is_side n)) (sym b.same_height) c.height;
  pixels = b.pixels c.pixels ∙ ap₂ (λ (m n : ℕ). m * n) (sym b.same_width) (sym b.same_height);
  covered = λ late x y p q.
      let in_x : x < s.width = subst (λ (n : ℕ). x < n) b.same_width p in
      let in_y : y < s.height = subst (λ (n : ℕ). y < n) b.same_height q in
      b.covered x y in_x in_y
      ∙ ap (λ (k : Bool). falls before e x y || k) (c.covered (late_before before e late) x y in_x in_y)
      ∙ sym (covered_push before e x y);
}

-- ---- the blank pixels

-- a filter of a mapped list keeps as many items as the test after the map
length_kept : {X Y : Type 0} (p : Y → Bool) (f : X → Y) (xs : List X)
    → length (filter p (map f xs)) ≡ length (filter (λ x. p (f x)) xs)
length_kept p f [] = refl
length_kept p f (x ∷ xs) = by_test (p (f x)) (length_kept p f xs)
  where
    by_test : (b : Bool) → length (filter p (map f xs)) ≡ length (filter (λ x. p (f x)) xs)
        → length (cond b (f x ∷ filter p (map f xs)) (filter p (map f xs)))
        ≡ length (cond b (x ∷ filter (λ x. p (f x)) xs) (filter (λ x. p (f x)) xs))
    by_test true h = ap suc h
    by_test false h = h

-- the count of a test with one more number
pub count_more : (p : ℕ → Bool) (i j count : ℕ) (b : Bool) → p i ≡ b → j ≡ suc i
    → count ≡ count_by p (range_with_len 0 i) → count + (if b then 1 else 0) ≡ count_by p (range_with_len 0 j)
count_more p i j count b is next same =
    omega (
      arith,
      same,
      length-filter p (range_with_len 0 i),
      length-filter p (range_with_len 0 j),
      ap (λ (n : ℕ). length (filter p (range_with_len 0 n))) next,
      kept_last p i b is,
    )

zero_more : (n : ℕ) → n + 0 ≡ n
zero_more n = omega arith

-- the count of the rows above a row, and of its first k pixels
row_count : (s : Grid) (y k : ℕ) → k ≤ s.width
    → count_by (λ i. is_none (cell s (i % s.width) (i / s.width))) (range_with_len 0 (y * s.width + k))
    ≡ count_by (λ i. is_none (cell s (i % s.width) (i / s.width))) (range_with_len 0 (y * s.width))
    + blank_cells_in_row s y k
row_count s y zero le =
    let at : y * s.width + 0 ≡ y * s.width = omega arith in
    ap (λ (n : ℕ). count_by (λ i. is_none (cell s (i % s.width) (i / s.width))) (range_with_len 0 n)) at
    ∙ sym (zero_more _)
row_count s y (suc k) le =
    let w : ℕ = s.width in
    let lt : k < w = omega (arith, le) in
    let of_cells : ℕ → Bool = λ i. is_none (cell s (i % w) (i / w)) in
    let in_row : ℕ → Bool = λ x. is_none (cell s x y) in
    let here : of_cells (y * w + k) ≡ in_row k =
    ap₂ (λ (x z : ℕ). is_none (cell s x z)) (mod-mul-add y w k lt) (div-mul-add y w k lt) in
    let next : y * w + suc k ≡ suc (y * w + k) = omega arith in
    let before = row_count s y k (omega (arith, le)) in
    let whole = count_more of_cells (y * w + k) (y * w + suc k) _ (in_row k) here next refl in
    let part = count_more in_row k (suc k) _ (in_row k) refl refl refl in
    omega (arith, whole, part, before)

next_row : (y z w : ℕ) → z ≡ suc y → y * w + w ≡ z * w
next_row y z w next = omega (arith, ap (λ (n : ℕ). n * w) next)

-- the count with one more row
pub rows_more : (s : Grid) (y z count row : ℕ) → z ≡ suc y
    → count ≡ count_by (λ i. is_none (cell s (i % s.width) (i / s.width))) (range_with_len 0 (y * s.width))
    → row ≡ blank_cells_in_row s y s.width
    → count + row ≡ count_by (λ i. is_none (cell s (i % s.width) (i / s.width))) (range_with_len 0 (z * s.width))
rows_more s y z count row next above here =
    let at : y * s.width + s.width ≡ z * s.width = next_row y z s.width next in
    ap₂ (λ (m n : ℕ). m + n) above here
    ∙ sym (row_count s y s.width (omega arith))
    ∙ ap (λ (n : ℕ). count_by (λ i. is_none (cell s (i % s.width) (i / s.width))) (range_with_len 0 n)) at

-- the count of the rows fits 64 bits
pub rows_fit : (y w h count row : ℕ) → y < h → w < 4294967296 → h < 4294967296 → count ≤ y * w → row ≤ w
    → (count + row ≤ (y + 1) * w) × (count + row < 18446744073709551616)
rows_fit y w h count row lt narrow low above here =
    let next : y + 1 ≡ suc y = omega arith in
    let at : y * w + w ≡ (y + 1) * w = next_row y (y + 1) w next in
    let room : y * w + w ≤ h * w = row_fits y w h w lt (omega arith) in
    let most : h * w < 4294967296 * 4294967296 = mul-lt h w 4294967296 4294967296 low narrow in
    (omega (arith, at, above, here), omega (arith, room, most, above, here))

-- if the search for a blank pixel finds none, there is none
pub none_blank : (s : Grid) → AreCells s → first_blank s ≡ None → blank_cells s ≡ 0
unfolding first_blank cell
none_blank s long none =
    let w : ℕ = s.width in
    let of_cells : ℕ → Bool = λ i. is_none (cell s (i % w) (i / w)) in
    let nowhere = none_from_map (λ (i : ℕ). (i % w, i / w)) (position_from is_none 0 s.cells) none in
    let agree = range_agree of_cells (λ i. false) 0 (w * s.height) (λ i low high.
    let place : i / w * w + i % w ≡ i = div-add-mod' i w in
    let lt : i < length s.cells = omega (arith, high, long) in
    ap (λ (n : ℕ). is_none (option_flatten (slice_get s.cells n))) place
    ∙ ap is_none (flat_cell s.cells i)
    ∙ none_passes is_none 0 s.cells None nowhere i lt) in
    sym (length-filter of_cells (range_with_len 0 (w * s.height))) ∙ ap length agree
    ∙ no_items (range_with_len 0 (w * s.height))
  where
    flat_cell : (cells : List (Option ℕ)) (k : ℕ) → option_flatten (slice_get cells k) ≡ get_or cells k None
    flat_cell [] k = refl
    flat_cell (c ∷ cs) zero = refl
    flat_cell (c ∷ cs) (suc k) = flat_cell cs k

    no_items : (xs : List ℕ) → length (filter (λ i. false) xs) ≡ 0
    no_items [] = refl
    no_items (x ∷ xs) = no_items xs

pub no_pixel : (o : Option (ℕ × ℕ)) → is_some o ≡ false → o ≡ None
no_pixel None h = refl
no_pixel (Some p) h = cc

-- the number of blank pixels is the number of points of the box that no event covers
pub blanks_are : {s : Grid} {events : List Event} (c : IsCoverOf s events) → paints_early events ≡ false
    → blank_cells s ≡ blanks events c.box
unfolding blanks row_by_row
blanks_are {s} {events} c late =
    let pixels : ℕ = s.width * s.height in
    let of_cells : ℕ → Bool = λ i. is_none (cell s (i % s.width) (i / s.width)) in
    let of_points : ℕ → Bool = λ i. not (is_covered events (i % s.width) (i / s.width)) in
    let agree = range_agree of_cells of_points 0 pixels (λ i low high.
    let lt : i < s.width * s.height = omega (arith, high) in
    let some : 0 < s.width = some_width s.width s.height i lt in
    none_is (cell s (i % s.width) (i / s.width))
    ∙ ap not (c.covered late (i % s.width) (i / s.width) (mod_below i s.width some)
    (row_below i s.width s.height some lt))) in
    sym (length-filter of_cells (range_with_len 0 pixels)) ∙ ap length agree ∙ by_points c.box c.width_is c.height_is
  where
    by_points : (a : Attributes) → a.width ≡ s.width → a.height ≡ s.height
        → length (filter (λ i. not (is_covered events (i % s.width) (i / s.width)))
        (range_with_len 0 (s.width * s.height)))
        ≡ length (filter (λ (p : ℕ × ℕ). not (is_covered events p.0 p.1))
        (map (λ i. (i % a.width, i / a.width)) (range_with_len 0 (a.width * a.height))))
    by_points a w h = rw (w, h)
        (sym (length_kept (λ (p : ℕ × ℕ). not (is_covered events p.0 p.1)) (λ i. (i % s.width, i / s.width))
        (range_with_len 0 (s.width * s.height))))
