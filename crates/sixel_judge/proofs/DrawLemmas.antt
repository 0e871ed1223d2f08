-- On the drawing of an event that breaks no rule.
use Rattle.std.proofs.Common.{not, ◌≡◌, ◌≢◌, ◌==◌, ◌&&◌, ◌+◌, ◌%◌, ℕ, ◌<◌, ◌≤◌, true, false, Option, Some, None}
use Rattle.std.proofs.Common.{IsTrue, IsFalse, List, [], ◌∷◌, ◌++◌, arith, sym, ◌∙◌, ap, refl, ◌||◌}
use Rattle.std.specs.Prelude.{is_none, nat_le, unwrap_or}
use Rattle.std.specs.Option.{option_map, option_map_or}
use Rattle.std.proofs.lemmas.Bool.{and_parts, eqb-true, eqb-false, false_from_ne_true, leb-true, not-false, not-true}
use Rattle.std.proofs.lemmas.Bool.{not_from_false, or_parts}
use Rattle.sixel_grammar.specs.Spelling.{IsSpellable}
use Rattle.sixel_grammar.specs.declared.command.Command.TheVariants.{Sixel, Repeat}
use Rattle.sixel_grammar.specs.declared.command.Event.{Event}
use Rattle.sixel_grammar.specs.declared.command.Event.TheVariants.{Step}
use Rattle.sixel_model.specs.Events.{Attributes, bits_of, columns_of, has_sides}
use Rattle.sixel_model.specs.Events.{is_data_command, is_finish, is_painting, is_return, is_square, raster_of}
use Rattle.sixel_model.specs.Pictures.{is_side, most_side}
use Rattle.sixel_model.specs.Geometry.{band, column, falls, touches}
use Rattle.sixel_model.specs.Rules.{BreaksOutside, breaks_box_size, breaks_raster_first, breaks_ratio}
use Rattle.sixel_model.specs.Rules.{breaks_repeat_zero, breaks_unselected, known}
use Rattle.sixel_model.specs.Grids.{Grid, blank_grid, painted_grid}
use Rattle.sixel_model.proofs.CoverLemmas.{idle_falls}
use Rattle.sixel_judge.specs.declared.notes.Notes.{Notes}
use Rattle.sixel_judge.specs.Judging.{BreaksNoRule, IsDrawn, IsUndrawn}
use Rattle.sixel_judge.specs.Outside.{PaintsOutside}
use Rattle.sixel_judge.specs.Notes.{IsNotesAfter, known_in}
use Rattle.sixel_judge.proofs.BlankLemmas.{small}
use Rattle.sixel_judge.proofs.DrawnLemmas.{drawn_first, drawn_idle, undrawn_push}
use Rattle.sixel_judge.proofs.NotesLemmas.{known_is}
use Rattle.sixel_judge.proofs.RunLemmas.{RunFits, run_fits, drawn_capped}
use Rattle.sixel_judge.proofs.UnbrokenLemmas.{keeps}

-- ---- a painting command

pub has_columns : (e : Event) → IsFalse (breaks_repeat_zero e) → is_painting e ≡ true → 0 < columns_of 0 e
unfolding breaks_repeat_zero
has_columns (Step (Sixel bits)) h p = omega arith
has_columns (Step (Repeat count bits)) h p =
    let some : count ≢ 0 = eqb-false count 0 h in
    rw h (omega (arith, some))
has_columns _ h p = cc

pub few_bits : (e : Event) → IsSpellable e → bits_of e ≤ 63
few_bits (Step (Sixel bits)) h = h
few_bits (Step (Repeat count bits)) h = h
few_bits _ h = omega arith

-- no point of the event's run lies outside the box of the grid
inside_alone : {kept : ℕ → ℕ} (s : Grid) (before : List Event) (e : Event) → IsDrawn kept s before → ¬ BreaksOutside before e
    → (x y : ℕ) → PaintsOutside (column 0 before) (columns_of 0 e) (band before) (bits_of e) s.width s.height x y → ⊥
unfolding BreaksOutside falls touches
inside_alone s before e d none x y p = none (rw d.box (x, y, record { painted = p.painted; outside = p.outside }))

-- the plane can paint the run
pub run_fits_in : (registers : ℕ) {kept : ℕ → ℕ} {n : Notes} {s : Grid} {before : List Event} (e : Event)
    → IsNotesAfter n before → IsDrawn kept s before → BreaksNoRule registers before e → IsSpellable e
    → is_painting e ≡ true → RunFits n.column n.band (columns_of 0 e) (bits_of e) s.width s.height
run_fits_in registers {n} {s} {before} e a d none spellable paints =
    let k = keeps before e none in
    let real = run_fits (column 0 before) (band before) (columns_of 0 e) (bits_of e) s.width s.height
    (inside_alone s before e d k.outside) (has_columns e k.repeat_zero paints) (few_bits e spellable)
    (λ none. eqb-false _ _ (not-true _ paints) (ap (λ (n : ℕ). n % 64) none)) in
    let narrow = small s.width d.width in
    let low = small s.height d.height in
    let column_fits : column 0 before + columns_of 0 e ≤ s.width = real.columns in
    let band_fits : band before < s.height = real.low in
    let column_same : n.column ≡ column 0 before = a.column_is ∙ omega arith in
    let band_same : n.band ≡ band before = a.band_is ∙ omega arith in
    rw (column_same, band_same) real

-- the grid after a painting command
pub drawn_paint : (registers : ℕ) {kept : ℕ → ℕ} {n : Notes} {s : Grid} {before : List Event} (e : Event) (r : ℕ)
    → IsNotesAfter n before → IsDrawn kept s before → BreaksNoRule registers before e → IsSpellable e
    → is_painting e ≡ true → known_in n ≡ Some r
    → IsDrawn kept (painted_grid s n.column n.band (columns_of 0 e) (bits_of e) (kept r)) (before ++ e ∷ [])
drawn_paint registers e r a d none spellable paints is =
    drawn_capped e r (sym (known_is a) ∙ is) a.column_is a.band_is (run_fits_in registers e a d none spellable paints) d

-- the grid after an event that doesn't paint
pub drawn_still : {kept : ℕ → ℕ} {s : Grid} {before : List Event} (e : Event) → is_painting e ≡ false
    → IsDrawn kept s before → IsDrawn kept s (before ++ e ∷ [])
drawn_still e still d = drawn_idle e (eqb-true _ _ (not-false _ still)) d

-- at a painting command a register is known
pub knows : (registers : ℕ) {n : Notes} {before : List Event} (e : Event) → IsNotesAfter n before
    → BreaksNoRule registers before e → is_painting e ≡ true → known_in n ≡ None → ⊥
unfolding breaks_unselected
knows registers {before} e a none paints is =
    let k = keeps before e none in
    let unselected : is_painting e && is_none (known before) ≡ false = k.unselected in
    let unknown : known before ≡ None = sym (known_is a) ∙ is in
    let broken : is_painting e && is_none (known before) ≡ true = rw (paints, unknown) refl in
    cc

-- ---- the box

-- there is no box, and the event declares none
pub undrawn_still : (registers : ℕ) (before : List Event) (e : Event) → BreaksNoRule registers before e
    → raster_of e ≡ None → IsUndrawn before → IsUndrawn (before ++ e ∷ [])
unfolding breaks_raster_first
undrawn_still registers before e none bare u =
    let k = keeps before e none in
    let kept = or_parts (is_data_command e || is_return e) (is_finish e) (rw u.no_box at k.raster_first) in
    undrawn_push before e bare (or_parts (is_data_command e) (is_return e) kept.0).0 u

abbrev pub sides : Option Attributes → Option (ℕ × ℕ)
sides o = option_map (λ (a : Attributes). (a.width, a.height)) o

pub no_attributes : (o : Option Attributes) → sides o ≡ None → o ≡ None
no_attributes None h = refl
no_attributes (Some a) h = cc

abbrev make : ℕ → ℕ → ℕ → ℕ → Attributes
make pan pad width height = record { pan = pan; pad = pad; width = width; height = height }

-- raster attributes that break no rule
good_raster : (registers : ℕ) (before : List Event) (e : Event) (w h : ℕ) → BreaksNoRule registers before e
    → sides (raster_of e) ≡ Some (w, h) → (raster_of e ≡ Some (make 1 1 w h)) × IsTrue (is_side w) × IsTrue (is_side h)
unfolding breaks_box_size breaks_ratio
good_raster registers before e w h none is =
    let k = keeps before e none in of_sides (raster_of e) k.ratio k.box_size is
  where
    of_sides : (o : Option Attributes) → option_map_or (λ a. not (is_square a)) o false ≡ false
        → option_map_or (λ a. not (has_sides a)) o false ≡ false → sides o ≡ Some (w, h)
        → (o ≡ Some (make 1 1 w h)) × IsTrue (is_side w) × IsTrue (is_side h)
    of_sides None ratio size e = cc
    of_sides (Some a) ratio size e =
        let square = and_parts (a.pan == 1) (a.pad == 1) (not-false _ ratio) in
        let good = and_parts (is_side a.width) (is_side a.height) (not-false _ size) in
        let width : a.width ≡ w = ap (λ (o : Option (ℕ × ℕ)). (unwrap_or o (0, 0)).0) e in
        let height : a.height ≡ h = ap (λ (o : Option (ℕ × ℕ)). (unwrap_or o (0, 0)).1) e in
        let whole : make a.pan a.pad a.width a.height ≡ make 1 1 w h =
        cc (eqb-true a.pan 1 square.0, eqb-true a.pad 1 square.1, width, height) in
        (ap (λ (b : Attributes). Some b) whole, rw width at good.0, rw height at good.1)

pub sides_good : (registers : ℕ) (before : List Event) (e : Event) (w h : ℕ) → BreaksNoRule registers before e
    → sides (raster_of e) ≡ Some (w, h) → IsTrue (is_side w) × IsTrue (is_side h)
sides_good registers before e w h none is = let good = good_raster _ before e w h none is in (good.1, good.2)

-- the first box
pub drawn_box : {kept : ℕ → ℕ} (registers : ℕ) (before : List Event) (e : Event) (w h : ℕ) → BreaksNoRule registers before e
    → sides (raster_of e) ≡ Some (w, h) → IsUndrawn before → IsDrawn kept (blank_grid w h) (before ++ e ∷ [])
drawn_box registers before e w h none is u =
    let good = good_raster _ before e w h none is in drawn_first before e w h good.0 good.1 good.2 u

-- an event that paints a point has a set bit
pub falls_paints : (before : List Event) (e : Event) (x y : ℕ) → falls before e x y ≡ true → is_painting e ≡ true
falls_paints before e x y h = not_from_false _ (false_from_ne_true (bits_of e % 64 == 0) (λ is.
    let no : true ≡ false = sym h ∙ idle_falls before e x y (eqb-true (bits_of e % 64) 0 is) in cc))

-- a run that fits has a column and a band below 2^32
pub narrow : {column band count bits width height : ℕ} → IsTrue (is_side width) → IsTrue (is_side height)
    → RunFits column band count bits width height → (column < 4294967296) × (band < 4294967296)
narrow {column} {band} {count} {width} {height} w h fits =
    let wide : width ≤ most_side = leb-true width most_side (and_parts (nat_le 1 width) (nat_le width most_side) w).1 in
    let high : height ≤ most_side = leb-true height most_side
    (and_parts (nat_le 1 height) (nat_le height most_side) h).1 in
    let columns : column + count ≤ width = fits.columns in
    let low : band < height = fits.low in
    (omega (arith, wide, columns), omega (arith, high, low))
