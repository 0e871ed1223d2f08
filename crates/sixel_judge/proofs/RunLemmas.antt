-- The first point outside the box of a command: it says whether a rule is broken, and else the run may be painted.
use Rattle.std.proofs.Common.{◌≡◌, ◌≢◌, ◌==◌, ℕ, ◌+◌, ◌*◌, ◌-◌, ◌^◌, ◌<◌, ◌≤◌, ◌&&◌, not, Option, Some, None, List, []}
use Rattle.std.proofs.Common.{◌∷◌, ◌++◌, nat_lt, refl, min, ◌∙◌, arith}
use Rattle.std.specs.Int.{bit_at}
use Rattle.std.proofs.lemmas.Bool.{agree_below_at, and_parts, eqb-true, ltb-true, ne_eqb, not_from_false}
use Rattle.std.proofs.lemmas.Bool.{true_from_ne_false}
use Rattle.sixel_grammar.specs.declared.command.Event.{Event}
use Rattle.sixel_model.specs.Events.{Attributes, bits_of, columns_of}
use Rattle.sixel_model.specs.Geometry.{band, column, falls, touches}
use Rattle.sixel_model.specs.Positions.{any_below}
use Rattle.sixel_model.specs.Rules.{FallsOutside, IsFirstPoint, known}
use Rattle.sixel_model.specs.Grids.{Grid, painted_grid}
use Rattle.sixel_model.proofs.CoverLemmas.{covers_under, passes_below}
use Rattle.sixel_judge.specs.Judging.{IsDrawn}
use Rattle.sixel_judge.specs.Outside.{IsFirstIfAny, PaintsOutside}
use Rattle.sixel_judge.specs.Verdicts.{capped}
use Rattle.sixel_judge.proofs.BlankLemmas.{small}
use Rattle.sixel_judge.proofs.DrawnLemmas.{drawn_run}

-- ---- the first point, of a run and of a command

-- two equivalent properties of points have the same first point
pub first_same : (P Q : ℕ → ℕ → Type 0) → ((x y : ℕ) → P x y → Q x y) → ((x y : ℕ) → Q x y → P x y)
    → (o : Option (ℕ × ℕ)) → IsFirstIfAny P o → IsFirstIfAny Q o
first_same P Q to from None h = λ x y q. h x y (from x y q)
first_same P Q to from (Some pixel) h =
    let first : IsFirstPoint P (h.0) (h.1) = h.2 in
    let first' : IsFirstPoint Q (h.0) (h.1) = record {
      holds = to (h.0) (h.1) first.holds;
      none_before = λ u v earlier q. first.none_before u v earlier (from u v q);
    } in
    (h.0, h.1, first', h.3)

-- a command paints the points of its run
pub falls_first : (before : List Event) (e : Event) (a : Attributes) (o : Option (ℕ × ℕ))
    → IsFirstIfAny (PaintsOutside (column 0 before) (columns_of 0 e) (band before) (bits_of e) a.width a.height) o
    → IsFirstIfAny (FallsOutside before e a) o
unfolding falls touches
falls_first before e a o h =
    first_same (PaintsOutside (column 0 before) (columns_of 0 e) (band before) (bits_of e) a.width a.height)
    (FallsOutside before e a)
    (λ x y p. record { painted = p.painted; outside = p.outside })
    (λ x y p. record { painted = p.painted; outside = p.outside }) o h

-- ---- a run that paints only inside the box

-- a plane of this size can paint the run
pub record RunFits (column band count bits width height : ℕ) : Type 0 where
  pub columns : column + count ≤ width
  pub rows : (k : ℕ) → k < 6 → bit_at bits k ≡ 1 → 6 * band + k < height
  pub low : band < height

some_bit : (bits : ℕ) → bits < 64 → any_below 6 (λ k. bit_at bits k == 1) ≡ not (bits == 0)
unfolding any_below
some_bit bits lt = agree_below_at (λ b. any_below 6 (λ k. bit_at b k == 1)) (λ b. not (b == 0)) 64 bits refl lt

-- a point of the run lies inside
run_inside : (column band count bits width height k x : ℕ)
    → ((u v : ℕ) → PaintsOutside column count band bits width height u v → ⊥)
    → k < 6 → bit_at bits k ≡ 1 → column ≤ x → x < column + count → (x < width) × (6 * band + k < height)
run_inside column band count bits width height k x none six set from to =
    let painted = covers_under column count band bits x (6 * band + k)
    (record { bit = k; below = six; set = set; row = refl; from = from; to = to }) in
    let inside = true_from_ne_false (nat_lt x width && nat_lt (6 * band + k) height)
    (λ out. none x (6 * band + k) (record { painted = painted; outside = out })) in
    let parts = and_parts (nat_lt x width) (nat_lt (6 * band + k) height) inside in
    (ltb-true x width parts.0, ltb-true (6 * band + k) height parts.1)

-- a run with a set bit that paints no point outside fits
pub run_fits : (column band count bits width height : ℕ)
    → ((u v : ℕ) → PaintsOutside column count band bits width height u v → ⊥)
    → 0 < count → bits ≤ 63 → bits ≢ 0 → RunFits column band count bits width height
run_fits column band count bits width height none some spellable painting =
    let set = passes_below 6 (λ k. bit_at bits k == 1)
    (some_bit bits (omega arith) ∙ not_from_false (bits == 0) (ne_eqb bits 0 painting)) in
    let bit : bit_at bits set.number ≡ 1 = eqb-true _ _ set.passes in
    let last = run_inside column band count bits width height set.number (column + count - 1) none set.below bit
    (omega arith) (omega arith) in
    let right : column + count - 1 < width = last.0 in
    let row : 6 * band + set.number < height = last.1 in
    record {
      columns = omega arith;
      rows = λ k six is.
          (run_inside column band count bits width height k column none six is (omega arith) (omega arith)).1;
      low = omega arith;
    }

-- a number below the cap isn't capped
pub uncapped : (n m : ℕ) → n ≡ capped m → n < 2 ^ 64 - 1 → n ≡ m
uncapped n m is lt =
    let same : n ≡ min m 18446744073709551615 = is in
    let below : n < 18446744073709551615 = lt in
    omega arith

-- the grid after a command whose run is painted from a capped column on, in a capped band
pub drawn_capped : {kept : ℕ → ℕ} {s : Grid} {before : List Event} (e : Event) (r : ℕ) {left line : ℕ}
    → known before ≡ Some r → left ≡ capped (column 0 before) → line ≡ capped (band before)
    → RunFits left line (columns_of 0 e) (bits_of e) s.width s.height → IsDrawn kept s before
    → IsDrawn kept (painted_grid s left line (columns_of 0 e) (bits_of e) (kept r)) (before ++ e ∷ [])
drawn_capped {s} {before} e r {left} {line} is column_is band_is fits d =
    let columns : left + columns_of 0 e ≤ s.width = fits.columns in
    let rows : line < s.height = fits.low in
    let narrow : s.width < 18446744073709551615 = small s.width d.width in
    let low : s.height < 18446744073709551615 = small s.height d.height in
    let across : left ≡ column 0 before = uncapped left (column 0 before) column_is (omega arith) in
    let down : line ≡ band before = uncapped line (band before) band_is (omega arith) in
    rw (across, down) (drawn_run e r is d)
