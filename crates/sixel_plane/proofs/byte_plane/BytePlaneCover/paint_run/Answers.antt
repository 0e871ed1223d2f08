use Rattle.std.proofs.Common.{◌≡◌, ◌==◌, ◌+◌, ◌*◌, ◌<◌, ◌≤◌, ℕ, length, refl, sym, ap, ap₂, ◌∙◌, false, arith, rules}
use Rattle.std.proofs.Common.{true}
use Rattle.std.specs.Int.{bit_at}
use Rattle.std.proofs.lemmas.Bool.{eqb-true}
use Rattle.std.proofs.lemmas.Nat.{row_fits_turned}
use Rattle.std.proofs.lemmas.List.{take_at}
use Rattle.sixel_plane.specs.declared.byte_plane.BytePlane.TheInside.{Inside}
use Rattle.sixel_plane.specs.BytePlanes.{grid_of_marks}
use Rattle.sixel_model.specs.Grids.{Grid, painted_grid}
use Rattle.sixel_plane.proofs.ByteLemmas.{painted_marks}
use Rattle.sixel_model.proofs.PaintLemmas.{painted_none, painted_same}
use Rattle.sixel_model.proofs.RunLemmas.{run_more}
use Rattle.sixel_plane.proofs.byte_plane.BytePlaneCover.paint_run.Goals as goal
use Rattle.sixel_plane.proofs.byte_plane.BytePlaneCover.paint_run.Goals.{then-is_set, else-is_set}

pub loop-bit-init : goal.loop-bit-init
loop-bit-init c = record {
  same_width = refl;
  same_height = refl;
  painted = painted_none c.args.band 1 c.args.bits _ _ c.args.register 0 c.self.inside.registers.items;
  marked = painted_none c.args.band 1 c.args.bits _ _ true false c.self.inside.marks.items;
}

pub invariant_of-self : goal.invariant_of-self
invariant_of-self c =
    let kept = c.loop-bit.invariant in
    record {
      width_in_range = rw kept.same_width c.self.invariant.width_in_range;
      height_in_range = rw kept.same_height c.self.invariant.height_in_range;
      each_register = rw (kept.same_width, kept.same_height) (kept.painted.long ∙ c.self.invariant.each_register);
      each_mark = rw (kept.same_width, kept.same_height) (kept.marked.long ∙ c.self.invariant.each_mark);
    }

-- the columns of a run in one row are inside the list of pixels
row_fits : (w h wide high band k column count : ℕ) → w ≡ wide → h ≡ high → column + count ≤ wide → 6 * band + k < high
    → (6 * band + k) * w + column + count ≤ w * h
row_fits w h wide high band k column count same_width same_height columns row =
    let room = row_fits_turned (6 * band + k) w w h (omega (arith, same_height, row)) (omega arith) in
    omega arith

pub fill_row-requires : goal.fill_row-requires
fill_row-requires c =
    let set : bit_at c.args.bits c.loop-bit.bit ≡ 1 =
    eqb-true (bit_at c.args.bits c.loop-bit.bit) 1 (sym c.if-is_set.ensures) in
    let room = row_fits c.self.inside.width c.self.inside.height c.args.self.now.width c.args.self.now.height
    c.args.band c.loop-bit.bit c.args.column c.args.count (ap (λ (s : Grid). s.width) c.self.view_is)
    (ap (λ (s : Grid). s.height) c.self.view_is) c.requires.columns
    (c.requires.rows c.loop-bit.bit c.loop-bit-test.true set) in
    let stored : length c.deref_mut.result.now ≡ c.self.inside.width * c.self.inside.height =
    ap length c.deref_mut.ensures.value ∙ c.loop-bit.invariant.painted.long ∙ c.self.invariant.each_register in
    rw (stored, c.loop-bit.invariant.same_width) room

pub fill_row-requires-then-is_set : goal.fill_row-requires-then-is_set
fill_row-requires-then-is_set c =
    let set : bit_at c.args.bits c.loop-bit.bit ≡ 1 =
    eqb-true (bit_at c.args.bits c.loop-bit.bit) 1 (sym c.if-is_set.ensures) in
    let room = row_fits c.self.inside.width c.self.inside.height c.args.self.now.width c.args.self.now.height
    c.args.band c.loop-bit.bit c.args.column c.args.count (ap (λ (s : Grid). s.width) c.self.view_is)
    (ap (λ (s : Grid). s.height) c.self.view_is) c.requires.columns
    (c.requires.rows c.loop-bit.bit c.loop-bit-test.true set) in
    let stored : length c.deref_mut-then-is_set.result.now ≡ c.self.inside.width * c.self.inside.height =
    ap length c.deref_mut-then-is_set.ensures.value ∙ c.loop-bit.invariant.marked.long ∙ c.self.invariant.each_mark in
    rw (stored, c.loop-bit.invariant.same_width) room

pub loop-bit-preserved : goal.loop-bit-preserved
loop-bit-preserved c = elim c.if-is_set.branch [
  | then-is_set w ↦
      let set : (bit_at c.args.bits c.loop-bit.bit == 1) ≡ true = sym w.if-is_set.ensures in
      let whole : length w.fill_row.new.items ≡ c.loop-bit.self-inside.registers.len = omega arith in
      let registers : c.if-is_set.self-inside.registers.items ≡ w.fill_row.new.items =
      ap (λ (s : Inside). s.registers.items) w.self-inside-is ∙ take_at w.fill_row.new.items _ _ whole in
      let stored : w.deref_mut.result.now ≡ c.loop-bit.self-inside.registers.items = w.deref_mut.ensures.value in
      let long : length c.if-is_set.self-inside.registers.items ≡ length c.loop-bit.self-inside.registers.items =
      ap length registers ∙ w.fill_row.auto.items ∙ ap length stored in
      let whole_marks : length w.fill_row-then-is_set.new.items ≡ c.loop-bit.self-inside.marks.len = omega arith in
      let marks : c.if-is_set.self-inside.marks.items ≡ w.fill_row-then-is_set.new.items =
      ap (λ (s : Inside). s.marks.items) w.self-inside-is ∙ take_at w.fill_row-then-is_set.new.items _ _ whole_marks in
      let stored_marks : w.deref_mut-then-is_set.result.now ≡ c.loop-bit.self-inside.marks.items =
      w.deref_mut-then-is_set.ensures.value in
      let long_marks : length c.if-is_set.self-inside.marks.items ≡ length c.loop-bit.self-inside.marks.items =
      ap length marks ∙ w.fill_row-then-is_set.auto.items ∙ ap length stored_marks in
      let wide : c.self.inside.width ≡ c.args.self.now.width = ap (λ (s : Grid). s.width) c.self.view_is in
      let start : (6 * c.args.band + c.loop-bit.bit) * c.loop-bit.self-inside.width + c.args.column
      ≡ (6 * c.args.band + c.loop-bit.bit) * c.self.inside.width + c.args.column =
      ap (λ n. (6 * c.args.band + c.loop-bit.bit) * n + c.args.column) c.loop-bit.invariant.same_width in
      let some : 0 < c.self.inside.width = search rules in
      let fits : c.args.column + c.args.count ≤ c.self.inside.width = omega (arith, c.requires.columns, wide) in
      record {
        same_width = ap (λ (s : Inside). s.width) w.self-inside-is ∙ c.loop-bit.invariant.same_width;
        same_height = ap (λ (s : Inside). s.height) w.self-inside-is ∙ c.loop-bit.invariant.same_height;
        painted = run_more c.loop-bit.bit c.self.inside.width c.args.column c.args.count c.args.band c.args.bits _
            c.args.register 0 c.self.inside.registers.items c.loop-bit.self-inside.registers.items
            c.if-is_set.self-inside.registers.items
            some fits start set c.loop-bit.invariant.painted long (rw (registers, ← stored) (w.fill_row.ensures 0));
        marked = run_more c.loop-bit.bit c.self.inside.width c.args.column c.args.count c.args.band c.args.bits _
            true false c.self.inside.marks.items c.loop-bit.self-inside.marks.items
            c.if-is_set.self-inside.marks.items
            some fits start set c.loop-bit.invariant.marked long_marks
            (rw (marks, ← stored_marks) (w.fill_row-then-is_set.ensures false));
      }
  | else-is_set w ↦
      let clear : (bit_at c.args.bits c.loop-bit.bit == 1) ≡ false = sym w.if-is_set.ensures in
      record {
        same_width = ap (λ (s : Inside). s.width) w.self-inside-is ∙ c.loop-bit.invariant.same_width;
        same_height = ap (λ (s : Inside). s.height) w.self-inside-is ∙ c.loop-bit.invariant.same_height;
        painted = rw w.self-inside-is
            (painted_same c.loop-bit.bit c.args.band 1 c.args.bits _ _ c.args.register 0 _ _ _ clear
            c.loop-bit.invariant.painted refl (λ i lt. refl));
        marked = rw w.self-inside-is
            (painted_same c.loop-bit.bit c.args.band 1 c.args.bits _ _ true false _ _ _ clear
            c.loop-bit.invariant.marked refl (λ i lt. refl));
      }
]

pub returns : goal.returns
returns c =
    let inside = c.self.inside in
    let done : c.loop-bit.bit ≡ 6 = omega arith in
    let registers = c.loop-bit.self-inside.registers.items in
    let marks = c.loop-bit.self-inside.marks.items in
    let kept = c.loop-bit.invariant in
    let some : 0 < inside.width = search rules in
    ap₂ (λ (w h : ℕ). grid_of_marks w h registers marks) kept.same_width kept.same_height
    ∙ painted_marks inside.width inside.height c.args.column c.args.count c.args.band c.args.bits c.args.register
    inside.registers.items registers inside.marks.items marks some c.self.invariant.each_register
    c.self.invariant.each_mark (rw done at kept.painted) (rw done at kept.marked)
    ∙ ap (λ (s : Grid). painted_grid s c.args.column c.args.band c.args.count c.args.bits c.args.register)
    c.self.view_is
