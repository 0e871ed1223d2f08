use Rattle.std.proofs.Common.{◌≡◌, ◌+◌, ℕ, Bool, true, false, ap, sym, ◌∙◌, arith}
use Rattle.std.specs.Prelude.{is_none}
use Rattle.sixel_model.specs.Grids.{Grid, cell}
use Rattle.sixel_survey.proofs.CoverLemmas.{count_more}
use Rattle.sixel_survey.proofs.cover.blank_in_row.Goals as goal
use Rattle.sixel_survey.proofs.cover.blank_in_row.Goals.{then-is_blank, else-is_blank}

-- a pixel of this row is blank
same_row : (s : Grid) (x row y : ℕ) (blank : Bool) → blank ≡ is_none (cell s x row) → row ≡ y
    → is_none (cell s x y) ≡ blank
same_row s x row y blank is same = ap (λ (n : ℕ). is_none (cell s x n)) (sym same) ∙ sym is

pub loop-x-preserved : goal.loop-x-preserved
loop-x-preserved g c =
    let s = g.P.Cover.grid c.args.plane.now in
    let i : ℕ = c.loop-x.x in
    let p : ℕ → Bool = λ x. is_none (cell s x c.args.y) in
    let little = c.loop-x.invariant.0 in
    elim c.if-is_blank.branch [
      | then-is_blank w ↦
          let is : p i ≡ true = same_row s i _ c.args.y _ c.is_blank.ensures (omega arith) ∙ w.if-is_blank.true in
          rw w.count-is
          (omega (arith, little), count_more p i (i + 1) c.loop-x.count true is (omega arith) c.loop-x.invariant.1)
      | else-is_blank w ↦
          let is : p i ≡ false = same_row s i _ c.args.y _ c.is_blank.ensures (omega arith) ∙ w.if-is_blank.false in
          let more = count_more p i (i + 1) c.loop-x.count false is (omega arith) c.loop-x.invariant.1 in
          rw w.count-is (omega (arith, little), omega (arith, more))
    ]
