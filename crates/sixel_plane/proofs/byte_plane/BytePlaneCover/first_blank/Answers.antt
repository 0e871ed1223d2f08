use Rattle.std.proofs.Common.{◌≡◌, ◌%◌, ◌/◌, ◌*◌, ◌<◌, ℕ, Bool, List, Option, Some, None, length, not, position, sym}
use Rattle.std.proofs.Common.{ap, ◌∙◌, rules}
use Rattle.std.specs.Option.{option_map}
use Rattle.sixel_plane.specs.BytePlanes.{is_marked, grid_of_marks}
use Rattle.sixel_model.specs.Grids.{Grid, first_blank}
use Rattle.sixel_plane.proofs.ByteLemmas.{first_unmarked}
use Rattle.sixel_plane.proofs.PaintedLemmas.{first_blank_unpainted}
use Rattle.sixel_plane.proofs.byte_plane.BytePlaneCover.first_blank.Goals as goal

-- the result for the index of the first unset mark
answered : (w h : ℕ) (registers : List ℕ) (marks : List Bool) (s : Grid) (found : Option ℕ) → 0 < w
    → length marks ≡ w * h → grid_of_marks w h registers marks ≡ s → found ≡ position not marks
    → option_map (λ i. (i % w, i / w)) found ≡ first_blank s
answered w h registers marks s found some whole same at =
    first_blank_unpainted w h registers (is_marked w marks) _ some (first_unmarked w h marks found some whole at)
    ∙ ap first_blank same

pub returns-in_err-index : goal.returns-in_err-index
returns-in_err-index c =
    let inside = c.self.inside in
    let some : 0 < inside.width = search rules in
    c.from_residual.ensures
    ∙ answered inside.width inside.height inside.registers.items inside.marks.items c.args.self.now None some
    c.self.invariant.each_mark c.self.view_is
    (sym c.in_err-index.was ∙ c.blank_index.ensures.value ∙ ap (position not) c.deref.ensures.value)

pub returns : goal.returns
returns c =
    let inside = c.self.inside in
    let some : 0 < inside.width = search rules in
    answered inside.width inside.height inside.registers.items inside.marks.items c.args.self.now
    (Some c.in_ok-index.index) some c.self.invariant.each_mark c.self.view_is
    (sym c.in_ok-index.was ∙ c.blank_index.ensures.value ∙ ap (position not) c.deref.ensures.value)
