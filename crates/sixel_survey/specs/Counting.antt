-- How often a rule counts.
use Rattle.std.specs.Prelude.{◌≡◌, ◌↔◌, ℕ, Bool, not, IsSomeAnd, IsTrue, List, filter, length}
use Rattle.std.specs.List.{range_with_len}
use Rattle.sixel_grammar.specs.declared.command.Event.{Event}
use Rattle.sixel_model.specs.Events.{Attributes}
use Rattle.sixel_model.specs.Grids.{row_by_row}
use Rattle.sixel_model.specs.Positions.{HoldsAtPosition}
use Rattle.sixel_model.specs.Rules.{is_covered, raster_before}
use Rattle.sixel_model.specs.declared.rule.Rule.{Rule}
use Rattle.sixel_model.specs.declared.rule.Rule.TheVariants.{Uncovered}
use Rattle.sixel_judge.specs.Counting.{Counts}

-- P holds at this many positions of the list
pub record HoldsOften {X : Type 0} (P : List X → X → Type 0) (xs : List X) (often : ℕ) : Type 0 where
  pub holds : ℕ → Bool
  pub decides : (i : ℕ) → IsTrue (holds i) ↔ HoldsAtPosition P xs i
  pub often_is : often ≡ length (filter holds (range_with_len 0 (length xs)))

-- the points of the declared box, row by row
abbrev pub points_of : Attributes → List (ℕ × ℕ)
points_of a = row_by_row a.width a.height (λ x y. (x, y))

-- how many points of the declared box no event covers
unfoldable pub blanks : List Event → Attributes → ℕ
blanks events a = length (filter (λ (p : ℕ × ℕ). not (is_covered events p.0 p.1)) (points_of a))

-- how often the rule counts: for `Uncovered` the number of blank pixels of the first box, for the other rules the
-- number of positions at which it counts
abbrev pub IsHowOften : ℕ → Rule → List Event → ℕ → Type 0
IsHowOften registers Uncovered events often = IsSomeAnd (raster_before events) (λ a. often ≡ blanks events a)
IsHowOften registers rule events often = HoldsOften (Counts registers rule) events often
