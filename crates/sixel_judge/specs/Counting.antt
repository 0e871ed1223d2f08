-- Where a rule counts.
--
-- A rule counts where it's broken, except where another rule tells the same mistake:
-- `Register` tells of a register that the profile doesn't have, `BoxSize` of a box with a side out of range, and
-- `RasterFirst` of a command that paints before the box is declared.
use Rattle.std.specs.Prelude.{◌<◌, ◌≤◌, ◌&&◌, ℕ, Bool, true, false, not, Option, Some, None, IsTrue, List, is_none}
use Rattle.std.specs.Prelude.{nat_lt}
use Rattle.std.specs.Option.{option_map, option_map_or}
use Rattle.sixel_grammar.specs.declared.command.Event.{Event}
use Rattle.sixel_model.specs.Events.{has_sides, is_painting, named_by}
use Rattle.sixel_model.specs.Positions.{any_at}
use Rattle.sixel_model.specs.Rules.{Breaks, known, number_of, raster_before}
use Rattle.sixel_model.specs.declared.rule.Rule.{Rule}
use Rattle.sixel_model.specs.declared.rule.Rule.TheVariants.{Undefined, Redefined, Outside, Uncovered}
use Rattle.sixel_judge.specs.declared.hits.Hit.{Hit}
use Rattle.sixel_judge.specs.declared.violation.Violation.{Violation}
use Rattle.sixel_judge.specs.Verdicts.{IsPixel}

-- there is a register, and it's one of this many
abbrev pub is_below : ℕ → Option ℕ → Bool
is_below registers o = option_map_or (λ r. nat_lt r registers) o false

-- the first raster attributes have both sides from 1 to 2,048 pixels
abbrev pub has_box : List Event → Bool
has_box before = option_map_or has_sides (raster_before before) false

-- some command paints before the first raster attributes
unfoldable pub paints_early : List Event → Bool
paints_early before = any_at (λ earlier e. is_painting e && is_none (raster_before earlier)) before

-- no other rule tells the same mistake, if the event breaks this rule
abbrev pub is_told : ℕ → Rule → List Event → Event → Bool
is_told registers Undefined before e = is_below registers (known before)
is_told registers Redefined before e = is_below registers (named_by e)
is_told registers Outside before e = has_box before
is_told registers Uncovered before e = has_box before && not (paints_early before)
is_told registers _ before e = true

-- the rule counts at the event: the event breaks it, and no other rule tells the same mistake
pub record Counts (registers : ℕ) (rule : Rule) (before : List Event) (e : Event) : Type 0 where
  pub broken : Breaks registers rule before e
  pub told : IsTrue (is_told registers rule before e)

-- the rule counts at the event, and this is the pixel; or it doesn't count
abbrev pub IsHit : ℕ → Rule → List Event → Event → Option Hit → Type 0
IsHit registers rule before e None = ¬ Counts registers rule before e
IsHit registers rule before e (Some hit) = Counts registers rule before e × IsPixel rule hit.pixel before e

-- the hit at this pixel, if there is one
abbrev pub at_pixel : Option (ℕ × ℕ) → Option Hit
at_pixel o = option_map (λ (p : ℕ × ℕ). record { pixel = Some p }) o

-- the violation of a rule without a pixel
abbrev pub without_pixel : Option Rule → Option Violation
without_pixel o = option_map (λ (r : Rule). record { rule = r; pixel = None }) o

-- the rule of the violation counts at the event, this is the pixel, and no rule with a smaller number counts
pub record IsFirstHit (registers : ℕ) (before : List Event) (e : Event) (v : Violation) : Type 0 where
  pub counts : Counts registers v.rule before e
  pub pixel : IsPixel v.rule v.pixel before e
  pub none_smaller : (m : Rule) → number_of m < number_of v.rule → ¬ Counts registers m before e

-- the first of the rules that count at the event; or none with a number of at most n counts
abbrev pub IsFirstUpTo : ℕ → ℕ → List Event → Event → Option Violation → Type 0
IsFirstUpTo registers n before e None = (m : Rule) → number_of m ≤ n → ¬ Counts registers m before e
IsFirstUpTo registers n before e (Some v) = IsFirstHit registers before e v
