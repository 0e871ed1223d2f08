-- Verdicts on a list of events with their places.
use Rattle.std.specs.Prelude.{◌≡◌, ℕ, ◌-◌, ◌^◌, min, Option, Some, None, IsSomeAnd, List, slice_get}
use Rattle.std.specs.Option.{option_map}
use Rattle.sixel_grammar.specs.declared.command.Event.{Event}
use Rattle.sixel_grammar.specs.declared.command.Placed.{Placed}
use Rattle.sixel_grammar.specs.Document.{events_of}
use Rattle.sixel_model.specs.Positions.{HoldsAtPosition}
use Rattle.sixel_model.specs.Rules.{BreaksNone, FallsOutside, IsFirstBroken, IsFirstPoint, StaysBlank, picture_left}
use Rattle.sixel_model.specs.Rules.{last_rule, raster_before}
use Rattle.sixel_model.specs.declared.rule.Rule.{Rule}
use Rattle.sixel_model.specs.declared.rule.Rule.TheVariants.{Outside, Uncovered}
use Rattle.sixel_judge.specs.declared.verdict.Finding.{Finding}
use Rattle.sixel_judge.specs.declared.verdict.Verdict.{Verdict}
use Rattle.sixel_judge.specs.declared.verdict.Verdict.TheVariants.{Portable, Broken}
use Rattle.sixel_judge.specs.declared.verdict.Outcome.{Outcome}
use Rattle.sixel_judge.specs.declared.verdict.Outcome.TheVariants.{Portable as PortableSize, Broken as BrokenRule}

-- the greatest 64-bit number, the cap of a pixel's coordinates
abbrev pub greatest : ℕ
greatest = 2 ^ 64 - 1

-- n, or `greatest` if n is above it
abbrev pub capped : ℕ → ℕ
capped n = min n greatest

-- the pixel is the first point, in row order, for which P holds, with each coordinate capped
abbrev pub IsFirstPixel : (ℕ → ℕ → Type 0) → Option (ℕ × ℕ) → Type 0
IsFirstPixel P pixel = (x : ℕ) × (y : ℕ) × IsFirstPoint P x y × (pixel ≡ Some (capped x, capped y))

-- the pixel of a finding at this event: for `Outside` the first point outside the box that the event covers, for
-- `Uncovered` the first point of the box that no event covers, for the other rules none
abbrev pub IsPixel : Rule → Option (ℕ × ℕ) → List Event → Event → Type 0
IsPixel Outside pixel before e =
    IsFirstPixel (λ x y. IsSomeAnd (raster_before before) (λ a. FallsOutside before e a x y)) pixel
IsPixel Uncovered pixel before e =
    IsFirstPixel (λ x y. IsSomeAnd (raster_before before) (λ a. StaysBlank before a x y)) pixel
IsPixel _ pixel before e = pixel ≡ None

-- the finding is the first broken rule, and its event has position i
pub record IsFinding (registers : ℕ) (placed : List Placed) (f : Finding) (i : ℕ) : Type 0 where
  pub first : IsFirstBroken registers (events_of placed) f.rule i
  pub place : option_map (λ (p : Placed). p.place) (slice_get placed i) ≡ Some f.place
  pub pixel : HoldsAtPosition (IsPixel f.rule f.pixel) (events_of placed) i

-- the verdict: the picture that the events leave if no rule is broken, else the first broken rule
abbrev pub IsVerdict : ℕ → List Placed → Verdict → Type 0
IsVerdict registers placed (Portable picture) =
    BreaksNone registers last_rule (events_of placed) × (picture ≡ picture_left registers (events_of placed))
IsVerdict registers placed (Broken finding) = (i : ℕ) × IsFinding registers placed finding i

-- what is left of a verdict without the picture: its size, or the finding
abbrev pub outcome_of : Verdict → Outcome
outcome_of (Portable picture) = PortableSize picture.width picture.height
outcome_of (Broken finding) = BrokenRule finding
