-- What terminals do at what a finding names. A point x y is relative to the origin of each terminal.
--
-- Each clause is about single terminals. That two of them show different colours is a law, over `Differences` of
-- sixel_check. All rules but `Uncovered`, `Outside` and `EightBit` are conservative, and so is `EightBit` at an
-- introducer: such a string may look the same everywhere.
use Rattle.std.specs.Prelude.{◌≡◌, ◌+◌, ◌<◌, ℕ, true, false, Option, IsSome, IsSomeAnd, IsTrue, List}
use Rattle.sixel_grammar.specs.declared.command.Event.{Event}
use Rattle.sixel_grammar.specs.declared.command.Placed.{Placed}
use Rattle.sixel_grammar.specs.Document.{events_of}
use Rattle.sixel_model.specs.Events.{Attributes, is_finish}
use Rattle.sixel_model.specs.Positions.{HoldsAtPosition}
use Rattle.sixel_model.specs.Rules.{picture_left, raster_before}
use Rattle.sixel_terminal.specs.declared.choices.Ground.TheVariants.{Kept}
use Rattle.sixel_terminal.specs.Displays.{Display, HasRoom, IsInClass}
use Rattle.sixel_terminal.specs.Drawing.{IsPainted, paints_in, shown_on, stood_on}
use Rattle.sixel_model.specs.declared.rule.Rule.{Rule}
use Rattle.sixel_model.specs.declared.rule.Rule.TheVariants.{Outside, Uncovered, EightBit}
use Rattle.sixel_judge.specs.declared.verdict.Verdict.{Verdict}
use Rattle.sixel_judge.specs.declared.verdict.Verdict.TheVariants.{Portable, Broken}
use Rattle.sixel_judge.specs.Portable.{ShowsAt}
use Rattle.sixel_judge.specs.Verdicts.{IsFinding, greatest}

-- the terminal is one of the class and has room for the box of the first raster attributes
pub record HasRoomFor (registers : ℕ) (t : Display) (events : List Event) : Type 0 where
  pub in_class : IsInClass registers t
  pub room : IsSomeAnd (raster_before events) (λ (a : Attributes). HasRoom t a.width a.height)

-- each terminal with room that keeps its ground shows at the point what was there before
abbrev pub StaysOnEach : ℕ → List Event → ℕ → ℕ → Type 0
StaysOnEach registers events x y =
    (t : Display) → HasRoomFor registers t events → t.choices.ground ≡ Kept
    → shown_on t events (t.choices.origin_x + x) (t.choices.origin_y + y)
    ≡ stood_on t (t.choices.origin_x + x) (t.choices.origin_y + y)

-- the event at position i paints the point on each terminal that doesn't clip and has 8-bit controls; no event paints
-- it on a terminal that clips and keeps its ground
pub record IsPaintedUnlessClipped (registers : ℕ) (events : List Event) (i x y : ℕ) : Type 0 where
  pub painted : (t : Display) → IsInClass registers t → t.choices.clips ≡ false → t.choices.eight_bit ≡ true
      → HoldsAtPosition (λ before e.
      IsSome (paints_in t events before e (t.choices.origin_x + x) (t.choices.origin_y + y))) events i
  pub cut_off : (t : Display) → IsInClass registers t → t.choices.clips ≡ true → t.choices.ground ≡ Kept
      → ¬ IsPainted t events (t.choices.origin_x + x) (t.choices.origin_y + y)

-- a terminal without 8-bit controls paints no pixel, on its screen or off it; and if position i is that of a finish,
-- each terminal with them and with room shows the picture that is left in the box
pub record IsUnseenWithoutEightBits (registers : ℕ) (events : List Event) (i : ℕ) : Type 0 where
  pub unpainted : (t : Display) (column row : ℕ) → IsInClass registers t → t.choices.eight_bit ≡ false
      → ¬ IsPainted t events column row
  pub shown : HoldsAtPosition (λ before e. IsTrue (is_finish e)) events i → (t : Display) (x y : ℕ)
      → HasRoomFor registers t events → t.choices.eight_bit ≡ true
      → x < (picture_left registers events).width → y < (picture_left registers events).height
      → ShowsAt t events (picture_left registers events) x y

-- what terminals do at a finding of this rule with this pixel at position i; of ten of the rules it says nothing
abbrev pub WhatTerminalsDo : ℕ → List Event → Rule → Option (ℕ × ℕ) → ℕ → Type 0
WhatTerminalsDo registers events Uncovered pixel i = IsSomeAnd pixel (λ p. StaysOnEach registers events p.0 p.1)
WhatTerminalsDo registers events Outside pixel i =
    IsSomeAnd pixel (λ p. p.0 < greatest → p.1 < greatest → IsPaintedUnlessClipped registers events i p.0 p.1)
WhatTerminalsDo registers events EightBit pixel i = IsUnseenWithoutEightBits registers events i
WhatTerminalsDo registers events _ pixel i = Unit {0}

-- for `Broken`: the finding is the first broken rule, at some position, and `WhatTerminalsDo` holds there
abbrev pub MattersUnlessConservative : ℕ → List Placed → Verdict → Type 0
MattersUnlessConservative registers placed (Portable picture) = Unit {0}
MattersUnlessConservative registers placed (Broken f) =
    (i : ℕ) × IsFinding registers placed f i × WhatTerminalsDo registers (events_of placed) f.rule f.pixel i
