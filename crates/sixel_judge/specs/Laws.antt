-- What the laws say.
use Rattle.std.specs.Prelude.{◌≡◌, ◌<◌, ◌≤◌, ◌++◌, ℕ, true, false, Some, None, IsTrue, List, slice_get, take}
use Rattle.sixel_grammar.specs.declared.command.Event.{Event}
use Rattle.sixel_grammar.specs.declared.command.Placed.{Placed}
use Rattle.sixel_grammar.specs.Document.{AreWhole, events_of}
use Rattle.sixel_grammar.specs.Prefixes.{CompleteIn}
use Rattle.sixel_model.specs.Colours.{palette_at}
use Rattle.sixel_model.specs.Events.{Attributes, is_data_command, is_in_box, is_painting, raster_of}
use Rattle.sixel_model.specs.Pictures.{PictureValue}
use Rattle.sixel_model.specs.Rules.{BreaksNone, is_covered, known, last_rule, picture_left, raster_before}
use Rattle.sixel_model.specs.declared.rule.Rule.TheVariants.{Uncovered}
use Rattle.sixel_terminal.specs.Displays.{Display, clipping, registers_of}
use Rattle.sixel_terminal.specs.Drawing.{IsPainted, map_on, paints_in}
use Rattle.sixel_judge.specs.declared.verdict.Verdict.{Verdict}
use Rattle.sixel_judge.specs.declared.verdict.Verdict.TheVariants.{Portable}
use Rattle.sixel_judge.specs.Growth.{MayGrowAmong}
use Rattle.sixel_judge.specs.Portable.{IsInBoxOn, IsPortable}
use Rattle.sixel_judge.specs.Verdicts.{IsVerdict}

-- on the terminal the register has its colour in the picture that the events leave, both before the event at position i
-- and at the end
pub record HasColourLeft (registers : ℕ) (t : Display) (events : List Event) (i r : ℕ) : Type 0 where
  pub at_painting : palette_at (picture_left registers events).palette r ≡ Some (map_on t (take i events) r)
  pub at_showing : palette_at (picture_left registers events).palette r ≡ Some (map_on t events r)

-- the drawing rules are those up to `Uncovered`, which are all but `EightBit`

-- if no drawing rule is broken, a register that a command paints in has its colour in the picture that the events leave
-- at that command and at the end, on each terminal with enough registers
abbrev pub PaintedColourIsLeft : ℕ → Type 0
PaintedColourIsLeft registers =
    (t : Display) (events : List Event) (i : ℕ) (e : Event) (r : ℕ) → registers ≤ registers_of t
    → BreaksNone registers Uncovered events → slice_get events i ≡ Some e → IsTrue (is_painting e)
    → known (take i events) ≡ Some r → HasColourLeft registers t events i r

-- if no drawing rule is broken, no raster attributes follow a data command
abbrev pub FilledFirst : ℕ → Type 0
FilledFirst registers =
    (events : List Event) (i j : ℕ) (d e : Event) → BreaksNone registers Uncovered events → i < j
    → slice_get events i ≡ Some d → IsTrue (is_data_command d) → slice_get events j ≡ Some e → raster_of e ≡ None

-- if no drawing rule is broken in a whole list, each pixel of the box is covered by some event
abbrev pub AllCovered : ℕ → Type 0
AllCovered registers =
    (events : List Event) (a : Attributes) (x y : ℕ) → AreWhole events → BreaksNone registers Uncovered events
    → raster_before events ≡ Some a → IsTrue (is_in_box a x y) → IsTrue (is_covered events x y)

-- if no drawing rule is broken, no event paints a pixel outside the box, on any terminal
abbrev pub NonePaintedOutside : ℕ → Type 0
NonePaintedOutside registers =
    (t : Display) (events : List Event) (a : Attributes) (x y : ℕ) → BreaksNone registers Uncovered events
    → raster_before events ≡ Some a → ¬ IsInBoxOn t a.width a.height x y → ¬ IsPainted t events x y

-- if no drawing rule is broken, clipping changes nothing: each event paints the same pixels, in the same registers
abbrev pub ClippingChangesNothing : ℕ → Type 0
ClippingChangesNothing registers =
    (t : Display) (events : List Event) (i : ℕ) (e : Event) (x y : ℕ) → BreaksNone registers Uncovered events
    → slice_get events i ≡ Some e
    → paints_in (clipping true t) events (take i events) e x y
    ≡ paints_in (clipping false t) events (take i events) e x y

-- if no rule is broken in a whole list, the picture that the events leave is portable
abbrev pub LeftIsPortable : ℕ → Type 0
LeftIsPortable registers =
    (events : List Event) → AreWhole events → BreaksNone registers last_rule events
    → IsPortable registers events (picture_left registers events)

-- if no rule is broken, the verdict is the picture that the events leave, and no other
abbrev pub VerdictIsLeft : ℕ → Type 0
VerdictIsLeft registers =
    (placed : List Placed) (p : PictureValue) → BreaksNone registers last_rule (events_of placed)
    → p ≡ picture_left registers (events_of placed)
    → IsVerdict registers placed (Portable p) × ((v : Verdict) → IsVerdict registers placed v → v ≡ Portable p)

-- a list of events has at least one verdict
abbrev pub SomeVerdict : ℕ → Type 0
SomeVerdict registers = (placed : List Placed) → (v : Verdict) × IsVerdict registers placed v

-- a list of events has at most one verdict
abbrev pub OneVerdict : ℕ → Type 0
OneVerdict registers =
    (placed : List Placed) (v w : Verdict) → IsVerdict registers placed v → IsVerdict registers placed w → v ≡ w

-- if a checker may allocate at an event that is complete in a prefix of the bytes, then also at one in each longer
-- viable prefix
abbrev pub GrowthStays : ℕ → Type 0
GrowthStays registers =
    (prefix rest : List ℕ) (first second : List Placed) → CompleteIn first prefix → CompleteIn second (prefix ++ rest)
    → MayGrowAmong registers first → MayGrowAmong registers second
