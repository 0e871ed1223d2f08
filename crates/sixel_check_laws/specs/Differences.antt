-- Laws on two given terminals: they show different colours at what a finding names.
use Rattle.std.specs.Prelude.{◌≡◌, ◌≢◌, ◌==◌, ◌&&◌, ◌+◌, ◌*◌, ◌<◌, ℕ, true, false, Some, IsTrue, List, replicate}
use Rattle.std.specs.Prelude.{unwrap_or, if◌then◌else◌}
use Rattle.sixel_grammar.specs.declared.command.Placed.{Placed}
use Rattle.sixel_grammar.specs.Document.{AreWhole, Document, events_of}
use Rattle.sixel_model.specs.declared.colour.Parts.{Parts}
use Rattle.sixel_model.specs.declared.colour.Parts.TheVariants.{Rgb, Hls}
use Rattle.sixel_model.specs.declared.profile.Profile.{Profile}
use Rattle.sixel_model.specs.Colours.{palette_at}
use Rattle.sixel_model.specs.Events.{Attributes, is_finish}
use Rattle.sixel_model.specs.Pictures.{PictureValue, register_of}
use Rattle.sixel_model.specs.Positions.{HoldsAtPosition}
use Rattle.sixel_model.specs.Profiles.{count_of}
use Rattle.sixel_model.specs.Rules.{picture_left, raster_before}
use Rattle.sixel_terminal.specs.declared.choices.Choices.{Choices}
use Rattle.sixel_terminal.specs.declared.choices.Ground.{Ground}
use Rattle.sixel_terminal.specs.declared.choices.Ground.TheVariants.{Kept}
use Rattle.sixel_terminal.specs.Displays.{Display, IsInClass, clipping, with_controls}
use Rattle.sixel_terminal.specs.Drawing.{shown_on, stood_on}
use Rattle.sixel_model.specs.declared.rule.Rule.{Rule}
use Rattle.sixel_model.specs.declared.rule.Rule.TheVariants.{Outside, Uncovered, EightBit}
use Rattle.sixel_judge.specs.declared.verdict.Finding.{Finding}
use Rattle.sixel_judge.specs.Alarms.{HasRoomFor}
use Rattle.sixel_judge.specs.Verdicts.{IsFinding, greatest}

-- the finding on a whole list is of this rule, at position i
pub record IsFound (registers : ℕ) (placed : List Placed) (rule : Rule) (i : ℕ) (f : Finding) : Type 0 where
  pub whole : AreWhole (events_of placed)
  pub found : IsFinding registers placed f i
  pub rule_is : f.rule ≡ rule

-- the colour of the point on the terminal after the events, and (stood_at) before them; x y is relative to its origin
abbrev pub shown_at : Display → List Placed → ℕ → ℕ → Parts
shown_at t placed x y = shown_on t (events_of placed) (t.choices.origin_x + x) (t.choices.origin_y + y)

abbrev pub stood_at : Display → ℕ → ℕ → Parts
stood_at t x y = stood_on t (t.choices.origin_x + x) (t.choices.origin_y + y)

-- Uncovered: two terminals with room that keep their ground differ at the pixel of the finding, if their screens had
-- different colours there before
abbrev pub UncoveredDiffers : ℕ → Type 0
UncoveredDiffers registers =
    (placed : List Placed) (f : Finding) (i x y : ℕ) (t u : Display) → IsFound registers placed Uncovered i f
    → f.pixel ≡ Some (x, y) → HasRoomFor registers t (events_of placed) → HasRoomFor registers u (events_of placed)
    → t.choices.ground ≡ Kept → u.choices.ground ≡ Kept → stood_at t x y ≢ stood_at u x y
    → shown_at t placed x y ≢ shown_at u placed x y

-- Outside: two terminals that keep their ground, have 8-bit controls and differ only in clipping differ at the pixel of
-- the finding, if its coordinates are below `greatest` and the colour there before wasn't the one that the terminal
-- without clipping shows
abbrev pub OutsideDiffers : ℕ → Type 0
OutsideDiffers registers =
    (placed : List Placed) (f : Finding) (i x y : ℕ) (t : Display) → IsFound registers placed Outside i f
    → f.pixel ≡ Some (x, y) → x < greatest → y < greatest → IsInClass registers t → t.choices.ground ≡ Kept
    → t.choices.eight_bit ≡ true → stood_at t x y ≢ shown_at (clipping false t) placed x y
    → shown_at (clipping true t) placed x y ≢ shown_at (clipping false t) placed x y

-- EightBit at the finish: two terminals with room that differ only in 8-bit controls differ at a pixel of the box, if
-- the colour there before wasn't that of the picture that the events leave
abbrev pub EightBitDiffers : ℕ → Type 0
EightBitDiffers registers =
    (placed : List Placed) (f : Finding) (i x y : ℕ) (t : Display) → IsFound registers placed EightBit i f
    → HoldsAtPosition (λ before e. IsTrue (is_finish e)) (events_of placed) i
    → HasRoomFor registers t (events_of placed)
    → x < (picture_left registers (events_of placed)).width → y < (picture_left registers (events_of placed)).height
    → palette_at (picture_left registers (events_of placed)).palette
    (register_of (picture_left registers (events_of placed)) x y) ≢ Some (stood_at t x y)
    → shown_at (with_controls true t) placed x y ≢ shown_at (with_controls false t) placed x y

-- ---- two terminals, written out

abbrev pub black : Parts
black = Rgb 0 0 0

abbrev pub white : Parts
white = Rgb 100 100 100

-- black or white, and not this colour; white beside a black of either colour system
abbrev pub other_than : Parts → Parts
other_than (Rgb red green blue) = if (red == 0) && (green == 0) && (blue == 0) then white else black
other_than (Hls hue lightness saturation) = if lightness == 0 then white else black

-- it keeps its ground, doesn't clip, has 8-bit controls, and draws from the top left of a screen of this size
abbrev pub witness_choices : ℕ → ℕ → Choices
witness_choices width height = let ground : Ground = Kept in record {
  binds_at_showing = false;
  selects = false;
  ground = ground;
  selected = 0;
  zero = 0;
  clamps = false;
  tall = 1;
  clips = false;
  eight_bit = true;
  screen_width = width;
  screen_height = height;
  origin_x = 0;
  origin_y = 0;
}

-- the terminal with these choices, this many registers, all black at the start, and a screen of one colour
abbrev pub witness_terminal : ℕ → ℕ → ℕ → Parts → Display
witness_terminal registers width height colour = record {
  choices = witness_choices width height;
  colours = replicate registers black;
  screen = replicate (width * height) colour;
}

-- both terminals have room, and they show different colours at the point
pub record AreApart (registers : ℕ) (placed : List Placed) (x y : ℕ) (t u : Display) : Type 0 where
  pub one : HasRoomFor registers t (events_of placed)
  pub other : HasRoomFor registers u (events_of placed)
  pub apart : shown_at t placed x y ≢ shown_at u placed x y

-- Uncovered: two witnesses with screens of the size of the box, one black and one white, differ at each finding
abbrev pub SomeUncoveredDiffer : Profile → Type 0
SomeUncoveredDiffer profile =
    (placed : List Placed) (f : Finding) (i x y : ℕ) (a : Attributes)
    → IsFound (count_of profile) placed Uncovered i f → f.pixel ≡ Some (x, y)
    → raster_before (events_of placed) ≡ Some a
    → AreApart (count_of profile) placed x y (witness_terminal (count_of profile) a.width a.height black)
    (witness_terminal (count_of profile) a.width a.height white)

-- Outside: a witness whose screen just holds the pixel, and has another colour than the one painted there
abbrev pub outside_screen : Profile → List Placed → ℕ → ℕ → Display
outside_screen profile placed x y =
    witness_terminal (count_of profile) (x + 1) (y + 1)
    (other_than (shown_at (witness_terminal (count_of profile) (x + 1) (y + 1) black) placed x y))

-- the terminal is in the class, and shows different colours at the point with and without clipping
pub record DifferByClipping (registers : ℕ) (placed : List Placed) (x y : ℕ) (t : Display) : Type 0 where
  pub in_class : IsInClass registers t
  pub apart : shown_at (clipping true t) placed x y ≢ shown_at (clipping false t) placed x y

-- for each finding of Outside whose coordinates are below `greatest`, this terminal shows different colours with and
-- without clipping
abbrev pub SomeOutsideDiffer : Profile → Type 0
SomeOutsideDiffer profile =
    (placed : List Placed) (f : Finding) (i x y : ℕ) → IsFound (count_of profile) placed Outside i f
    → f.pixel ≡ Some (x, y) → x < greatest → y < greatest
    → DifferByClipping (count_of profile) placed x y (outside_screen profile placed x y)

-- EightBit: a witness whose screen has the size of the box, and another colour than the first pixel of the picture that
-- the events leave
abbrev pub eight_bit_screen : Profile → List Placed → Display
eight_bit_screen profile placed =
    let left : PictureValue = picture_left (count_of profile) (events_of placed) in
    witness_terminal (count_of profile) left.width left.height
    (other_than (unwrap_or (palette_at left.palette (register_of left 0 0)) black))

-- the terminal has room, and shows different colours at the first pixel with and without 8-bit controls
pub record DifferByControls (registers : ℕ) (placed : List Placed) (t : Display) : Type 0 where
  pub room : HasRoomFor registers t (events_of placed)
  pub apart : shown_at (with_controls true t) placed 0 0 ≢ shown_at (with_controls false t) placed 0 0

-- for each finding of EightBit at the finish, this terminal with and without 8-bit controls shows different colours
abbrev pub SomeEightBitDiffer : Profile → Type 0
SomeEightBitDiffer profile =
    (placed : List Placed) (f : Finding) (i : ℕ) → IsFound (count_of profile) placed EightBit i f
    → HoldsAtPosition (λ before e. IsTrue (is_finish e)) (events_of placed) i
    → DifferByControls (count_of profile) placed (eight_bit_screen profile placed)

-- ---- coordinates

-- in a document, a finding of Outside has coordinates below the cap, so they are exact
abbrev pub CoordinatesAreExact : ℕ → Type 0
CoordinatesAreExact registers =
    (bytes : List ℕ) (placed : List Placed) (f : Finding) (i x y : ℕ) → Document placed bytes
    → IsFinding registers placed f i → f.rule ≡ Outside → f.pixel ≡ Some (x, y) → (x < greatest) × (y < greatest)
