-- What the laws say.
use Rattle.std.specs.Prelude.{◌≡◌, ◌≢◌, ◌<◌, ℕ, IsSome, Option, Some, Ok, List, slice_get}
use Rattle.sixel_grammar.specs.declared.command.Event.{Event}
use Rattle.sixel_grammar.specs.declared.command.Placed.{Placed}
use Rattle.sixel_grammar.specs.Document.{AreWhole, Document, events_of}
use Rattle.sixel_model.specs.declared.colour.Parts.{Parts}
use Rattle.sixel_model.specs.Colours.{IsColour, palette_at}
use Rattle.sixel_model.specs.Pictures.{PictureValue, register_of}
use Rattle.sixel_model.specs.Rules.{BreaksNone, last_rule, picture_left}
use Rattle.sixel_terminal.specs.Drawing.{shown_on}
use Rattle.sixel_judge.specs.declared.verdict.Verdict.TheVariants.{Portable}
use Rattle.sixel_judge.specs.Portable.{IsPortable}
use Rattle.sixel_judge.specs.Verdicts.{IsVerdict}
use Rattle.sixel_encode.specs.Canon.{canon_text}
use Rattle.sixel_mend.specs.declared.mending.Mending.{Mending}
use Rattle.sixel_mend.specs.Screens.{mending_terminal}
use Rattle.sixel_mend.specs.Sizes.{IsSize, IsTouched}
use Rattle.sixel_mend.specs.Mended.{MendsEvents, mended_colours}

-- a list of events has at least one size
abbrev pub SomeSize : Type 0
SomeSize = (m : Mending) (events : List Event) → (width : ℕ) × (height : ℕ) × IsSize m events width height

-- a list of events has at most one size
abbrev pub OneSize : Type 0
OneSize = (m : Mending) (events : List Event) (a b c d : ℕ) → IsSize m events a b → IsSize m events c d
    → (a ≡ c) × (b ≡ d)

-- the text of a mended picture is a document whose verdict is that picture, and each terminal with room shows it
abbrev pub MendedIsPortable : ℕ → Type 0
MendedIsPortable registers =
    (m : Mending) (events : List Event) (p : PictureValue) → IsColour m.background
    → MendsEvents registers m events (Ok p)
    → (placed : List Placed) × Document placed (canon_text p) × IsVerdict registers placed (Portable p)
    × IsPortable registers (events_of placed) p

-- the same, with another background
abbrev pub with_background : Parts → Mending → Mending
with_background background m = record m { background = background }

-- the point lies in the picture, and has the colour there that the terminal shows at it, on any screen that has it,
-- whatever the background
pub record IsKept (m : Mending) (events : List Event) (p : PictureValue) (x y : ℕ) : Type 0 where
  pub across : x < p.width
  pub down : y < p.height
  pub shown : (background : Parts) (width height : ℕ) → x < width → y < height
      → palette_at p.palette (register_of p x y)
      ≡ Some (shown_on (mending_terminal (with_background background m) width height) events x y)

-- each point that a data command touches, on any screen, is kept in the mended picture
abbrev pub NothingIsLost : ℕ → Type 0
NothingIsLost registers =
    (m : Mending) (events : List Event) (p : PictureValue) (width height x y : ℕ)
    → MendsEvents registers m events (Ok p) → IsTouched (mending_terminal m width height) events x y
    → IsKept m events p x y

-- two pictures have the same size, and the same colour at each pixel
pub record LookTheSame (p q : PictureValue) : Type 0 where
  pub width : p.width ≡ q.width
  pub height : p.height ≡ q.height
  pub pixels : (x y : ℕ) → x < q.width → y < q.height
      → palette_at p.palette (register_of p x y) ≡ palette_at q.palette (register_of q x y)

-- if no rule is broken in a whole list, the mended picture looks the same as the picture that the events leave
abbrev pub PortableStays : ℕ → Type 0
PortableStays registers =
    (m : Mending) (events : List Event) → AreWhole events → BreaksNone registers last_rule events
    → (p : PictureValue) × MendsEvents registers m events (Ok p) × LookTheSame p (picture_left registers events)

-- in the list the first of this colour stands at this index
abbrev pub IsFirstAt : List Parts → ℕ → Parts → Type 0
IsFirstAt colours i c = (slice_get colours i ≡ Some c) × ((j : ℕ) → j < i → slice_get colours j ≢ Some c)

-- the palette has each of the colours once, in the order in which they come first, from register 0 on, and no other
pub record AreInOrder (colours : List Parts) (palette : List (Option Parts)) : Type 0 where
  pub each : (i : ℕ) (c : Parts) → slice_get colours i ≡ Some c → (r : ℕ) × (palette_at palette r ≡ Some c)
  pub once : (r s : ℕ) (c : Parts) → palette_at palette r ≡ Some c → palette_at palette s ≡ Some c → r ≡ s
  pub order : (r s i j : ℕ) (c d : Parts) → r < s → palette_at palette r ≡ Some c → palette_at palette s ≡ Some d
      → IsFirstAt colours i c → IsFirstAt colours j d → i < j
  pub from_0 : (r s : ℕ) → r < s → IsSome (palette_at palette s) → IsSome (palette_at palette r)
  pub no_other : (r : ℕ) (c : Parts) → palette_at palette r ≡ Some c → (i : ℕ) × (slice_get colours i ≡ Some c)

-- so has the palette of a mended picture the colours of its pixels, row by row
abbrev pub ColoursInOrder : ℕ → Type 0
ColoursInOrder registers =
    (m : Mending) (events : List Event) (p : PictureValue) → MendsEvents registers m events (Ok p)
    → AreInOrder (mended_colours m events p.width p.height) p.palette
