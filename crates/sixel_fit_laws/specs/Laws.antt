-- What the laws say.
use Rattle.std.specs.Prelude.{◌≡◌, ◌≢◌, ◌↔◌, ◌<◌, ◌≤◌, ℕ, List, Ok, Result, Some}
use Rattle.sixel_grammar.specs.declared.command.Event.{Event}
use Rattle.sixel_grammar.specs.declared.command.Placed.{Placed}
use Rattle.sixel_grammar.specs.Document.{Document}
use Rattle.sixel_model.specs.declared.colour.Parts.{Parts}
use Rattle.sixel_model.specs.Colours.{IsColour, palette_at}
use Rattle.sixel_model.specs.Pictures.{IsPicture, PictureValue, register_of}
use Rattle.sixel_encode.specs.Canon.{canon, canon_text}
use Rattle.sixel_mend.specs.declared.mending.Mending.{Mending}
use Rattle.sixel_mend.specs.Mended.{MendsEvents}
use Rattle.sixel_mend.specs.Screens.{mending_terminal}
use Rattle.sixel_mend.specs.Sizes.{IsTouched}
use Rattle.sixel_mend_laws.specs.Laws.{IsKept}
use Rattle.sixel_emulator_rules.specs.Asked.{BreaksNoneAsked, no_rules}
use Rattle.sixel_emulator_rules.specs.declared.terminals.Terminals.{Terminals}
use Rattle.sixel_emulator_check.specs.Laws.{none}
use Rattle.sixel_emulator_check.specs.Written.{IsVerdictOf}
use Rattle.sixel_emulator_check.specs.declared.verdict.NamedVerdict.TheVariants.{Portable}
use Rattle.sixel_emulator_check_laws.specs.Shown.{IsShownOnEach}
use Rattle.sixel_fit.specs.Fits.{FitsOrNot, Unfit}
use Rattle.sixel_fit.specs.declared.making.FitFault.{FitFault}
use Rattle.sixel_fit.specs.declared.making.FitFault.TheVariants.{OutOfMemory}

-- ---- the picture

-- the second picture has the first at its top, with the same registers, and below it only rows of this colour. Each
-- colour stays in its register
pub record HasAtTop (pad : Parts) (p q : PictureValue) : Type 0 where
  pub width : q.width ≡ p.width
  pub height : p.height ≤ q.height
  pub kept : (x y : ℕ) → x < p.width → y < p.height → register_of q x y ≡ register_of p x y
  pub added : (x y : ℕ) → x < p.width → p.height ≤ y → y < q.height
      → palette_at q.palette (register_of q x y) ≡ Some pad
  pub colours : (r : ℕ) (colour : Parts) → palette_at p.palette r ≡ Some colour → palette_at q.palette r ≡ Some colour

abbrev pub FittedIsPicture : ℕ → Type 0
FittedIsPicture registers =
    (t : Terminals) (pad : Parts) (p q : PictureValue) → IsPicture registers p → IsColour pad
    → FitsOrNot t pad p (Ok q) → IsPicture registers q × HasAtTop pad p q

-- ---- its text

-- the text of a picture that was fitted to terminals of which no rule is ignored is a document. For the terminals its
-- verdict is this picture, and each of them shows it
abbrev pub FittedIsPortable : ℕ → Type 0
FittedIsPortable registers =
    (t : Terminals) (pad : Parts) (p q : PictureValue) → t.ignored ≡ no_rules → IsPicture registers p → IsColour pad
    → FitsOrNot t pad p (Ok q)
    → (placed : List Placed) × Document placed (canon_text q)
    × IsVerdictOf registers t (canon_text q) placed (Portable q) × IsShownOnEach t (canon_text q) placed q

-- ---- where there is none

-- for a picture that is refused, but for memory, no picture with it at its top, and rows of the colour below, has a
-- canonical list that breaks no rule which the terminals ask for
abbrev pub UnfitHasNone : ℕ → Type 0
UnfitHasNone registers =
    (t : Terminals) (pad : Parts) (p q : PictureValue) (fault : FitFault) → IsPicture registers p
    → IsPicture registers q → Unfit t pad p fault → fault ≢ OutOfMemory → HasAtTop pad p q
    → BreaksNoneAsked t (canon q) → ⊥

-- ---- mended strings

-- each point that a data command touches, on any screen, is kept in the picture that is mended and fitted
abbrev pub NothingIsLost : ℕ → Type 0
NothingIsLost registers =
    (m : Mending) (events : List Event) (t : Terminals) (pad : Parts) (p q : PictureValue) (width height x y : ℕ)
    → IsColour m.background → IsColour pad → MendsEvents registers m events (Ok p) → FitsOrNot t pad p (Ok q)
    → IsTouched (mending_terminal m width height) events x y → IsKept m events q x y

-- ---- no terminal

-- for no terminal the answer is the same picture
abbrev pub NoneChangesNothing : Type 0
NoneChangesNothing =
    (pad : Parts) (p : PictureValue) (answer : Result PictureValue FitFault) (registers : ℕ) → IsPicture registers p
    → FitsOrNot none pad p answer ↔ (answer ≡ Ok p)
