-- Why nothing is compared.
use Rattle.std.specs.Prelude.{◌≡◌, ◌⊎◌, ◌<◌, ◌&&◌, ℕ, IsTrue, List, ⊤}
use Rattle.sixel_grammar.specs.declared.command.Placed.{Placed}
use Rattle.sixel_grammar.specs.Document.{Document, events_of}
use Rattle.sixel_grammar.specs.Faults.{IsFaultOf}
use Rattle.sixel_model.specs.Pictures.{is_side, most_side}
use Rattle.sixel_mend.specs.declared.mending.Mending.{Mending}
use Rattle.sixel_mend.specs.Sizes.{IsSize}
use Rattle.sixel_differ.specs.declared.fault.DifferFault.{DifferFault}
use Rattle.sixel_differ.specs.declared.fault.DifferFault.TheVariants.{Grammar, Empty, TooLarge, OutOfMemory}

-- this is so of a size. Empty: a side is 0; TooLarge: none is 0, and one is too great; OutOfMemory: both are in range
abbrev pub IsFaultOfSize : ℕ → ℕ → DifferFault → Type 0
IsFaultOfSize width height Empty = (width ≡ 0) ⊎ (height ≡ 0)
IsFaultOfSize width height TooLarge =
    (0 < width) × (0 < height) × ((most_side < width) ⊎ (most_side < height))
IsFaultOfSize width height OutOfMemory = IsTrue (is_side width && is_side height)
IsFaultOfSize width height (Grammar fault) = ⊥

-- the bytes are a document, and this is so of the size of its mended picture
abbrev pub IsFaultBySize : Mending → List ℕ → DifferFault → Type 0
IsFaultBySize m bytes fault =
    (placed : List Placed) × Document placed bytes
    × ((width : ℕ) × (height : ℕ) × IsSize m (events_of placed) width height × IsFaultOfSize width height fault)

-- why nothing is compared of these bytes. Grammar: their fault, if they are no document
abbrev pub IsDifferFault : Mending → List ℕ → DifferFault → Type 0
IsDifferFault m bytes (Grammar fault) = IsFaultOf bytes fault
IsDifferFault m bytes fault = IsFaultBySize m bytes fault

-- the fault of a reading, or memory. Only contracts of private functions cite this
abbrev pub IsReadingFault : List ℕ → DifferFault → Type 0
IsReadingFault bytes (Grammar fault) = IsFaultOf bytes fault
IsReadingFault bytes OutOfMemory = ⊤
IsReadingFault bytes fault = ⊥
