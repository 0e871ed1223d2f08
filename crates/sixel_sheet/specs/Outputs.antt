-- What a comparison of terminals writes and answers.
use Rattle.std.specs.Prelude.{◌≡◌, ◌==◌, ◌+◌, ◌*◌, ◌&&◌, ◌++◌, ℕ, List, [], ◌∷◌, ◌<◌, ⊤, Result, Ok, Err, if◌then◌else◌}
use Rattle.std.specs.Prelude.{◌⊎◌, ◌≤◌}
use Rattle.sixel_grammar.specs.Faults.{IsFaultOf}
use Rattle.sixel_model.specs.declared.colour.Parts.{Parts}
use Rattle.sixel_mend.specs.declared.mending.Mending.{Mending}
use Rattle.sixel_differ.specs.declared.comparison.Comparison.{Comparison}
use Rattle.sixel_differ.specs.declared.fault.DifferFault.TheVariants as differ
use Rattle.sixel_differ.specs.declared.view.Views.{Views}
use Rattle.sixel_differ.specs.Comparisons.{IsComparison}
use Rattle.sixel_differ.specs.Faults.{IsDifferFault}
use Rattle.sixel_differ.specs.Views.{AreViews}
use Rattle.sixel_report.specs.declared.fault.RunFault.{RunFault}
use Rattle.sixel_report.specs.declared.fault.RunFault.TheVariants.{Grammar, NotRgb, Empty, TooLarge, OutOfMemory, Read}
use Rattle.sixel_report.specs.declared.task.Status.{Status}
use Rattle.sixel_report.specs.Texts.{Text}
use Rattle.sixel_grammar.specs.declared.command.Placed.{Placed}
use Rattle.sixel_grammar.specs.Document.{Document, events_of}
use Rattle.sixel_mend.specs.Mended.{HasSides as HasMendedSides}
use Rattle.sixel_sheet.specs.Sheets.{are_rgb_views, sheet_text}
use Rattle.sixel_report.specs.Differing.{differ_status, differ_text}

-- ---- outputs

-- the lines
abbrev pub differ_output : Views → Comparison → Text × Result Status RunFault
differ_output v c = (differ_text v.width v.height c, Ok (differ_status c))

-- the sheet as a PPM, if all that is shown is RGB; else NotRgb, and no text
abbrev pub sheet_output : Views → Comparison → Text × Result Status RunFault
sheet_output v c = if are_rgb_views v then (sheet_text v, Ok (differ_status c)) else ([], Err NotRgb)

-- for a document with a picture's size the output of what the terminals show of it, and of how that compares; for
-- another size its fault, for other bytes theirs, and no text
abbrev pub DifferGives : (Views → Comparison → Text × Result Status RunFault) → Parts → List ℕ → Text
    → Result Status RunFault → Type 0
DifferGives output background bytes text (Err (Grammar fault)) = (text ≡ []) × IsFaultOf bytes fault
DifferGives output background bytes text (Err Empty) =
    (text ≡ []) × ((m : Mending) → IsDifferFault m bytes differ.Empty)
DifferGives output background bytes text (Err TooLarge) =
    (text ≡ []) × ((m : Mending) → IsDifferFault m bytes differ.TooLarge)
DifferGives output background bytes text answer =
    (v : Views) × AreViews background bytes v
    × ((c : Comparison) × IsComparison v c × ((text, answer) ≡ output v c))

-- ---- sizes

-- the bytes are a document whose mended picture has a size that a picture may have
abbrev pub HasPictureSize : Mending → List ℕ → Type 0
HasPictureSize m bytes = (events : List Placed) × Document events bytes × HasMendedSides m (events_of events)

-- the same, whatever is chosen for mending
abbrev pub HasEachSize : List ℕ → Type 0
HasEachSize bytes = (m : Mending) → HasPictureSize m bytes

-- ---- Only contracts of private functions cite these

-- why the terminals aren't compared: a fault of these bytes, or a failure while they were read
abbrev pub IsRefusalOf : List ℕ → RunFault → Type 0
IsRefusalOf bytes (Grammar fault) = IsFaultOf bytes fault
IsRefusalOf bytes Empty = (m : Mending) → IsDifferFault m bytes differ.Empty
IsRefusalOf bytes TooLarge = (m : Mending) → IsDifferFault m bytes differ.TooLarge
IsRefusalOf bytes OutOfMemory = (m : Mending) → IsDifferFault m bytes differ.OutOfMemory
IsRefusalOf bytes Read = ⊤
IsRefusalOf bytes fault = ⊥
