-- What a run with an answer has written, and which failures of devices it counts.
use Rattle.std.specs.Prelude.{◌≡◌, ◌⊎◌, ◌++◌, ℕ, List, [], Option, Some, IsFalse, IsTrue, Result, Ok, Err, map, take}
use Rattle.std.specs.Io.KnownBytes.{Appends}
use Rattle.sixel_io.specs.Devices.{SinkState, Writes, one_more}
use Rattle.sixel_model.specs.declared.colour.Parts.{Parts}
use Rattle.sixel_ppm.specs.Ppm.{are_rgb, is_file_side, ppm_header, ppm_text}
use Rattle.sixel_png.specs.Levels.{level}
use Rattle.sixel_png.specs.Png.{IsPng}
use Rattle.sixel_png.specs.Writing.{WritesOnePng, levels_of}
use Rattle.sixel_report.specs.declared.fault.RunFault.{RunFault}
use Rattle.sixel_report.specs.declared.fault.RunFault.TheVariants.{NotRgb, OutOfMemory, Read, Write}
use Rattle.sixel_report.specs.declared.task.Area.{Area}
use Rattle.sixel_report.specs.declared.task.Area.TheVariants.{Box, Sides}
use Rattle.sixel_report.specs.declared.task.PictureFormat.{PictureFormat}
use Rattle.sixel_report.specs.declared.task.PictureFormat.TheVariants.{Ppm, Png}
use Rattle.sixel_report.specs.declared.task.Status.{Status}
use Rattle.sixel_report.specs.declared.task.Task.{Task}
use Rattle.sixel_report.specs.declared.task.Task.TheVariants.{Show, ShowOn}
use Rattle.sixel_report.specs.Texts.{Text, BeginsWith}

-- ---- sides

-- given sides of a screen are in range
abbrev pub HasSidesIn : Area → Type 0
HasSidesIn Box = Unit {0}
HasSidesIn (Sides width height) = IsTrue (is_file_side width) × IsTrue (is_file_side height)

-- the sides of a screen to show are in range
abbrev pub HasSides : Task → Type 0
HasSides (Show profile showing fill selects width height format) =
    IsTrue (is_file_side width) × IsTrue (is_file_side height)
HasSides (ShowOn named background area format) = HasSidesIn area
HasSides t = Unit {0}

-- ---- what was written

-- nothing was appended to what the sink `had`
abbrev pub WroteNothing : Option (List ℕ) → Option (List ℕ) → Type 0
WroteNothing had has = Appends had has []

-- what a run with this answer appended to what the sink `had`. OutOfMemory: what `before` says; Read: what `unread`
-- says; Write: a prefix of each text that `gives` allows; any other answer: a text that `gives` allows with that answer
abbrev pub WroteWith : (Text → Result Status RunFault → Type 0) → (Option (List ℕ) → Option (List ℕ) → Type 0)
    → (Option (List ℕ) → Option (List ℕ) → Type 0)
    → Result Status RunFault → Option (List ℕ) → Option (List ℕ) → Type 0
WroteWith gives unread before (Err OutOfMemory) had has = before had has
WroteWith gives unread before (Err Read) had has = unread had has
WroteWith gives unread before (Err Write) had has =
    (part : Text) × Appends had has part
    × ((text : Text) (answer : Result Status RunFault) → gives text answer → BeginsWith text part)
WroteWith gives unread before answer had has = (text : Text) × gives text answer × Appends had has text

-- the same of a task that has written nothing when an allocation fails
abbrev pub WroteBy : (Text → Result Status RunFault → Type 0) → (Option (List ℕ) → Option (List ℕ) → Type 0)
    → Result Status RunFault → Option (List ℕ) → Option (List ℕ) → Type 0
WroteBy gives unread answer had has = WroteWith gives unread WroteNothing answer had has

-- the text was appended to what the sink `had`; after Write, a prefix of it
abbrev pub PutsText : Result Status RunFault → Option (List ℕ) → Option (List ℕ) → Text → Type 0
PutsText (Err Write) had has text = (n : ℕ) × Appends had has (take n text)
PutsText answer had has text = Appends had has text

-- ---- pictures

-- the PNG has the picture of the PPM: the same width and height, and for each sample the nearest of 0 to 255
pub record IsPngOf (ppm png : Text) : Type 0 where
  pub width : ℕ
  pub height : ℕ
  pub samples : List ℕ
  pub ppm_is : ppm ≡ ppm_header width height ++ samples
  pub png_is : IsPng png width height (map level samples)

-- the same, if there is a PPM; else nothing
abbrev pub IsPngFor : Text → Text → Type 0
IsPngFor ppm png = ((ppm ≡ []) × (png ≡ [])) ⊎ IsPngOf ppm png

-- what is given, where `gives` says what it is as a PPM
abbrev pub GivesAs : PictureFormat → (Text → Result Status RunFault → Type 0) → Text → Result Status RunFault → Type 0
GivesAs Ppm gives text answer = gives text answer
GivesAs Png gives text answer = (ppm : Text) × gives ppm answer × IsPngFor ppm text

-- what a run with this answer appended, where the others say what it appends as a PPM. Png: the PNG of what it would
-- append to an empty sink; after Write, a prefix of one
abbrev pub WroteAs : PictureFormat → (Text → Result Status RunFault → Type 0)
    → (Option (List ℕ) → Option (List ℕ) → Type 0) → (Option (List ℕ) → Option (List ℕ) → Type 0)
    → Result Status RunFault → Option (List ℕ) → Option (List ℕ) → Type 0
WroteAs Ppm gives unread before answer had has = WroteWith gives unread before answer had has
WroteAs Png gives unread before answer had has =
    (ppm : Text) × WroteWith gives unread before answer (Some []) (Some ppm)
    × ((png : Text) × IsPngFor ppm png × PutsText answer had has png)

-- the same of a task that has written nothing when a read or an allocation fails
abbrev pub WrotePicture : PictureFormat → (Text → Result Status RunFault → Type 0)
    → Result Status RunFault → Option (List ℕ) → Option (List ℕ) → Type 0
WrotePicture format gives answer had has = WroteAs format gives WroteNothing WroteNothing answer had has

-- how the file of a picture was put
abbrev pub PutsFile : {A E : Type 0} → PictureFormat → Result A E → SinkState → SinkState → ℕ → ℕ → List Parts → Type 0
PutsFile Ppm result old new width height colours = Writes result old new (ppm_text width height colours)
PutsFile Png result old new width height colours = WritesOnePng result old new width height (levels_of colours)

-- all colours are RGB, and the file was put, or on `Write` a prefix of it; or some colour isn't RGB, and nothing was
-- done. Writing has no other fault
abbrev pub WritesFile : {A : Type 0} → PictureFormat → Result A RunFault → SinkState → SinkState → ℕ → ℕ
    → List Parts → Type 0
WritesFile {A = A} format (Ok x) old new width height colours =
    IsTrue (are_rgb colours) × PutsFile {A = A} {E = RunFault} format (Ok x) old new width height colours
WritesFile {A = A} format (Err Write) old new width height colours =
    IsTrue (are_rgb colours) × PutsFile {A = A} {E = RunFault} format (Err Write) old new width height colours
WritesFile format (Err NotRgb) old new width height colours = IsFalse (are_rgb colours) × (new ≡ old)
WritesFile format (Err fault) old new width height colours = ⊥

-- ---- failures of devices

-- the failures of a device: one more if the answer is its fault, else as many as before
abbrev pub failures_by : {A : Type 0} → RunFault → Result A RunFault → ℕ → ℕ
failures_by Read (Err Read) n = one_more n
failures_by Write (Err Write) n = one_more n
failures_by device answer n = n

-- the answer is Write exactly if the sink failed, and then it failed once
abbrev pub CountsWrites : {A : Type 0} → Result A RunFault → ℕ → ℕ → Type 0
CountsWrites answer old new = new ≡ failures_by Write answer old

-- the answer is Read exactly if the source failed, and then it failed once; or Write, if the flush failed after that
abbrev pub CountsReads : {A : Type 0} → Result A RunFault → ℕ → ℕ → Type 0
CountsReads answer old new = (new ≡ failures_by Read answer old) ⊎ ((answer ≡ Err Write) × (new ≡ one_more old))
