-- The laws of encoded pictures, of shown boxes and of scanned strings.
use Rattle.std.specs.Prelude.{◌≡◌, ◌⊎◌, ◌↔◌, ◌++◌, ℕ, Bool, false, List, [], Option, Some, None, Result, Ok, Err, codes, ⊤}
use Rattle.sixel_grammar.specs.Bytes.{introducer}
use Rattle.sixel_grammar.specs.declared.command.Placed.{Placed}
use Rattle.sixel_grammar.specs.declared.fault.Fault.{Fault}
use Rattle.sixel_grammar.specs.declared.fault.InputFault.{InputFault}
use Rattle.sixel_grammar.specs.declared.fault.InputFault.TheVariants.{Grammar, OutOfMemory, Read}
use Rattle.sixel_grammar.specs.Document.{Document, events_of}
use Rattle.sixel_grammar.specs.Faults.{IsFaultOf}
use Rattle.sixel_model.specs.Pictures.{IsPicture, PictureValue}
use Rattle.sixel_model.specs.declared.profile.Profile.{Profile}
use Rattle.sixel_check.specs.Answers.{Answers}
use Rattle.sixel_png.specs.Png.{IsPng}
use Rattle.sixel_judge.specs.declared.verdict.Verdict.{Verdict}
use Rattle.sixel_judge.specs.declared.verdict.Verdict.TheVariants.{Portable}
use Rattle.sixel_judge.specs.Portable.{IsPortable}
use Rattle.sixel_judge.specs.Verdicts.{IsVerdict}
use Rattle.sixel_encode.specs.Canon.{canon_text}
use Rattle.sixel_emulator_check.specs.Laws.{none}
use Rattle.sixel_report.specs.declared.fault.RunFault.{RunFault}
use Rattle.sixel_report.specs.declared.fault.RunFault.TheVariants.{NoBox}
use Rattle.sixel_report.specs.declared.task.Status.{Status}
use Rattle.sixel_report.specs.declared.task.Status.TheVariants.{Done, Asked, Broken, Differing, Noted, Surveyed, Unfit}
use Rattle.sixel_report.specs.declared.task.PictureFormat.{PictureFormat}
use Rattle.sixel_report.specs.declared.task.PictureFormat.TheVariants.{Ppm, Png}
use Rattle.sixel_report.specs.declared.task.Task.{Task}
use Rattle.sixel_report.specs.declared.task.Task.TheVariants.{Check, Scan, Show, ShowBox}
use Rattle.sixel_run.specs.Outputs.{CheckGives, Gives, RunGives, RunWrote, format_of}
use Rattle.sixel_report.specs.Outputs.{HasSides}
use Rattle.sixel_show.specs.Screens.{declared_screen}
use Rattle.sixel_report.specs.Texts.{Text, portable_line}

-- the text of a picture is a document whose verdict is that picture, and each terminal with room shows it
abbrev pub EncodedIsPortable : ℕ → Type 0
EncodedIsPortable registers =
    (p : PictureValue) → IsPicture registers p
    → (events : List Placed) × Document events (canon_text p) × IsVerdict registers events (Portable p)
    × IsPortable registers (events_of events) p

-- the answer is that the picture is portable, or OutOfMemory, or Read
abbrev pub IsPortableAnswer : PictureValue → Result Verdict InputFault → Type 0
IsPortableAnswer p (Ok verdict) = verdict ≡ Portable p
IsPortableAnswer p (Err OutOfMemory) = ⊤
IsPortableAnswer p (Err Read) = ⊤
IsPortableAnswer p (Err (Grammar fault)) = ⊥

-- a check of that text can only answer that the picture is portable, or OutOfMemory, or Read
abbrev pub EncodedAnswers : ℕ → Type 0
EncodedAnswers registers = (p : PictureValue) (answer : Result Verdict InputFault) → IsPicture registers p
    → Answers registers answer (canon_text p) → IsPortableAnswer p answer

-- a check of that text for no terminal gives the line of a portable picture, with its size
abbrev pub EncodedChecks : ℕ → Type 0
EncodedChecks registers = (p : PictureValue) → IsPicture registers p
    → CheckGives registers none (canon_text p) (portable_line p) (Ok Done)

-- ---- boxes

-- runs of both tasks give the same for the bytes
abbrev pub GiveTheSame : List ℕ → Task → Task → Type 0
GiveTheSame bytes a b = (text : Text) (answer : Result Status RunFault)
    → RunGives a bytes text answer ↔ RunGives b bytes text answer

-- these bytes are a document that declares a screen of these sides, or none
abbrev pub DeclaresScreen : List ℕ → Option (ℕ × ℕ) → Type 0
DeclaresScreen bytes sides =
    (events : List Placed) × Document events bytes × (declared_screen (events_of events) ≡ sides)

-- if a document declares a screen, its sides are allowed for `show`, and `show --box` gives what `show` gives on it
abbrev pub BoxIsShown : Type 0
BoxIsShown = (profile : Profile) (showing fill selects : Bool) (width height : ℕ) (format : PictureFormat)
    (bytes : List ℕ) → DeclaresScreen bytes (Some (width, height))
    → HasSides (Show profile showing fill selects width height format)
    × GiveTheSame bytes (ShowBox profile showing fill selects format)
    (Show profile showing fill selects width height format)

-- if it declares none, `show --box` writes nothing and answers NoBox
abbrev pub NoBoxIsShown : Type 0
NoBoxIsShown = (profile : Profile) (showing fill selects : Bool) (format : PictureFormat) (bytes : List ℕ)
    (text : Text) (answer : Result Status RunFault) → DeclaresScreen bytes None
    → RunGives (ShowBox profile showing fill selects format) bytes text answer ↔ (text ≡ []) × (answer ≡ Err NoBox)

-- for bytes that are no document, `show --box` gives what `show` gives on a screen of any size
abbrev pub FaultIsShown : Type 0
FaultIsShown = (profile : Profile) (showing fill selects : Bool) (width height : ℕ) (format : PictureFormat)
    (bytes : List ℕ) (fault : Fault) → IsFaultOf bytes fault
    → GiveTheSame bytes (ShowBox profile showing fill selects format)
    (Show profile showing fill selects width height format)

-- ---- formats

-- one PNG each, of the same width, height and samples
pub record AreOnePicture (first second : Text) : Type 0 where
  pub width : ℕ
  pub height : ℕ
  pub samples : List ℕ
  pub one : IsPng first width height samples
  pub other : IsPng second width height samples

-- two texts of a run in this format: they are the same, or PNGs of one picture
abbrev pub AreOne : PictureFormat → Text → Text → Type 0
AreOne Ppm first second = first ≡ second
AreOne Png first second = (first ≡ second) ⊎ AreOnePicture first second

-- two runs of a task over the same bytes, if no allocation and no device fails: they answer the same
abbrev pub RunsGiveOnePicture : Type 0
RunsGiveOnePicture = (task : Task) (bytes : List ℕ) (first second : Text) (a b : Result Status RunFault)
    → RunGives task bytes first a → RunGives task bytes second b → AreOne (format_of task) first second × (a ≡ b)

-- a run that has a status, and whose output was empty, wrote what a run gives
abbrev pub RunsWriteWhatTheyGive : Type 0
RunsWriteWhatTheyGive = (task : Task) (bytes : List ℕ) (left : Option (List ℕ)) (status : Status) (text : Text)
    → RunWrote task bytes left (Ok status) (Some []) (Some text) → RunGives task bytes text (Ok status)

-- ---- scans

-- the status of a scan of one string, from that of a check
abbrev pub status_alone : Status → Status
status_alone Done = Done
status_alone (Noted note) = Noted note
status_alone (Broken finding) = Unfit false
status_alone (Asked finding) = Unfit false
status_alone (Surveyed first rules) = Unfit false
status_alone Differing = Unfit false
status_alone (Unfit wrapped) = Unfit wrapped

-- for a document that begins with ESC P, and has no filler after its end, a scan writes the line of a check for no
-- terminal after `0 `
abbrev pub ScanIsCheck : Type 0
ScanIsCheck = (profile : Profile) (eight : Bool) (events : List Placed) (bytes more : List ℕ)
    (document : Document events bytes) (text : Text) (status : Status) → bytes ≡ introducer false ++ more
    → document.parses.after ≡ [] → Gives (Check profile none) bytes text (Ok status)
    → Gives (Scan profile eight) bytes (codes "0 " ++ text) (Ok (status_alone status))
