-- What the program says of one picture in two ways.
use Rattle.std.specs.Prelude.{◌≡◌, ◌↔◌, ℕ, Bool, IsFalse, IsTrue, List, [], Result, Ok, Err}
use Rattle.sixel_model.specs.declared.colour.Parts.{Parts}
use Rattle.sixel_model.specs.declared.profile.Profile.{Profile}
use Rattle.sixel_model.specs.Pictures.{PictureValue}
use Rattle.sixel_model.specs.Profiles.{count_of}
use Rattle.sixel_ppm.specs.Ppm.{are_rgb, colours_of}
use Rattle.sixel_png.specs.Png.{IsPng}
use Rattle.sixel_png.specs.Writing.{levels_of}
use Rattle.sixel_named_terminals.specs.declared.named.Named.{Named}
use Rattle.sixel_judge.specs.declared.verdict.Verdict.{Verdict}
use Rattle.sixel_check.specs.Answers.{Answers}
use Rattle.sixel_emulator_rules.specs.declared.terminals.Terminals.{Terminals}
use Rattle.sixel_emulator_check.specs.Answers.{AnswersOn}
use Rattle.sixel_emulator_check.specs.Laws.{named_verdict, none}
use Rattle.sixel_emulator_check.specs.declared.verdict.NamedVerdict.{NamedVerdict}
use Rattle.sixel_emulator_check_laws.specs.Laws.{all_terminals}
use Rattle.sixel_emulator_check_laws.specs.Shown.{IsHeeded}
use Rattle.sixel_report.specs.declared.fault.RunFault.{RunFault}
use Rattle.sixel_report.specs.declared.task.Area.TheVariants.{Box}
use Rattle.sixel_report.specs.declared.fault.RunFault.TheVariants.{NotRgb}
use Rattle.sixel_report.specs.declared.task.PictureFormat.{PictureFormat}
use Rattle.sixel_report.specs.declared.task.PictureFormat.TheVariants.{Ppm, Png}
use Rattle.sixel_report.specs.declared.task.Status.{Status}
use Rattle.sixel_report.specs.declared.task.Status.TheVariants.{Done}
use Rattle.sixel_report.specs.declared.task.Task.TheVariants.{Check, Differ, Render, ShowBox, ShowOn}
use Rattle.sixel_report.specs.Texts.{Text, portable_line, same_line, verdict_line}
use Rattle.sixel_run.specs.Outputs.{Gives, RunGives, picture_output, status_of}
use Rattle.sixel_run_laws.specs.Laws.{GiveTheSame}

-- if a check for a set of terminals is done, `show --on` with `--box` gives for each of them that is heeded, on each
-- background, what `render` gives in the same format
abbrev pub ShowGivesWhatRenderGives : Type 0
ShowGivesWhatRenderGives =
    (profile : Profile) (t : Terminals) (bytes : List ℕ) (text : Text) (named : Named) (background : Parts)
    (format : PictureFormat) → Gives (Check profile t) bytes text (Ok Done) → IsHeeded t named
    → GiveTheSame bytes (ShowOn named background Box format) (Render profile format)

-- so does `show --box` without `--on`, on a terminal of the class, whatever is chosen for it
abbrev pub ShowBoxGivesWhatRenderGives : Type 0
ShowBoxGivesWhatRenderGives =
    (profile : Profile) (t : Terminals) (bytes : List ℕ) (text : Text) (showing fill selects : Bool)
    (format : PictureFormat) → Gives (Check profile t) bytes text (Ok Done)
    → GiveTheSame bytes (ShowBox profile showing fill selects format) (Render profile format)

-- a PNG of the picture, whose samples are the nearest of 0 to 255 to the percentages of its pixels; or NotRgb and no
-- text if the colour of some pixel isn't RGB
abbrev pub IsPngOutput : PictureValue → Text → Result Status RunFault → Type 0
IsPngOutput p text (Ok status) = IsTrue (are_rgb (colours_of p))
    × IsPng text p.width p.height (levels_of (colours_of p)) × (status ≡ Done)
IsPngOutput p text (Err NotRgb) = IsFalse (are_rgb (colours_of p)) × (text ≡ [])
IsPngOutput p text (Err fault) = ⊥

-- if a check is done, `render` gives the PPM of a picture, and with `--png` PNGs of the same picture, and nothing else
abbrev pub PngIsThePicture : Type 0
PngIsThePicture =
    (profile : Profile) (t : Terminals) (bytes : List ℕ) (text : Text) → Gives (Check profile t) bytes text (Ok Done)
    → (p : PictureValue) × (text ≡ portable_line p)
    × ((file : Text) (answer : Result Status RunFault)
    → RunGives (Render profile Ppm) bytes file answer ↔ ((file, answer) ≡ picture_output p))
    × ((file : Text) (answer : Result Status RunFault)
    → RunGives (Render profile Png) bytes file answer ↔ IsPngOutput p file answer)

-- if a check for all four is done, `differ` says on each background that their screens are the same, with the sides
-- that the check says, and nothing else
abbrev pub DifferSaysSame : Type 0
DifferSaysSame =
    (profile : Profile) (bytes : List ℕ) (text : Text) (background : Parts)
    → Gives (Check profile all_terminals) bytes text (Ok Done)
    → (p : PictureValue) × (text ≡ portable_line p)
    × ((line : Text) (answer : Result Status RunFault)
    → Gives (Differ background) bytes line answer ↔ ((line ≡ same_line p.width p.height) × (answer ≡ Ok Done)))

-- a check for no terminal gives the line and the status of a verdict that `check` answers, and each of these
abbrev pub CheckGivesTheVerdict : Type 0
CheckGivesTheVerdict =
    (profile : Profile) (bytes : List ℕ) (text : Text) (status : Status)
    → Gives (Check profile none) bytes text (Ok status)
    ↔ ((v : Verdict) × Answers (count_of profile) (Ok v) bytes × (text ≡ verdict_line v)
    × (status ≡ status_of (named_verdict v)))

-- what is answered for no terminal, `check` may answer
abbrev pub SameInCheck : ℕ → Type 0
SameInCheck registers =
    (bytes : List ℕ) (w : NamedVerdict) → AnswersOn registers none (Ok w) bytes
    → (v : Verdict) × Answers registers (Ok v) bytes × (w ≡ named_verdict v)
