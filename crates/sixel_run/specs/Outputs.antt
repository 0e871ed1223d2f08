-- What a run writes and answers.
use Rattle.std.specs.Prelude.{◌≡◌, ◌⊎◌, ◌==◌, ℕ, Bool, List, [], ◌≤◌, Option, IfSome, Result, Ok, Err, if◌then◌else◌}
use Rattle.std.specs.Io.KnownBytes.{Appends}
use Rattle.sixel_grammar.specs.declared.command.Placed.{Placed}
use Rattle.sixel_grammar.specs.Document.{Document, IsDocument, events_of}
use Rattle.sixel_grammar.specs.Faults.{IsFaultOf}
use Rattle.sixel_grammar.specs.Reading.{NoFaultBefore}
use Rattle.sixel_ppm.specs.declared.ppm.PpmFault.{PpmFault}
use Rattle.sixel_model.specs.Pictures.{PictureValue}
use Rattle.sixel_model.specs.Profiles.{count_of}
use Rattle.sixel_model.specs.declared.colour.Parts.{Parts}
use Rattle.sixel_ppm.specs.Ppm.{are_rgb, colours_of, ppm_text}
use Rattle.sixel_ppm.specs.PpmReading.{HasWholeHeader, NoPpmFaultBefore, ppm_read}
use Rattle.sixel_judge.specs.declared.verdict.Verdict.{Verdict}
use Rattle.sixel_judge.specs.declared.verdict.Verdict.TheVariants.{Portable, Broken}
use Rattle.sixel_judge.specs.Growth.{MayGrowIn}
use Rattle.sixel_judge.specs.Verdicts.{IsVerdict}
use Rattle.sixel_encode.specs.Canon.{canon_text}
use Rattle.sixel_survey.specs.Declaring.{DeclareBoxIn}
use Rattle.sixel_emulator_rules.specs.declared.terminals.Terminals.{Terminals}
use Rattle.sixel_emulator_check.specs.Written.{IsSurveyOf, IsVerdictOf}
use Rattle.sixel_emulator_check.specs.declared.surveying.NamedSurvey.{NamedSurvey}
use Rattle.sixel_emulator_check.specs.declared.verdict.NamedFinding.TheVariants as finding
use Rattle.sixel_emulator_check.specs.declared.verdict.NamedOutcome.{NamedOutcome}
use Rattle.sixel_emulator_check.specs.declared.verdict.NamedOutcome.TheVariants as outcome
use Rattle.sixel_emulator_check.specs.declared.verdict.NamedVerdict.{NamedVerdict}
use Rattle.sixel_emulator_check.specs.declared.verdict.NamedVerdict.TheVariants as named
use Rattle.sixel_fit.specs.Fitted.{fitted}
use Rattle.sixel_fit.specs.declared.making.FitFault.{FitFault}
use Rattle.sixel_fit.specs.declared.making.Fitting.{Fitting}
use Rattle.sixel_mend.specs.declared.mending.MendFault.{MendFault}
use Rattle.sixel_mend.specs.declared.mending.Mending.{Mending}
use Rattle.sixel_mend.specs.Mended.{mended}
use Rattle.sixel_mend.specs.Painted.{hidden_pixels}
use Rattle.sixel_mend.specs.Sizes.{IsSize}
use Rattle.sixel_scan.specs.declared.answer.Scanned.{Scanned}
use Rattle.sixel_report.specs.Conversions.{of_fit, of_mend, of_ppm}
use Rattle.sixel_report.specs.declared.fault.RunFault.{RunFault}
use Rattle.sixel_report.specs.declared.fault.RunFault.TheVariants.{Grammar, NotRgb}
use Rattle.sixel_report.specs.declared.task.Status.{Status}
use Rattle.sixel_report.specs.declared.task.Status.TheVariants as status
use Rattle.sixel_report.specs.declared.task.Note.TheVariants.{Hidden}
use Rattle.sixel_report.specs.declared.task.Status.TheVariants.{Done, Noted, Surveyed}
use Rattle.sixel_report.specs.declared.task.PictureFormat.{PictureFormat}
use Rattle.sixel_report.specs.declared.task.PictureFormat.TheVariants.{Ppm}
use Rattle.sixel_report.specs.declared.task.Task.{Task}
use Rattle.sixel_report.specs.declared.task.Task.TheVariants.{List as Listing, Check, Survey, Render, Show, ShowBox}
use Rattle.sixel_report.specs.declared.task.Task.TheVariants.{Encode, Differ, DifferSheet, Mend, Scan, ShowOn}
use Rattle.sixel_run.specs.Scanned.{AreBeforeAllocation, AreOfGiven, AreOfStream, MayGrowInString, answer_of_strings}
use Rattle.sixel_run.specs.Scanned.{scan_text}
use Rattle.sixel_sheet.specs.Outputs.{DifferGives, differ_output, sheet_output, HasEachSize, HasPictureSize}
use Rattle.sixel_report.specs.RuleSets.{rules_of}
use Rattle.sixel_show.specs.Screens.{DeclareScreenIn, screen_terminal, show_choices, show_terminal}
use Rattle.sixel_report.specs.Texts.{Text, named_verdict_line, survey_text}
use Rattle.sixel_list.specs.Outputs.{ListGives, ListsUnread}
use Rattle.sixel_show.specs.Outputs.{ShowBoxGives, ShowGives, ShowOnGives}
use Rattle.sixel_report.specs.Outputs.{GivesAs, WroteAs, WroteNothing, WroteWith}

-- ---- verdicts

-- the status of a verdict
abbrev pub status_of : NamedVerdict → Status
status_of (named.Portable picture) = Done
status_of (named.Broken finding) = status.Broken finding
status_of (named.Asked finding) = status.Asked finding

-- for a document the line of its verdict, with this many registers, for these terminals; for other bytes their fault,
-- and no text
abbrev pub CheckGives : ℕ → Terminals → List ℕ → Text → Result Status RunFault → Type 0
CheckGives registers terminals bytes text (Ok status) =
    (events : List Placed) × Document events bytes
    × ((verdict : NamedVerdict) × IsVerdictOf registers terminals bytes events verdict × (text ≡ named_verdict_line verdict)
    × (status ≡ status_of verdict))
CheckGives registers terminals bytes text (Err (Grammar fault)) = (text ≡ []) × IsFaultOf bytes fault
CheckGives registers terminals bytes text (Err fault) = ⊥

-- the status of a verdict without its picture
abbrev pub outcome_status : NamedOutcome → Status
outcome_status (outcome.Portable width height) = Done
outcome_status (outcome.Broken finding) = status.Broken finding
outcome_status (outcome.Asked finding) = status.Asked finding

-- ---- surveys

-- the status of a survey, after the verdict on the same document
abbrev pub survey_status : NamedSurvey → NamedVerdict → Status
survey_status survey (named.Portable picture) = Done
survey_status survey (named.Broken f) = Surveyed (finding.Portable f) (rules_of survey.entries.items survey.asked.items)
survey_status survey (named.Asked f) = Surveyed (finding.Asked f) (rules_of survey.entries.items survey.asked.items)

-- for a document the lines of its survey, with this many registers, for these terminals, and its status; for other
-- bytes their fault, and no text
abbrev pub SurveyGives : ℕ → Terminals → List ℕ → Text → Result Status RunFault → Type 0
SurveyGives registers terminals bytes text (Ok status) =
    (events : List Placed) × Document events bytes
    × ((survey : NamedSurvey) × IsSurveyOf registers terminals bytes events survey × (text ≡ survey_text survey)
    × ((verdict : NamedVerdict) × IsVerdictOf registers terminals bytes events verdict
    × (status ≡ survey_status survey verdict)))
SurveyGives registers terminals bytes text (Err (Grammar fault)) = (text ≡ []) × IsFaultOf bytes fault
SurveyGives registers terminals bytes text (Err fault) = ⊥

-- ---- strings of a stream

-- a line for each string of the stream, as a check with this many registers answers for its bytes; and the answer on
-- these strings
abbrev pub ScanGives : Bool → ℕ → List ℕ → Text → Result Status RunFault → Type 0
ScanGives eight registers bytes text answer =
    (reports : List Scanned) × AreOfStream eight registers bytes reports
    × (text ≡ scan_text reports) × (answer ≡ answer_of_strings reports)

-- the lines of the strings of the bytes given so far, those before `left`, were appended, without one of a string that
-- ends only because these bytes do
abbrev pub ScansUnread : Bool → ℕ → List ℕ → Option (List ℕ) → Option (List ℕ) → Option (List ℕ) → Type 0
ScansUnread eight registers bytes left had has =
    (reports : List Scanned) × AreOfGiven eight registers bytes left reports × Appends had has (scan_text reports)

-- the lines of the strings before one in which a checker may allocate were appended
abbrev pub ScansBefore : Bool → ℕ → List ℕ → Option (List ℕ) → Option (List ℕ) → Type 0
ScansBefore eight registers bytes had has =
    (reports : List Scanned) × AreBeforeAllocation eight registers bytes reports × Appends had has (scan_text reports)

-- ---- pictures

-- the PPM of a picture, if the colours of all its pixels are RGB; else NotRgb, and no text
abbrev pub picture_output : PictureValue → Text × Result Status RunFault
picture_output p =
    if are_rgb (colours_of p) then (ppm_text p.width p.height (colours_of p), Ok Done) else ([], Err NotRgb)

-- the text and the answer of a render after this verdict; no text for a broken rule
abbrev pub render_output : Verdict → Text × Result Status RunFault
render_output (Portable picture) = picture_output picture
render_output (Broken finding) = ([], Ok (status.Broken finding))

-- for a document the render_output of its verdict, with this many registers; for other bytes their fault, and no text
abbrev pub RenderGives : ℕ → List ℕ → Text → Result Status RunFault → Type 0
RenderGives registers bytes text (Err (Grammar fault)) = (text ≡ []) × IsFaultOf bytes fault
RenderGives registers bytes text answer =
    (events : List Placed) × Document events bytes
    × ((verdict : Verdict) × IsVerdict registers events verdict × ((text, answer) ≡ render_output verdict))

-- ---- picture files

-- for a picture that named terminals show its canonical text, with this status; else the fault, and no text
abbrev pub fit_output : Result PictureValue FitFault → Status → Text × Result Status RunFault
fit_output (Ok picture) status = (canon_text picture, Ok status)
fit_output (Err fault) status = ([], Err (of_fit fault))

-- for a picture, the fit_output of the one that the terminals show in its place
abbrev pub made_output : Fitting → PictureValue → Status → Text × Result Status RunFault
made_output f picture status = fit_output (fitted f.terminals f.pad picture) status

-- for a picture that was read its made_output; else the fault, and no text
abbrev pub encode_output : Fitting → Result PictureValue PpmFault → Text × Result Status RunFault
encode_output f (Ok picture) = made_output f picture Done
encode_output f (Err fault) = ([], Err (of_ppm fault))

abbrev pub EncodeGives : ℕ → Fitting → List ℕ → Text → Result Status RunFault → Type 0
EncodeGives registers f bytes text answer = (text, answer) ≡ encode_output f (ppm_read registers bytes)

-- ---- mended strings

-- the status of a mended picture that hides this many painted pixels
abbrev pub mended_status : ℕ → Status
mended_status hidden = if hidden == 0 then Done else Noted (Hidden hidden)

-- for a mended picture that hides so many pixels its made_output; else the fault, and no text
abbrev pub mend_output : Fitting → Result PictureValue MendFault → ℕ → Text × Result Status RunFault
mend_output f (Ok picture) hidden = made_output f picture (mended_status hidden)
mend_output f (Err fault) hidden = ([], Err (of_mend fault))

-- for a document the mend_output of its mended picture, in the profile with this many registers, or of the first reason
-- why there is none; for other bytes their fault, and no text
abbrev pub MendGives : ℕ → Mending → Fitting → List ℕ → Text → Result Status RunFault → Type 0
MendGives registers m f bytes text (Err (Grammar fault)) = (text ≡ []) × IsFaultOf bytes fault
MendGives registers m f bytes text answer =
    (events : List Placed) × Document events bytes
    × ((width : ℕ) × (height : ℕ) × IsSize m (events_of events) width height
    × ((text, answer) ≡ mend_output f (mended registers m (events_of events) width height)
    (hidden_pixels m (events_of events) width height)))

-- ---- tasks

-- what is asked of the terminal that shows a string to mend
abbrev pub mending : Parts → Bool → Bool → Mending
mending background showing selects = record { background = background; showing = showing; selects = selects }

-- what a task writes for these bytes, and its answer, if no allocation and no device fails; a picture as a PPM, whatever
-- its format
abbrev pub Gives : Task → List ℕ → Text → Result Status RunFault → Type 0
Gives Listing bytes text answer = ListGives bytes text answer
Gives (Check profile terminals) bytes text answer = CheckGives (count_of profile) terminals bytes text answer
Gives (Survey profile terminals) bytes text answer = SurveyGives (count_of profile) terminals bytes text answer
Gives (Scan profile eight) bytes text answer = ScanGives eight (count_of profile) bytes text answer
Gives (Render profile format) bytes text answer = RenderGives (count_of profile) bytes text answer
Gives (Encode profile fitting) bytes text answer = EncodeGives (count_of profile) fitting bytes text answer
Gives (Mend profile background showing selects fitting) bytes text answer =
    MendGives (count_of profile) (mending background showing selects) fitting bytes text answer
Gives (Show profile showing fill selects width height format) bytes text answer =
    ShowGives profile (show_terminal profile (show_choices showing fill selects width height)) bytes text answer
Gives (ShowBox profile showing fill selects format) bytes text answer =
    ShowBoxGives profile (screen_terminal profile showing fill selects) bytes text answer
Gives (ShowOn named background area format) bytes text answer = ShowOnGives named background area bytes text answer
Gives (Differ background) bytes text answer = DifferGives differ_output background bytes text answer
Gives (DifferSheet background) bytes text answer = DifferGives sheet_output background bytes text answer

-- no fault is in the bytes given so far, those before `left`, and nothing was appended to what the sink `had`
abbrev pub FoundNoFault : List ℕ → Option (List ℕ) → Option (List ℕ) → Option (List ℕ) → Type 0
FoundNoFault bytes left had has = NoFaultBefore left bytes × WroteNothing had has

-- the same where the bytes are read as a picture file
abbrev pub FoundNoPpmFault : ℕ → List ℕ → Option (List ℕ) → Option (List ℕ) → Option (List ℕ) → Type 0
FoundNoPpmFault registers bytes left had has = NoPpmFaultBefore (ppm_read registers) left bytes × WroteNothing had has

-- what a task has appended to what the sink `had` when reading these bytes fails before `left`. A fault in the bytes
-- given before that would have been answered
abbrev pub WroteUnread : Task → List ℕ → Option (List ℕ) → Option (List ℕ) → Option (List ℕ) → Type 0
WroteUnread Listing bytes left had has = ListsUnread bytes left had has
WroteUnread (Scan profile eight) bytes left had has = ScansUnread eight (count_of profile) bytes left had has
WroteUnread (Encode profile fitting) bytes left had has = FoundNoPpmFault (count_of profile) bytes left had has
WroteUnread t bytes left had has = FoundNoFault bytes left had has

-- what a task over these bytes has appended to what the sink `had` when an allocation fails
abbrev pub WroteBefore : Task → List ℕ → Option (List ℕ) → Option (List ℕ) → Type 0
WroteBefore (Scan profile eight) bytes had has = ScansBefore eight (count_of profile) bytes had has
WroteBefore t bytes had has = WroteNothing had has

-- a run of the task over these bytes, if they are known, may run out of memory: a check or a render only if a checker
-- may allocate in them, a scan only if it may in one of the strings, a survey only if a box in range is declared in
-- them, an encode only after a whole header, a mend or a comparison only for a document that has a picture's size,
-- a show only for a document, or with --box and without --on only if a screen's size is declared in them, a list never
abbrev pub TakesMemory : Task → Option (List ℕ) → Type 0
TakesMemory Listing told = ⊥
TakesMemory (Check profile terminals) told = IfSome told (MayGrowIn (count_of profile))
TakesMemory (Survey profile terminals) told = IfSome told DeclareBoxIn
TakesMemory (Scan profile eight) told = IfSome told (MayGrowInString eight (count_of profile))
TakesMemory (Render profile format) told = IfSome told (MayGrowIn (count_of profile))
TakesMemory (Encode profile fitting) told = IfSome told HasWholeHeader
TakesMemory (Mend profile background showing selects fitting) told =
    IfSome told (HasPictureSize (mending background showing selects))
TakesMemory (Show profile showing fill selects width height format) told = IfSome told IsDocument
TakesMemory (ShowBox profile showing fill selects format) told = IfSome told DeclareScreenIn
TakesMemory (ShowOn named background area format) told = IfSome told IsDocument
TakesMemory (Differ background) told = IfSome told HasEachSize
TakesMemory (DifferSheet background) told = IfSome told HasEachSize

-- what a run of the task over these bytes, with `left` unread, appended to what the sink `had`, for this answer; a
-- picture as a PPM, whatever its format
abbrev pub Wrote : Task → List ℕ → Option (List ℕ)
    → Result Status RunFault → Option (List ℕ) → Option (List ℕ) → Type 0
Wrote task bytes left answer had has =
    WroteWith (Gives task bytes) (WroteUnread task bytes left) (WroteBefore task bytes) answer had has

-- ---- formats

-- the format of the picture that a task writes; any other text is as it is, as for a PPM
abbrev pub format_of : Task → PictureFormat
format_of (Render profile format) = format
format_of (Show profile showing fill selects width height format) = format
format_of (ShowBox profile showing fill selects format) = format
format_of (ShowOn named background area format) = format
format_of t = Ppm

-- what a run of the task over these bytes writes and answers, if no allocation and no device fails
abbrev pub RunGives : Task → List ℕ → Text → Result Status RunFault → Type 0
RunGives task bytes text answer = GivesAs (format_of task) (Gives task bytes) text answer

-- what a run of the task over these bytes, with `left` unread, appended to what the sink `had`, for this answer
abbrev pub RunWrote : Task → List ℕ → Option (List ℕ)
    → Result Status RunFault → Option (List ℕ) → Option (List ℕ) → Type 0
RunWrote task bytes left answer had has =
    WroteAs (format_of task) (Gives task bytes) (WroteUnread task bytes left) (WroteBefore task bytes) answer had has
