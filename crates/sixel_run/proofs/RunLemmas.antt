-- Lemmas for any run: a task gives one text and answer, and if the flush fails a prefix of the text was written.
use Rattle.std.proofs.Common.{◌≡◌, ◌∙◌, ℕ, Bool, List, [], take, Option, Some, None, refl, sym, ap, subst, inl, inr}
use Rattle.std.proofs.Common.{length}
use Rattle.std.proofs.Math.Seq.{take-length}
use Rattle.std.specs.Prelude.{Result, Ok, Err, IfSome}
use Rattle.std.specs.Io.KnownBytes.{Appends, Keeps}
use Rattle.std.proofs.lemmas.List.{append-nil}
use Rattle.sixel_grammar.specs.declared.fault.Fault.{Fault}
use Rattle.sixel_grammar.specs.declared.command.Placed.{Placed}
use Rattle.sixel_grammar.specs.Document.{Document}
use Rattle.sixel_grammar.specs.Faults.{IsFaultOf}
use Rattle.sixel_grammar.specs.Prefixes.{CompleteIn}
use Rattle.sixel_grammar.proofs.UniqueLemmas.{complete_once, document_once, fault_no_document, fault_once}
use Rattle.sixel_report.specs.declared.fault.RunFault.{RunFault}
use Rattle.sixel_report.specs.declared.fault.RunFault.TheVariants.{Grammar, OutOfMemory, Read, Write}
use Rattle.sixel_model.specs.Profiles.{count_of}
use Rattle.sixel_model.specs.declared.profile.Profile.{Profile}
use Rattle.sixel_scan.specs.declared.answer.Scanned.{Scanned}
use Rattle.sixel_report.specs.declared.task.Status.{Status}
use Rattle.sixel_report.specs.declared.task.Status.TheVariants.{Done}
use Rattle.sixel_report.specs.declared.task.PictureFormat.{PictureFormat}
use Rattle.sixel_report.specs.declared.task.PictureFormat.TheVariants.{Ppm, Png}
use Rattle.sixel_report.specs.declared.task.Task.{Task}
use Rattle.sixel_report.specs.declared.task.Task.TheVariants.{List as Listing, Check, Survey, Render, Show, ShowBox}
use Rattle.sixel_report.specs.declared.task.Task.TheVariants.{Encode, Differ, DifferSheet, Mend, Scan, ShowOn}
use Rattle.sixel_sheet.specs.Outputs.{differ_output, sheet_output}
use Rattle.sixel_run.specs.Outputs.{FoundNoFault, Gives, RunWrote, Wrote, WroteBefore, WroteUnread, format_of, mending}
use Rattle.sixel_list.specs.Outputs.{ListGives, ListsUnread}
use Rattle.sixel_report.specs.Outputs.{PutsText, WroteAs, WroteBy, WroteNothing, WrotePicture}
use Rattle.sixel_grammar.specs.Reading.{NoFaultBefore}
use Rattle.sixel_run.specs.Scanned.{AreOfFirst, scan_text}
use Rattle.sixel_show.specs.Screens.{screen_terminal, show_choices, show_terminal}
use Rattle.sixel_report.specs.Texts.{Text, BeginsWith, list_text}
use Rattle.sixel_list.proofs.OutputLemmas.{gives-begins}
use Rattle.sixel_show.proofs.BoxLemmas.{box-gives, box-once}
use Rattle.sixel_report.proofs.FormatLemmas.{as_mapped}
use Rattle.sixel_report.proofs.OutputLemmas.{both_are}
use Rattle.sixel_run.proofs.CheckLemmas.{check-gives, check-once}
use Rattle.sixel_sheet.proofs.DifferLemmas.{differ-gives, differ-once, differ_given, sheet_given}
use Rattle.sixel_run.proofs.FileLemmas.{encode-gives, encode-once}
use Rattle.sixel_run.proofs.MendLemmas.{mend-gives, mend-once}
use Rattle.sixel_run.proofs.PictureLemmas.{render-gives, render-once}
use Rattle.sixel_show.proofs.ScreenLemmas.{show-gives, show-once}
use Rattle.sixel_show.proofs.ShowOnLemmas.{on-gives, on-once}
use Rattle.sixel_run.proofs.StringLemmas.{before_first, given_first, scan-begins, scan-gives, scan-once}
use Rattle.sixel_run.proofs.SurveyLemmas.{survey-gives, survey-once}
use Rattle.sixel_io.proofs.SinkLemmas.{Appends-keeps}
use Rattle.sixel_grammar.proofs.TotalLemmas.{judged, viable_before}

-- ---- lists

-- the lines of a document
of_document : (bytes : List ℕ) (d : List Placed) → Document d bytes → (text : Text) (a : Result Status RunFault)
    → ListGives bytes text a → (text ≡ list_text d) × (a ≡ Ok Done)
of_document bytes d doc text (Ok s) g =
    (g.1.2 ∙ ap list_text (document_once bytes g.1.0 d g.1.1 doc), ap (λ (t : Status). Ok t) g.0)
of_document bytes d doc text (Err (Grammar f)) g = absurd (fault_no_document bytes f g.0 (d, doc))
of_document bytes d doc text (Err other) g = absurd g

-- the fault of other bytes, and the lines before it
of_fault : (bytes : List ℕ) (f : Fault) (before : List Placed) → IsFaultOf bytes f
    → CompleteIn before (take f.place bytes) → (text : Text) (a : Result Status RunFault) → ListGives bytes text a
    → (text ≡ list_text before) × (a ≡ Err (Grammar f))
of_fault bytes f before is complete text (Ok s) g = absurd (fault_no_document bytes f is (g.1.0, g.1.1))
of_fault bytes f before is complete text (Err (Grammar e)) g =
    let same : e ≡ f = fault_once bytes e f g.0 is in
    let c = subst (λ (k : Fault). CompleteIn g.1.0 (take k.place bytes)) same g.1.1 in (
      g.1.2 ∙ ap list_text (complete_once (take f.place bytes) g.1.0 before c complete),
      ap (λ (k : Fault). Err (Grammar k)) same,
    )
of_fault bytes f before is complete text (Err other) g = absurd g

pub list-once : (bytes : List ℕ) (first second : Text) (a b : Result Status RunFault) → ListGives bytes first a
    → ListGives bytes second b → (first ≡ second) × (a ≡ b)
list-once bytes first second a b g h = elim (judged bytes) [
  | inl d ↦
      let gives = of_document bytes d.0 d.1 in both_are first second a b (gives first a g) (gives second b h)
  | inr f ↦
      let v = viable_before bytes f.0 f.1 in
      let gives = of_fault bytes f.0 v.0 f.1 v.1 in
      both_are first second a b (gives first a g) (gives second b h)
]

pub list-gives : (bytes : List ℕ) → (text : Text) × (answer : Result Status RunFault) × ListGives bytes text answer
list-gives bytes =
    elim (judged bytes) [
      | inl d ↦ (list_text d.0, Ok Done, (refl, (d.0, d.1, refl)))
      | inr f ↦ let v = viable_before bytes f.0 f.1 in (list_text v.0, Err (Grammar f.0), (f.1, (v.0, v.1, refl)))
    ]

-- ---- tasks

pub gives-once : (task : Task) (bytes : List ℕ) (first second : Text) (a b : Result Status RunFault)
    → Gives task bytes first a → Gives task bytes second b → (first ≡ second) × (a ≡ b)
gives-once Listing bytes first second a b g h = list-once bytes first second a b g h
gives-once (Check profile t) bytes first second a b g h = check-once _ t bytes first second a b g h
gives-once (Render profile format) bytes first second a b g h = render-once _ bytes first second a b g h
gives-once (Encode profile fitting) bytes first second a b g h = encode-once _ fitting bytes first second a b g h
gives-once (Survey profile t) bytes first second a b g h = survey-once _ t bytes first second a b g h
gives-once (Scan profile eight) bytes first second a b g h = scan-once eight _ bytes first second a b g h
gives-once (Mend profile background showing selects fitting) bytes first second a b g h =
    mend-once _ (mending background showing selects) fitting bytes first second a b g h
gives-once (Show profile showing fill selects width height format) bytes first second a b g h =
    show-once profile (show_terminal profile (show_choices showing fill selects width height)) bytes first second a b g h
gives-once (ShowBox profile showing fill selects format) bytes first second a b g h =
    box-once profile (screen_terminal profile showing fill selects) bytes first second a b g h
gives-once (ShowOn named background area format) bytes first second a b g h =
    on-once named background area bytes first second a b g h
gives-once (Differ background) bytes first second a b g h =
    differ-once differ_output differ_given background bytes first second a b g h
gives-once (DifferSheet background) bytes first second a b g h =
    differ-once sheet_output sheet_given background bytes first second a b g h

pub gives : (task : Task) (bytes : List ℕ)
    → (text : Text) × (answer : Result Status RunFault) × Gives task bytes text answer
gives Listing bytes = list-gives bytes
gives (Check profile t) bytes = check-gives _ t bytes
gives (Render profile format) bytes = render-gives _ bytes
gives (Encode profile fitting) bytes = encode-gives _ fitting bytes
gives (Survey profile t) bytes = survey-gives _ t bytes
gives (Scan profile eight) bytes = scan-gives eight _ bytes
gives (Mend profile background showing selects fitting) bytes = mend-gives _ (mending background showing selects) fitting bytes
gives (Show profile showing fill selects width height format) bytes =
    show-gives profile (show_terminal profile (show_choices showing fill selects width height)) bytes
gives (ShowBox profile showing fill selects format) bytes =
    box-gives profile (screen_terminal profile showing fill selects) bytes
gives (ShowOn named background area format) bytes = on-gives named background area bytes
gives (Differ background) bytes = differ-gives differ_output differ_given background bytes
gives (DifferSheet background) bytes = differ-gives sheet_output sheet_given background bytes

begins-all : (first second : Text) → first ≡ second → BeginsWith second first
begins-all first second e = ([], sym e ∙ sym (append-nil first))

-- ---- a flush that fails

-- what was written before reading failed is a prefix of the text of `list`
unflushed-list : (bytes : List ℕ) (left had mid has : Option (List ℕ)) → ListsUnread bytes left had mid → Keeps mid has
    → Wrote Listing bytes left (Err Write) had has
unflushed-list bytes None had mid has w kept = absurd w.2
unflushed-list bytes (Some rest) had mid has w kept = (
  w.1,
  Appends-keeps had mid has w.1 w.4 kept,
  λ text answer g. subst (BeginsWith text) (sym w.3.1.2)
      (gives-begins bytes w.0 rest w.3.1.0 w.2 w.3.1.1 w.3.0 text answer g),
)

-- the lines of the first strings are a prefix of the text of `scan`
unflushed-scan : (profile : Profile) (eight : Bool) (bytes : List ℕ) (left had mid has : Option (List ℕ))
    (reports : List Scanned) → AreOfFirst eight (count_of profile) bytes reports
    → Appends had mid (scan_text reports) → Keeps mid has → Wrote (Scan profile eight) bytes left (Err Write) had has
unflushed-scan profile eight bytes left had mid has reports first put kept = (
  scan_text reports,
  Appends-keeps had mid has (scan_text reports) put kept,
  scan-begins eight (count_of profile) bytes reports first,
)

unflushed-unread : (task : Task) (bytes : List ℕ) (left had mid has : Option (List ℕ))
    → WroteUnread task bytes left had mid → Keeps mid has → Wrote task bytes left (Err Write) had has
unflushed-unread Listing bytes left had mid has w kept = unflushed-list bytes left had mid has w kept
unflushed-unread (Scan profile eight) bytes left had mid has w kept =
    unflushed-scan profile eight bytes left had mid has w.0
    (given_first eight (count_of profile) bytes left w.0 w.1) w.2 kept
unflushed-unread _ bytes left had mid has w kept =
    ([], Appends-keeps had mid has [] w.1 kept, λ text answer g. (text, refl))

unflushed-before : (task : Task) (bytes : List ℕ) (left had mid has : Option (List ℕ))
    → WroteBefore task bytes had mid → Keeps mid has → Wrote task bytes left (Err Write) had has
unflushed-before (Scan profile eight) bytes left had mid has w kept =
    unflushed-scan profile eight bytes left had mid has w.0
    (before_first eight (count_of profile) bytes w.0 w.1) w.2 kept
unflushed-before _ bytes left had mid has w kept =
    ([], Appends-keeps had mid has [] w kept, λ text answer g. (text, refl))

unflushed-text : (task : Task) (bytes : List ℕ) (left had mid has : Option (List ℕ)) (answer : Result Status RunFault)
    (text : Text) → Gives task bytes text answer → Appends had mid text → Keeps mid has
    → Wrote task bytes left (Err Write) had has
unflushed-text task bytes left had mid has answer text g put kept = (
  text,
  Appends-keeps had mid has text put kept,
  λ other answers h. begins-all text other (gives-once task bytes text other answer answers g h).0,
)

unflushed-run : (task : Task) (bytes : List ℕ) (left had mid has : Option (List ℕ)) (answer : Result Status RunFault)
    → Wrote task bytes left answer had mid → Keeps mid has → Wrote task bytes left (Err Write) had has
unflushed-run task bytes left had mid has (Err OutOfMemory) w kept =
    unflushed-before task bytes left had mid has w kept
unflushed-run task bytes left had mid has (Err Read) w kept = unflushed-unread task bytes left had mid has w kept
unflushed-run task bytes left had mid has (Err Write) w kept = (w.0, Appends-keeps had mid has w.0 w.1 kept, w.2)
unflushed-run task bytes left had mid has answer w kept =
    unflushed-text task bytes left had mid has answer w.0 w.1 w.2 kept

-- ---- a flush that succeeds

flushed-unread : (task : Task) (bytes : List ℕ) (left had mid has : Option (List ℕ))
    → WroteUnread task bytes left had mid → Keeps mid has → WroteUnread task bytes left had has
flushed-unread Listing bytes left had mid has w kept =
    (w.0, w.1, w.2, w.3, Appends-keeps had mid has w.1 w.4 kept)
flushed-unread (Scan profile eight) bytes left had mid has w kept =
    (w.0, w.1, Appends-keeps had mid has (scan_text w.0) w.2 kept)
flushed-unread _ bytes left had mid has w kept = (w.0, Appends-keeps had mid has [] w.1 kept)

flushed-before : (task : Task) (bytes : List ℕ) (had mid has : Option (List ℕ))
    → WroteBefore task bytes had mid → Keeps mid has → WroteBefore task bytes had has
flushed-before (Scan profile eight) bytes had mid has w kept =
    (w.0, w.1, Appends-keeps had mid has (scan_text w.0) w.2 kept)
flushed-before _ bytes had mid has w kept = Appends-keeps had mid has [] w kept

flushed-run : (task : Task) (bytes : List ℕ) (left had mid has : Option (List ℕ)) (answer : Result Status RunFault)
    → Wrote task bytes left answer had mid → Keeps mid has → Wrote task bytes left answer had has
flushed-run task bytes left had mid has (Err OutOfMemory) w kept = flushed-before task bytes had mid has w kept
flushed-run task bytes left had mid has (Err Read) w kept = flushed-unread task bytes left had mid has w kept
flushed-run task bytes left had mid has (Err Write) w kept = (w.0, Appends-keeps had mid has w.0 w.1 kept, w.2)
flushed-run task bytes left had mid has answer w kept = (w.0, w.1, Appends-keeps had mid has w.0 w.2 kept)

-- ---- a flush after a file in a format

png_flushed : (answer : Result Status RunFault) (had mid has : Option (List ℕ)) (png : Text)
    → PutsText answer had mid png → Keeps mid has → PutsText answer had has png
png_flushed (Err Write) had mid has png put kept = (put.0, Appends-keeps had mid has (take put.0 png) put.1 kept)
png_flushed answer had mid has png put kept = Appends-keeps had mid has png put kept

png_unflushed : (answer : Result Status RunFault) (had mid has : Option (List ℕ)) (png : Text)
    → PutsText answer had mid png → Keeps mid has → (n : ℕ) × Appends had has (take n png)
png_unflushed (Err Write) had mid has png put kept = (put.0, Appends-keeps had mid has (take put.0 png) put.1 kept)
png_unflushed answer had mid has png put kept =
    (length png, subst (Appends had has) (sym (take-length png)) (Appends-keeps had mid has png put kept))

flushed_as : (format : PictureFormat) (task : Task) (bytes : List ℕ) (left had mid has : Option (List ℕ))
    (answer : Result Status RunFault)
    → WroteAs format (Gives task bytes) (WroteUnread task bytes left) (WroteBefore task bytes) answer had mid
    → Keeps mid has
    → WroteAs format (Gives task bytes) (WroteUnread task bytes left) (WroteBefore task bytes) answer had has
flushed_as Ppm task bytes left had mid has answer w kept = flushed-run task bytes left had mid has answer w kept
flushed_as Png task bytes left had mid has answer w kept =
    (w.0, w.1, (w.2.0, w.2.1, png_flushed answer had mid has w.2.0 w.2.2 kept))

unflushed_as : (format : PictureFormat) (task : Task) (bytes : List ℕ) (left had mid has : Option (List ℕ))
    (answer : Result Status RunFault)
    → WroteAs format (Gives task bytes) (WroteUnread task bytes left) (WroteBefore task bytes) answer had mid
    → Keeps mid has
    → WroteAs format (Gives task bytes) (WroteUnread task bytes left) (WroteBefore task bytes) (Err Write) had has
unflushed_as Ppm task bytes left had mid has answer w kept = unflushed-run task bytes left had mid has answer w kept
unflushed_as Png task bytes left had mid has answer w kept = (
  w.0,
  unflushed-run task bytes left (Some []) (Some w.0) (Some w.0) answer w.1 refl,
  (w.2.0, w.2.1, png_unflushed answer had mid has w.2.0 w.2.2 kept),
)

pub flushed : (task : Task) (a left had mid has : Option (List ℕ)) (answer : Result Status RunFault)
    → IfSome a (λ (bytes : List ℕ). RunWrote task bytes left answer had mid) → Keeps mid has
    → IfSome a (λ (bytes : List ℕ). RunWrote task bytes left answer had has)
flushed task None left had mid has answer w kept = tt
flushed task (Some bytes) left had mid has answer w kept =
    flushed_as (format_of task) task bytes left had mid has answer w kept

pub unflushed : (task : Task) (a left had mid has : Option (List ℕ)) (answer : Result Status RunFault)
    → IfSome a (λ (bytes : List ℕ). RunWrote task bytes left answer had mid) → Keeps mid has
    → IfSome a (λ (bytes : List ℕ). RunWrote task bytes left (Err Write) had has)
unflushed task None left had mid has answer w kept = tt
unflushed task (Some bytes) left had mid has answer w kept =
    unflushed_as (format_of task) task bytes left had mid has answer w kept

-- ---- a read that fails

unread-run : (none : Type 0) (gives : Text → Result Status RunFault → Type 0) (had has : Option (List ℕ))
    (answer : Result Status RunFault) → WroteBy gives WroteNothing answer had has → (answer ≡ Err Read → none)
    → WroteBy gives (λ had has. none × WroteNothing had has) answer had has
unread-run none gives had has (Err Read) wrote is = (is refl, wrote)
unread-run none gives had has (Err OutOfMemory) wrote is = wrote
unread-run none gives had has (Err Write) wrote is = wrote
unread-run none gives had has answer wrote is = wrote

-- a run that has written nothing when a read fails, and has found no fault by then
pub unread_by : (none : List ℕ → Type 0) (gives : List ℕ → Text → Result Status RunFault → Type 0)
    (a had has : Option (List ℕ)) (answer : Result Status RunFault)
    → IfSome a (λ (bytes : List ℕ). WroteBy (gives bytes) WroteNothing answer had has)
    → (answer ≡ Err Read → IfSome a none)
    → IfSome a (λ (bytes : List ℕ). WroteBy (gives bytes) (λ had has. none bytes × WroteNothing had has) answer had has)
unread_by none gives None had has answer wrote is = tt
unread_by none gives (Some bytes) had has answer wrote is =
    unread-run (none bytes) (gives bytes) had has answer wrote is

-- the same in the words of a sixel string
pub unread : (gives : List ℕ → Text → Result Status RunFault → Type 0) (a left had has : Option (List ℕ))
    (answer : Result Status RunFault) → IfSome a (λ (bytes : List ℕ). WroteBy (gives bytes) WroteNothing answer had has)
    → (answer ≡ Err Read → IfSome a (NoFaultBefore left))
    → IfSome a (λ (bytes : List ℕ). WroteBy (gives bytes) (FoundNoFault bytes left) answer had has)
unread gives a left had has answer wrote none = unread_by (NoFaultBefore left) gives a had has answer wrote none

-- the same of a task that writes a picture
pub unread_as : (format : PictureFormat) (gives : List ℕ → Text → Result Status RunFault → Type 0)
    (a left had has : Option (List ℕ)) (answer : Result Status RunFault)
    → IfSome a (λ (bytes : List ℕ). WrotePicture format (gives bytes) answer had has)
    → (answer ≡ Err Read → IfSome a (NoFaultBefore left))
    → IfSome a (λ (bytes : List ℕ).
    WroteAs format (gives bytes) (FoundNoFault bytes left) WroteNothing answer had has)
unread_as format gives None left had has answer wrote is = tt
unread_as format gives (Some bytes) left had has answer wrote is =
    as_mapped (gives bytes) (gives bytes) WroteNothing WroteNothing (FoundNoFault bytes left) WroteNothing format answer
    had has (λ b c w. unread-run (NoFaultBefore left bytes) (gives bytes) b c answer w is) wrote
