-- How requests end: over standard input or files, quiet or not.
use Rattle.std.specs.Prelude.{◌≡◌, ◌≢◌, ◌⊎◌, ◌-◌, ◌&&◌, ◌||◌, ◌∷◌, ◌++◌, ℕ, Bool, not, true, false, List, [], Option}
use Rattle.std.specs.Prelude.{Some, None, IfSome, Result, Ok, Err, codes, flat_map, fold, map, take, nat_lt, ◌≤◌, OnOk}
use Rattle.std.specs.Prelude.{count_by, length, option_to_list, if◌then◌else◌, ⊤}
use Rattle.std.specs.Io.KnownBytes.{Appends, Keeps}
use Rattle.std.specs.List.{All, list_any}
use Rattle.std.specs.Str.{bytes_eq}
use Rattle.sixel_io.specs.Devices.{Change, SinkState, SourceState, change, one_more}
use Rattle.sixel_messages.specs.declared.hints.Cause.{Cause}
use Rattle.sixel_report.specs.declared.exit.Exit.{Exit}
use Rattle.sixel_messages.specs.declared.unopened.Unopened.{Unopened}
use Rattle.sixel_report.specs.declared.exit.Exit.TheVariants.{Broken, Done, Refused}
use Rattle.sixel_scan.specs.Scans.{longest_stream}
use Rattle.sixel_report.specs.declared.fault.RunFault.{RunFault}
use Rattle.sixel_report.specs.declared.fault.RunFault.TheVariants as run
use Rattle.sixel_report.specs.declared.task.Status.{Status}
use Rattle.sixel_report.specs.declared.task.PictureFormat.{PictureFormat}
use Rattle.sixel_report.specs.declared.task.PictureFormat.TheVariants.{Ppm, Png}
use Rattle.sixel_report.specs.declared.task.Task.{Task}
use Rattle.sixel_report.specs.declared.task.Task.TheVariants.{Check, Encode, Render, Scan, Show, ShowBox, ShowOn}
use Rattle.sixel_report.specs.declared.task.Task.TheVariants.{Differ, DifferSheet, Survey}
use Rattle.sixel_messages.specs.declared.formats.Format.{Format}
use Rattle.sixel_program.specs.declared.terminals.Terminals.{Terminals}
use Rattle.sixel_messages.specs.Formats.{IsFormat}
use Rattle.sixel_report.specs.Exits.{IsPut, exit_code, exit_for_answer}
use Rattle.sixel_program.specs.Exits.{RunEnds}
use Rattle.sixel_run.specs.LineTasks.{ReadsOver, scans}
use Rattle.sixel_run.specs.Outputs.{Gives, TakesMemory, Wrote, format_of}
use Rattle.sixel_report.specs.Outputs.{failures_by}
use Rattle.sixel_messages.specs.Hints.{causes_of, hinted, hints_of}
use Rattle.sixel_messages.specs.Names.{unopened_line}
use Rattle.sixel_messages.specs.Notes.{has_wrapped, wrapped_line}
use Rattle.sixel_program.specs.Openings.{CountsOf, FailsWith, FolderView, IsOpening, Told, bytes_of}
use Rattle.sixel_report.specs.declared.item.Item.{Item}
use Rattle.sixel_report.specs.Texts.{Text, fault_line, items_text}
use Rattle.sixel_report.specs.declared.wanted_lines.Lines.{Lines}
use Rattle.sixel_report.specs.declared.wanted_lines.Lines.TheVariants.{Plain}
use Rattle.sixel_program.specs.Counts.{count_of, has_failed}
use Rattle.sixel_report.specs.Lines.{all_of, is_json, is_quiet}
use Rattle.sixel_messages.specs.declared.shown.Shown.{Shown}
use Rattle.sixel_messages.specs.Puts.{ArePut}
use Rattle.sixel_messages.specs.Reports.{name_of, written_for, refusal_text, said_of_file}

-- ---- names

-- whether this name is that of standard input
abbrev pub is_dash : Text → Bool
is_dash name = bytes_eq name (codes "-")

-- the labels of the inputs of a task with lines: the names; without names there is one input, standard input,
-- and it has none
abbrev pub labels_for : List Text → List (Option Text)
labels_for [] = None ∷ []
labels_for (name ∷ more) = map Some (name ∷ more)

-- the bytes that are read for a name, if they are known: what standard input has left, or the file's
abbrev pub told_of : (Text → Option (List ℕ)) → Option (List ℕ) → Text → Option (List ℕ)
told_of contents input name = if is_dash name then input else contents name

-- the names of what a task reads: `-` if there are none; for a task with lines, that is a check, a survey, a scan or a
-- comparison of terminals, all of them, and for any other task the first
abbrev pub names_read : Task → List Text → List Text
names_read t [] = codes "-" ∷ []
names_read (Check profile named) (name ∷ more) = name ∷ more
names_read (Survey profile named) (name ∷ more) = name ∷ more
names_read (Scan profile eight) (name ∷ more) = name ∷ more
names_read (Differ background) (name ∷ more) = name ∷ more
names_read t (name ∷ more) = name ∷ []

-- whether the task reads standard input
abbrev pub reads_input : Task → List Text → Bool
reads_input t names = list_any is_dash (names_read t names)

-- whether more than one of the names that are read is that of standard input
abbrev pub names_input_twice : Task → List Text → Bool
names_input_twice t names = nat_lt 1 (count_by is_dash (names_read t names))

-- for these bytes, if they are known, the task is done, perhaps with a note
abbrev pub IsDoneOver : Task → Option (List ℕ) → Type 0
IsDoneOver t told = IfSome told (λ bytes. (text : Text) × (found : Status)
    × (exit_for_answer (Ok found) ≡ Done) × Gives t bytes text (Ok found))

-- a scan takes all of these bytes: they are no more than a stream has; any other task takes all
abbrev pub TakesAll : Task → List ℕ → Type 0
TakesAll (Scan profile eight) bytes = length bytes ≤ longest_stream
TakesAll t bytes = ⊤

-- for these bytes, if they are known, the task finds a broken rule, or a string that isn't portable
abbrev pub IsBrokenOver : Task → Option (List ℕ) → Type 0
IsBrokenOver t told = IfSome told (λ bytes. TakesAll t bytes
    → (text : Text) × (found : Status) × (exit_for_answer (Ok found) ≡ Broken) × Gives t bytes text (Ok found))

-- for these bytes, if they are known, the task has a status, so it doesn't refuse them
abbrev pub IsJudgedOver : Task → Option (List ℕ) → Type 0
IsJudgedOver t told = IfSome told (λ bytes. (text : Text) × (status : Status) × Gives t bytes text (Ok status))

-- ---- terminals

-- what the task says if it waits for a terminal
abbrev pub waiting_line : Task → Text
waiting_line (Encode profile fitting) = codes "sixel: waiting for a PPM on standard input" ++ 10 ∷ []
waiting_line t = codes "sixel: waiting for sixel text on standard input" ++ 10 ∷ []

-- the notice before a task: one that reads standard input says that it waits, if that is a terminal and it isn't quiet
abbrev pub notice : Terminals → Task → Lines → List Text → Text
notice terminals t lines names =
    if terminals.input && not (is_quiet lines) && reads_input t names then waiting_line t else []

-- whether the task writes a picture as a PPM or a PNG
abbrev pub writes_file : Task → Bool
writes_file (Render profile format) = true
writes_file (Show profile showing fill selects width height format) = true
writes_file (ShowBox profile showing fill selects format) = true
writes_file (ShowOn named background area format) = true
writes_file (DifferSheet background) = true
writes_file t = false

-- whether the task would write a PPM or a PNG to a terminal
abbrev pub is_misdirected : Terminals → Task → Bool
is_misdirected terminals t = terminals.output && writes_file t

-- what is said of it
abbrev pub redirection_as : PictureFormat → Text
redirection_as Ppm =
    codes "sixel: a terminal can't show a PPM; redirect the output, as in `> picture.ppm`" ++ 10 ∷ []
redirection_as Png =
    codes "sixel: a terminal can't show a PNG; redirect the output, as in `> picture.png`" ++ 10 ∷ []

abbrev pub redirection : Task → Text
redirection t = redirection_as (format_of t)

-- ---- usage errors

-- what is said if standard input is named twice; the last line is that of each usage error
abbrev pub named_twice : Text
named_twice =
    codes "sixel: standard input is named twice" ++ 10 ∷ 10 ∷ codes "For more information, try '--help'." ++ 10 ∷ []

-- whether the request is a usage error: it would write a PPM or a PNG to a terminal, or it names standard input twice
abbrev pub is_misasked : Terminals → Task → List Text → Bool
is_misasked terminals t names = is_misdirected terminals t || names_input_twice t names

-- what is said of it
abbrev pub mistake : Terminals → Task → Text
mistake terminals t = if is_misdirected terminals t then redirection t else named_twice

-- ---- one file

-- the file with this name, which isn't that of standard input, couldn't be opened for this reason: the output is
-- unchanged, and the errors got the line of that reason
pub record IsUnopened (told : Told) (name : Text) (exit : Exit) (output errors : Change SinkState) : Type 0 where
  pub reason : Unopened
  pub file : is_dash name ≡ false
  pub opening : IsOpening told name (Some reason)
  pub ends : exit ≡ Refused
  pub silent : output.new ≡ output.old
  pub said : IsPut (unopened_line name reason) errors

-- an input with another name than that of standard input is the file with this name, which was opened
pub record IsOpened {O : Type 0} (folder : FolderView O) (name : Text) (input : Change SourceState) : Type 0 where
  pub opening : is_dash name ≡ false → IsOpening (folder.opening name) name None
  pub counted : is_dash name ≡ false → CountsOf folder name input

-- how a task over the file with this name ended. If the name is that of standard input, the file is `input`. Otherwise
-- `input` is unchanged, and the file was read or couldn't be opened
pub record FileEnds {O : Type 0} (t : Task) (lines : Lines) (folder : FolderView O) (name : Text) (exit : Exit)
    (input : Change SourceState) (output errors : Change SinkState) : Type 0 where
  pub file : Change SourceState
  pub told : file.old.remaining ≡ told_of (bytes_of folder.opening) input.old.remaining name
  pub is_input : is_dash name ≡ true → file ≡ input
  pub stays : is_dash name ≡ false → input.new ≡ input.old
  pub ended : (RunEnds t lines (Some name) exit file output errors × IsOpened folder name file)
      ⊎ IsUnopened (folder.opening name) name exit output errors

-- ---- checks, surveys and scans

-- how the check, the survey or the scan of an input ended: its label; why it couldn't be opened, if it couldn't; its
-- bytes and what it had left, if they are known; its format; what was found; and the answer
pub record FileEnd : Type 0 where
  pub label : Option Text
  pub unopened : Option Unopened
  pub told : Option (List ℕ)
  pub left : Option (List ℕ)
  pub format : Option Format
  pub items : List Item
  pub answer : Result Status RunFault

-- the task over those bytes may end so, and the lines of these items are what it writes. After Write, which only a scan
-- answers, they are the strings up to the one that couldn't be written
pub record IsFileEnd (t : Task) (e : FileEnd) : Type 0 where
  pub wrote : IfSome e.told (λ bytes. Wrote t bytes e.left e.answer (Some []) (Some (items_text e.items)))
  -- a check or a survey that is refused has no item
  pub refused : scans t ≡ false → (fault : RunFault) → e.answer ≡ Err fault → e.items ≡ []
  pub memory : e.answer ≡ Err run.OutOfMemory → TakesMemory t e.told
  pub written : scans t ≡ false → e.answer ≢ Err run.Write
  pub reads : ReadsOver t e.answer e.told e.left
  pub is_format : IsFormat e.told e.format

-- the file was opened, or couldn't be, which counts as a failed read. Standard input is never opened
pub record IsFileOpening {O : Type 0} (folder : FolderView O) (e : FileEnd) : Type 0 where
  pub input : is_dash (name_of e.label) ≡ true → e.unopened ≡ None
  pub opening : is_dash (name_of e.label) ≡ false
      → IsOpening (folder.opening (name_of e.label)) (name_of e.label) e.unopened
  pub unread : (reason : Unopened) → e.unopened ≡ Some reason → e.answer ≡ Err run.Read
  pub counted : is_dash (name_of e.label) ≡ false → e.unopened ≡ None → FailsWith folder (name_of e.label) e.answer

-- ---- what is written of an input

-- the output for an input
abbrev pub file_text : Lines → Option Text → Option Unopened → List Item → Result Status RunFault → Text
file_text lines label unopened items answer =
    flat_map (written_for lines label) items ++ refusal_text lines label unopened answer

abbrev pub text_of_end : Lines → FileEnd → Text
text_of_end lines e = file_text lines e.label e.unopened e.items e.answer

-- the output for several inputs
abbrev pub files_text : Lines → List FileEnd → Text
files_text lines ends = flat_map (text_of_end lines) ends

abbrev pub said_of : Lines → FileEnd → List Text
said_of lines e = said_of_file lines e.label e.unopened e.format e.answer

-- the messages about several inputs
abbrev pub complaints_of : Lines → List FileEnd → List Text
complaints_of lines ends = flat_map (said_of lines) ends

-- the greater of two exit statuses
abbrev pub worse : Exit → Exit → Exit
worse a b = if nat_lt (exit_code a) (exit_code b) then b else a

-- the greatest of the files' exit statuses
abbrev pub worst : List Exit → Exit
worst exits = fold worse Done exits

abbrev pub exit_of_end : FileEnd → Exit
exit_of_end e = exit_for_answer e.answer

abbrev pub files_exit : List FileEnd → Exit
files_exit ends = worst (map exit_of_end ends)

-- what was found wrong in these inputs
abbrev pub causes_among : List FileEnd → List Cause
causes_among ends = causes_of (map (λ e. e.answer) ends)

-- how many of the inputs aren't portable, those among them that are refused or couldn't be opened
abbrev pub failed_among : List FileEnd → ℕ
failed_among ends = count_by (λ e. has_failed e.answer) ends

-- whether a scan of one of the inputs found a wrapped string
abbrev pub wrapped_among : List FileEnd → Bool
wrapped_among ends = list_any (λ e. has_wrapped e.answer) ends

-- whether notes are written. In JSON the object of a string says that it is wrapped
abbrev pub has_notes : Lines → Shown → Bool
has_notes lines shown = shown.notes && not (is_json lines)

-- the last messages, after so many inputs of which so many failed: the hints on what was found wrong, the note on
-- wrapped strings, and the line that counts the inputs
abbrev pub closing : Task → Lines → Shown → List Cause → Bool → ℕ → ℕ → List Text
closing t lines shown causes wrapped failed all =
    hints_of t (hinted lines shown causes) ++ wrapped_line (has_notes lines shown) wrapped
    ∷ count_of t lines shown.is_terminal failed all ∷ []

abbrev pub labels_of : List FileEnd → List (Option Text)
labels_of ends = map (λ e. e.label) ends

-- what the task over the input with this label and this format did to the two sinks, given what it found and its answer.
-- `Ok`: the text for the input was appended to the output, which a quiet task leaves as it was, and the message about
-- it was put to the errors. `Err`: the output failed after a prefix of that text, and nothing was put to the errors:
-- there was nothing to say of the input, or the task wrote while it read. This can't happen if the task is quiet
abbrev pub IsOutcome : {E : Type 0} → Lines → Option Text → Option Unopened → Option Format → List Item
    → Result Status RunFault → Result (Result Status RunFault) E → Change SinkState → Change SinkState → Type 0
IsOutcome lines label unopened format items answer (Ok answered) output errors =
    (answered ≡ answer)
    × Appends output.old.taken output.new.taken (file_text lines label unopened items answer)
    × (output.new.failures ≡ output.old.failures) × ArePut (said_of_file lines label unopened format answer) errors
    × (is_quiet lines ≡ true → output.new ≡ output.old)
IsOutcome lines label unopened format items answer (Err fault) output errors =
    ((count : ℕ) × Appends output.old.taken output.new.taken (take count (file_text lines label unopened items answer)))
    × (is_quiet lines ≡ false) × (output.new.failures ≡ one_more output.old.failures)
    × ((said_of_file lines label unopened format answer ≡ []) ⊎ (answer ≡ Err run.Write)) × (errors.new ≡ errors.old)

-- the input is what has its name: standard input with the bytes that it had, or the file's bytes, if they are known. If
-- it is standard input, then what that has left, and how many calls on it have failed, is as after this input
pub record IsRead (contents : Text → Option (List ℕ)) (input : Change SourceState) (e : FileEnd) : Type 0 where
  pub told : e.told ≡ told_of contents input.old.remaining (name_of e.label)
  pub left : is_dash (name_of e.label) ≡ true → input.new.remaining ≡ e.left
  pub counted : is_dash (name_of e.label) ≡ true
      → input.new.failures ≡ failures_by run.Read e.answer input.old.failures

-- how the task over an open file, or over standard input, ended, and what it did to the two sinks
pub record IsNamedEnd {E : Type 0} (t : Task) (lines : Lines) (label : Option Text)
    (result : Result (Result Status RunFault) E) (input : Change SourceState) (output errors : Change SinkState)
    : Type 0 where
  pub format : Option Format
  pub items : List Item
  pub answer : Result Status RunFault
  pub is_end : IsFileEnd t (record {
    label = label;
    unopened = None;
    told = input.old.remaining;
    left = input.new.remaining;
    format = format;
    items = items;
    answer = answer;
  })
  pub counted : input.new.failures ≡ failures_by run.Read answer input.old.failures
  pub written : OnOk result (answer ≢ Err run.Write)
  pub outcome : IsOutcome lines label None format items answer result output errors

-- how the task over the input with this label ended, beside standard input, and what it did to the two sinks
pub record IsChecked {O E : Type 0} (t : Task) (lines : Lines) (folder : FolderView O)
    (label : Option Text) (result : Result (Result Status RunFault) E) (input : Change SourceState)
    (output errors : Change SinkState) : Type 0 where
  pub e : FileEnd
  pub label_is : e.label ≡ label
  pub read : IsRead (bytes_of folder.opening) input e
  pub is_end : IsFileEnd t e
  pub opening : IsFileOpening folder e
  pub written : OnOk result (e.answer ≢ Err run.Write)
  pub outcome : IsOutcome lines label e.unopened e.format e.items e.answer result output errors

-- all inputs with these labels were checked in turn and ended so
pub record AreChecked {O : Type 0} (t : Task) (lines : Lines) (folder : FolderView O) (ends : List FileEnd)
    (labels : List (Option Text)) (exit : Exit) (input : Change SourceState) (output errors : Change SinkState)
    : Type 0 where
  pub labels_are : labels ≡ labels_of ends
  pub each : All (IsFileEnd t) ends
  pub written : All (λ e. e.answer ≢ Err run.Write) ends
  pub openings : All (IsFileOpening folder) ends
  pub read : All (IsRead (bytes_of folder.opening) input) ends
  pub exits : exit ≡ files_exit ends
  pub wrote : Appends output.old.taken output.new.taken (files_text lines ends)
  pub unfailed : output.new.failures ≡ output.old.failures
  pub untouched : is_quiet lines ≡ true → output.new ≡ output.old
  pub said : ArePut (complaints_of lines ends) errors

-- the output failed at one of the inputs, the last that was read, or when it was flushed. The lines of the inputs
-- before it were written, and a prefix of its own
pub record AreCut {O : Type 0} (t : Task) (lines : Lines) (folder : FolderView O) (labels : List (Option Text))
    (exit : Exit) (input : Change SourceState) (output errors : Change SinkState) : Type 0 where
  pub whole : List FileEnd
  pub last : Option FileEnd
  pub rest : List (Option Text)
  pub count : ℕ
  pub wanted : is_quiet lines ≡ false
  pub labels_are : labels ≡ labels_of (whole ++ option_to_list last) ++ rest
  -- if the output failed at no input, it failed at the flush, after all of them
  pub at_the_end : last ≡ None → rest ≡ []
  pub each : All (IsFileEnd t) (whole ++ option_to_list last)
  pub written : All (λ e. e.answer ≢ Err run.Write) whole
  pub openings : All (IsFileOpening folder) (whole ++ option_to_list last)
  pub read : All (IsRead (bytes_of folder.opening) input) (whole ++ option_to_list last)
  pub exits : exit ≡ Refused
  pub wrote : Appends output.old.taken output.new.taken
      (files_text lines whole ++ take count (files_text lines (option_to_list last)))
  pub failed : output.new.failures ≡ one_more output.old.failures
  -- there was nothing to say of the last input, or the task wrote while it read
  pub silent : All (λ e. (said_of lines e ≡ []) ⊎ (e.answer ≡ Err run.Write)) (option_to_list last)
  pub said : ArePut (complaints_of lines whole ++ fault_line run.Write ∷ []) errors

-- all inputs were checked, and the output is flushed unless the task is quiet. Then the errors got the last messages
pub record AreDone {O : Type 0} (t : Task) (lines : Lines) (shown : Shown) (folder : FolderView O)
    (labels : List (Option Text)) (exit : Exit) (input : Change SourceState) (output errors : Change SinkState)
    : Type 0 where
  pub ends : List FileEnd
  pub between : SinkState
  pub checked : AreChecked t lines folder ends labels exit input output (change errors.old between)
  pub flushed : is_quiet lines ≡ false → output.new.is_flushed ≡ true
  pub closed : ArePut (closing t lines shown (causes_among ends) (wrapped_among ends) (failed_among ends) (length ends))
      (change between errors.new)

-- a check, a survey or a scan of so many inputs with this exit status, which found this wrong, a wrapped string or none,
-- and of which so many failed, came to its end: the output was flushed unless the task is quiet, and the errors got the last messages; or
-- that flush failed
abbrev pub IsFinished : Task → Lines → Shown → Exit → List Cause → Bool → ℕ → ℕ → Exit → Change SinkState
    → Change SinkState → Type 0
IsFinished t lines shown found causes wrapped failed all exit output errors =
    ((exit ≡ found) × Keeps output.old.taken output.new.taken × (output.new.failures ≡ output.old.failures)
    × (is_quiet lines ≡ false → output.new.is_flushed ≡ true) × (is_quiet lines ≡ true → output.new ≡ output.old)
    × ArePut (closing t lines shown causes wrapped failed all) errors)
    ⊎ ((exit ≡ Refused) × Keeps output.old.taken output.new.taken
    × (output.new.failures ≡ one_more output.old.failures) × (is_quiet lines ≡ false)
    × IsPut (fault_line run.Write) errors)

-- all inputs were checked, or the output failed
abbrev pub FilesEnd : {O : Type 0} → Task → Lines → Shown → FolderView O → List (Option Text) → Exit
    → Change SourceState → Change SinkState → Change SinkState → Type 0
FilesEnd t lines shown folder labels exit input output errors =
    AreDone t lines shown folder labels exit input output errors
    ⊎ AreCut t lines folder labels exit input output errors

-- ---- requests

-- how a request ended. A task with lines is of all files that are named, and any other task of the first; without names
-- it is of standard input. Only a check or a survey may leave out lines, and a comparison of terminals has no JSON
abbrev pub RequestEnds : {O : Type 0} → Task → Lines → Shown → List Text → FolderView O → Exit → Change SourceState
    → Change SinkState → Change SinkState → Type 0
RequestEnds (Check profile named) lines shown names folder exit input output errors =
    FilesEnd (Check profile named) lines shown folder (labels_for names) exit input output errors
RequestEnds (Survey profile named) lines shown names folder exit input output errors =
    FilesEnd (Survey profile named) lines shown folder (labels_for names) exit input output errors
RequestEnds (Scan profile eight) lines shown names folder exit input output errors =
    FilesEnd (Scan profile eight) (all_of lines) shown folder (labels_for names) exit input output errors
RequestEnds (Differ background) lines shown names folder exit input output errors =
    FilesEnd (Differ background) (Plain false) shown folder (labels_for names) exit input output errors
RequestEnds t lines shown [] folder exit input output errors = RunEnds t lines None exit input output errors
RequestEnds t lines shown (name ∷ more) folder exit input output errors =
    FileEnds t lines folder name exit input output errors

-- a request ended so, after its notice
abbrev pub NoticedEnds : {O : Type 0} → Text → Task → Lines → Shown → List Text → FolderView O → Exit
    → Change SourceState → Change SinkState → Change SinkState → Type 0
NoticedEnds text t lines shown names folder exit input output errors =
    (noticed : SinkState) × IsPut text (change errors.old noticed)
    × RequestEnds t lines shown names folder exit input output (change noticed errors.new)
