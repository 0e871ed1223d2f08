-- On the exit status of a request, and on what it read.
use Rattle.std.proofs.Common.{◌≡◌, ◌∙◌, ℕ, Bool, true, false, List, [], ◌∷◌, codes, Option, Some, None, refl, sym}
use Rattle.std.proofs.Common.{subst, inl, inr, fold, map}
use Rattle.std.specs.Prelude.{◌≢◌, ◌⊎◌, Result, Ok, Err, IfSome, if◌then◌else◌}
use Rattle.sixel_io.specs.Devices.{Change, SinkState, SourceState}
use Rattle.sixel_report.specs.declared.exit.Exit.{Exit}
use Rattle.sixel_report.specs.Lines.{all_of}
use Rattle.sixel_report.specs.declared.wanted_lines.Lines.{Lines}
use Rattle.sixel_report.specs.declared.wanted_lines.Lines.TheVariants.{Plain}
use Rattle.sixel_messages.specs.declared.shown.Shown.{Shown}
use Rattle.sixel_report.specs.declared.exit.Exit.TheVariants as exit
use Rattle.sixel_report.specs.declared.fault.RunFault.{RunFault}
use Rattle.sixel_report.specs.declared.fault.RunFault.TheVariants as run
use Rattle.sixel_report.specs.declared.task.Status.{Status}
use Rattle.sixel_report.specs.declared.task.Status.TheVariants as status
use Rattle.sixel_report.specs.declared.task.Task.{Task}
use Rattle.sixel_report.specs.declared.task.Task.TheVariants as task
use Rattle.sixel_program.specs.Exits.{RunEnds}
use Rattle.sixel_report.specs.Exits.{exit_for_answer}
use Rattle.sixel_program.specs.Files.{FileEnd, FileEnds, FilesEnd, RequestEnds, exit_of_end, labels_for, names_read}
use Rattle.sixel_program.specs.Files.{told_of, worse}
use Rattle.sixel_messages.specs.Reports.{name_of}
use Rattle.sixel_program.specs.Openings.{FolderView, bytes_of}
use Rattle.sixel_report.proofs.FormatLemmas.{as_text}
use Rattle.sixel_run.specs.Outputs.{Gives, RunWrote, Wrote, WroteBefore, WroteUnread, format_of}
use Rattle.sixel_report.specs.Texts.{Text}
use Rattle.sixel_program.proofs.DashLemmas.{labels_read}

-- ---- what is asked for

-- a run of the task over these bytes, where they are told, had an answer, and the exit status is that of it; or the
-- input wasn't read, and the status is that of a refusal
abbrev pub IsRunOver : Task → Exit → Option (List ℕ) → Type 0
IsRunOver t x told = (answer : Result Status RunFault) × (x ≡ exit_for_answer answer)
    × (x ≢ exit.Refused → (left : Option (List ℕ)) × (had : Option (List ℕ)) × (has : Option (List ℕ))
    × IfSome told (λ bytes. Wrote t bytes left answer had has))

-- what the task writes as a PPM
text_wrote : (t : Task) (told left : Option (List ℕ)) (answer : Result Status RunFault) (had has : Option (List ℕ))
    → IfSome told (λ bytes. RunWrote t bytes left answer had has)
    → (b : Option (List ℕ)) × (e : Option (List ℕ)) × IfSome told (λ bytes. Wrote t bytes left answer b e)
text_wrote t None left answer had has wrote = (had, has, tt)
text_wrote t (Some bytes) left answer had has wrote =
    as_text (Gives t bytes) (WroteUnread t bytes left) (WroteBefore t bytes) (format_of t) answer had has wrote

run_ends : (t : Task) (q : Lines) (name : Option Text) (x : Exit) (i : Change SourceState) (o e : Change SinkState)
    → RunEnds t q name x i o e → IsRunOver t x i.old.remaining
run_ends t q name x i o e ended = (
  ended.answer,
  ended.ends,
  λ judged.
      (let w = text_wrote t i.old.remaining i.new.remaining ended.answer o.old.taken o.new.taken ended.wrote in
      (i.new.remaining, w.0, w.1, w.2)),
)

file_run : {O : Type 0} (folder : FolderView O) (t : Task) (q : Lines) (name : Text) (x : Exit)
    (i : Change SourceState) (o e : Change SinkState) → FileEnds t q folder name x i o e
    → IsRunOver t x (told_of (bytes_of folder.opening) i.old.remaining name)
file_run folder t q name x i o e ended =
    subst (λ (told : Option (List ℕ)). IsRunOver t x told) ended.told (elim ended.ended [
      | inl ran ↦ run_ends t q (Some name) x ended.file o e ran.0
      | inr unopened ↦ (Err run.Read, unopened.ends, λ judged. absurd (judged unopened.ends))
    ])

module _ {O : Type 0} (folder : FolderView O) (x : Exit) (i : Change SourceState)
    (o e : Change SinkState) where
  -- one input was read, or inputs were checked, surveyed or scanned
  abbrev pub HasRead : Task → Shown → List Text → Type 0
  HasRead t h names =
      ((name : Text) × (names_read t names ≡ name ∷ [])
      × IsRunOver t x (told_of (bytes_of folder.opening) i.old.remaining name))
      ⊎ ((r : Lines) × (names_read t names ≡ map name_of (labels_for names))
      × FilesEnd t r h folder (labels_for names) x i o e)

  pub request_read : (t : Task) (q : Lines) (h : Shown) (names : List Text) → RequestEnds t q h names folder x i o e
      → HasRead t h names
  request_read (task.Check profile named) q h names ended =
      inr (q, sym (labels_read (task.Check profile named) names refl), ended)
  request_read (task.Survey profile named) q h names ended =
      inr (q, sym (labels_read (task.Survey profile named) names refl), ended)
  request_read (task.Scan profile eight) q h names ended =
      inr (all_of q, sym (labels_read (task.Scan profile eight) names refl), ended)
  request_read (task.Differ background) q h names ended =
      inr (Plain false, sym (labels_read (task.Differ background) names refl), ended)
  request_read task.List q h [] ended = inl (codes "-", refl, run_ends task.List q None x i o e ended)
  request_read task.List q h (name ∷ more) ended = inl (name, refl, file_run folder task.List q name x i o e ended)
  request_read (task.Render profile format) q h [] ended =
      inl (codes "-", refl, run_ends (task.Render profile format) q None x i o e ended)
  request_read (task.Render profile format) q h (name ∷ more) ended =
      inl (name, refl, file_run folder (task.Render profile format) q name x i o e ended)
  request_read (task.Encode profile fitting) q h [] ended =
      inl (codes "-", refl, run_ends (task.Encode profile fitting) q None x i o e ended)
  request_read (task.Encode profile fitting) q h (name ∷ more) ended =
      inl (name, refl, file_run folder (task.Encode profile fitting) q name x i o e ended)
  request_read (task.Show profile showing fill selects width height format) q h [] ended =
      inl (codes "-", refl, run_ends (task.Show profile showing fill selects width height format) q None x i o e ended)
  request_read (task.Show profile showing fill selects width height format) q h (name ∷ more) ended =
      inl
      (name, refl, file_run folder (task.Show profile showing fill selects width height format) q name x i o e ended)
  request_read (task.ShowBox profile showing fill selects format) q h [] ended =
      inl (codes "-", refl, run_ends (task.ShowBox profile showing fill selects format) q None x i o e ended)
  request_read (task.ShowBox profile showing fill selects format) q h (name ∷ more) ended =
      inl (name, refl, file_run folder (task.ShowBox profile showing fill selects format) q name x i o e ended)
  request_read (task.ShowOn named background area format) q h [] ended =
      inl (codes "-", refl, run_ends (task.ShowOn named background area format) q None x i o e ended)
  request_read (task.ShowOn named background area format) q h (name ∷ more) ended =
      inl (name, refl, file_run folder (task.ShowOn named background area format) q name x i o e ended)
  request_read (task.DifferSheet background) q h [] ended =
      inl (codes "-", refl, run_ends (task.DifferSheet background) q None x i o e ended)
  request_read (task.DifferSheet background) q h (name ∷ more) ended =
      inl (name, refl, file_run folder (task.DifferSheet background) q name x i o e ended)
  request_read (task.Mend profile background showing selects fitting) q h [] ended =
      inl (codes "-", refl, run_ends (task.Mend profile background showing selects fitting) q None x i o e ended)
  request_read (task.Mend profile background showing selects fitting) q h (name ∷ more) ended =
      inl (name, refl, file_run folder (task.Mend profile background showing selects fitting) q name x i o e ended)

answer_no_usage : (a : Result Status RunFault) → exit_for_answer a ≢ exit.Usage
answer_no_usage (Ok status.Done) = λ (is : exit.Done ≡ exit.Usage). cc
answer_no_usage (Ok (status.Broken finding)) = λ (is : exit.Broken ≡ exit.Usage). cc
answer_no_usage (Ok (status.Asked finding)) = λ (is : exit.Broken ≡ exit.Usage). cc
answer_no_usage (Ok (status.Surveyed first rules)) = λ (is : exit.Broken ≡ exit.Usage). cc
answer_no_usage (Ok (status.Noted note)) = λ (is : exit.Done ≡ exit.Usage). cc
answer_no_usage (Ok (status.Unfit wrapped)) = λ (is : exit.Broken ≡ exit.Usage). cc
answer_no_usage (Ok status.Differing) = λ (is : exit.Broken ≡ exit.Usage). cc
answer_no_usage (Err fault) = λ (is : exit.Refused ≡ exit.Usage). cc

one_of_two : (b : Bool) (x y : Exit) → x ≢ exit.Usage → y ≢ exit.Usage → (if b then y else x) ≢ exit.Usage
one_of_two true x y nx ny = ny
one_of_two false x y nx ny = nx

greatest_no_usage : (x : Exit) (ends : List FileEnd) → x ≢ exit.Usage
    → fold worse x (map exit_of_end ends) ≢ exit.Usage
greatest_no_usage x [] other = other
greatest_no_usage x (e ∷ ends) other =
    greatest_no_usage (worse x (exit_of_end e)) ends (one_of_two _ x (exit_of_end e) other (answer_no_usage e.answer))

files_no_usage : (t : Task) (q : Lines) (h : Shown) {O : Type 0} (folder : FolderView O) (labels : List (Option Text)) (x : Exit)
    (i : Change SourceState) (o e : Change SinkState) → FilesEnd t q h folder labels x i o e → x ≢ exit.Usage
files_no_usage t q h folder labels x i o e (inl done) is =
    greatest_no_usage exit.Done done.ends (λ (none : exit.Done ≡ exit.Usage). cc) (sym done.checked.exits ∙ is)
files_no_usage t q h folder labels x i o e (inr cut) is =
    let no : exit.Refused ≡ exit.Usage = sym cut.exits ∙ is in cc

pub request_no_usage : (t : Task) (q : Lines) (h : Shown) (names : List Text) {O : Type 0} (folder : FolderView O)
    (x : Exit) (i : Change SourceState) (o e : Change SinkState) → RequestEnds t q h names folder x i o e
    → x ≢ exit.Usage
request_no_usage t q h names folder x i o e ended is =
    elim (request_read folder x i o e t q h names ended) [
      | inl one ↦ answer_no_usage one.2.0 (sym one.2.1 ∙ is)
      | inr checked ↦ files_no_usage t checked.0 h folder (labels_for names) x i o e checked.2 is
    ]
