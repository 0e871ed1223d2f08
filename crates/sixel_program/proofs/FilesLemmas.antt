-- On checks and surveys of several files.
use Rattle.std.proofs.Common.{◌≡◌, ◌∙◌, ◌+◌, ◌<◌, ℕ, Bool, true, false, List, [], ◌∷◌, ◌++◌, length, take, drop, Option}
use Rattle.std.proofs.Common.{Some, None, refl, sym, ap, ap₂, subst, arith, inl, inr, flat_map, All, map, ◌==◌, ◌||◌}
use Rattle.std.proofs.Common.{cond, get_or}
use Rattle.std.proofs.lemmas.Bool.{eqb-true}
use Rattle.std.specs.Prelude.{◌⊎◌, ◌≢◌, Result, Ok, Err, IfSome, String, string_bytes}
use Rattle.std.specs.Global.{Global}
use Rattle.std.specs.Io.KnownBytes.{Appends, Consumes, Keeps}
use Rattle.std.proofs.KnownBytes.{Consumes-nil, Appends-trans}
use Rattle.std.specs.List.{list_any}
use Rattle.std.proofs.lemmas.List.{append-nil, length-append, take-append-drop, take_more, map-append}
use Rattle.std.proofs.lemmas.List.Elements.{All-cons, All-head, All-nil, All-push, All-tail}
use Rattle.std.proofs.lemmas.Grind.{flat_map-append}
use Rattle.std.proofs.lemmas.List.Folds.{list_any-append}
use Rattle.std.proofs.lemmas.List.Sums.{fold-append, fold_push, sum_by_push}
use Rattle.sixel_io.specs.Devices.{Change, SinkState, SourceState, change, one_more}
use Rattle.sixel_io.proofs.SinkLemmas.{Appends-keeps, Appends-none}
use Rattle.sixel_io.proofs.DeviceLemmas.{Appends-then}
use Rattle.sixel_grammar.specs.Faults.{NothingYet}
use Rattle.sixel_grammar.specs.Reading.{NoFaultBefore}
use Rattle.sixel_grammar.proofs.PrefixLemmas.{nothing as none_yet}
use Rattle.sixel_grammar.proofs.ViableLemmas.{complete}
use Rattle.sixel_model.specs.Profiles.{count_of}
use Rattle.sixel_messages.specs.declared.hints.Cause.{Cause}
use Rattle.sixel_run.proofs.StringLemmas.{none_given}
use Rattle.sixel_report.specs.declared.exit.Exit.{Exit}
use Rattle.sixel_report.specs.declared.exit.Exit.TheVariants as exit
use Rattle.sixel_report.specs.declared.fault.RunFault.{RunFault}
use Rattle.sixel_report.specs.declared.fault.RunFault.TheVariants as run
use Rattle.sixel_report.specs.declared.task.Status.{Status}
use Rattle.sixel_report.specs.declared.task.Task.{Task}
use Rattle.sixel_report.specs.declared.task.Task.TheVariants as task
use Rattle.sixel_report.specs.declared.task.Task.TheVariants.{Check}
use Rattle.sixel_report.specs.Exits.{IsPut, exit_for_answer}
use Rattle.sixel_messages.specs.Formats.{IsFormat}
use Rattle.sixel_messages.specs.declared.formats.Format.TheVariants.{Empty}
use Rattle.sixel_program.specs.Files.{AreChecked, FileEnd, FilesEnd, IsChecked, IsFileEnd, AreCut, IsFileOpening}
use Rattle.sixel_program.specs.Files.{IsFinished, IsRead, causes_among, complaints_of, failed_among, exit_of_end}
use Rattle.sixel_program.specs.Files.{files_exit, files_text, is_dash, labels_for, labels_of, said_of, text_of_end}
use Rattle.sixel_program.specs.Files.{worse, worst, wrapped_among}
use Rattle.sixel_messages.specs.Reports.{name_of}
use Rattle.sixel_messages.specs.Notes.{has_wrapped}
use Rattle.sixel_run.specs.LineTasks.{ReadsOver, has_lines}
use Rattle.sixel_messages.specs.Hints.{causes_in, causes_of, with_cause, with_causes}
use Rattle.sixel_program.specs.Openings.{FailsWith, FolderView, bytes_of}
use Rattle.sixel_messages.specs.declared.unopened.Unopened.{Unopened}
use Rattle.sixel_run.specs.Outputs.{RunWrote, TakesMemory, Wrote}
use Rattle.sixel_report.specs.Outputs.{failures_by}
use Rattle.sixel_program.specs.Counts.{has_failed}
use Rattle.sixel_report.specs.declared.wanted_lines.Lines.{Lines}
use Rattle.sixel_messages.specs.declared.shown.Shown.{Shown}
use Rattle.sixel_report.specs.Texts.{Text, fault_line}
use Rattle.sixel_program.proofs.DashLemmas.{or_false}
use Rattle.sixel_program.proofs.EndLemmas.{kept}
use Rattle.sixel_messages.proofs.PutsLemmas.{none_put, one_put, put_then}

-- the names of the inputs that ended so
abbrev pub names_of : List FileEnd → List Text
names_of ends = map name_of (labels_of ends)

-- ---- one file more

pub none_checked : (t : Task) (q : Lines) {O : Type 0} (folder : FolderView O) (i : SourceState)
    (o e : SinkState)
    → AreChecked t q folder [] [] exit.Done (change i i) (change o o) (change e e)
none_checked t q folder i o e = record {
  labels_are = refl;
  each = λ i e short. let no : ⊥ = omega (arith, short) in absurd no;
  written = λ i e short. let no : ⊥ = omega (arith, short) in absurd no;
  openings = λ i e short. let no : ⊥ = omega (arith, short) in absurd no;
  read = λ i e short. let no : ⊥ = omega (arith, short) in absurd no;
  exits = refl;
  wrote = Appends-none o.taken;
  unfailed = refl;
  untouched = λ quiet. refl;
  said = none_put e;
}

-- the names of the files so far, with one more
pub more_names : (names : List (String Global)) (i : ℕ) (item : String Global) (name : Text) → i < length names
    → item ≡ get_or names i item → name ≡ string_bytes item
    → map string_bytes (take (i + 1) names) ≡ map string_bytes (take i names) ++ name ∷ []
more_names names i item name short is named =
    ap (map string_bytes) (take_more names i item short ∙ ap (λ (s : String Global). take i names ++ s ∷ []) (sym is))
    ∙ map-append string_bytes (take i names) (item ∷ [])
    ∙ ap (λ (t : Text). map string_bytes (take i names) ++ t ∷ []) (sym named)

-- and those after it
pub all_names : (names : List (String Global)) (i : ℕ) (item : String Global) (name : Text) → i < length names
    → item ≡ get_or names i item → name ≡ string_bytes item
    → map string_bytes names
    ≡ (map string_bytes (take i names) ++ name ∷ []) ++ map string_bytes (drop (i + 1) names)
all_names names i item name short is named =
    ap (map string_bytes) (sym (take-append-drop (i + 1) names))
    ∙ map-append string_bytes (take (i + 1) names) (drop (i + 1) names)
    ∙ ap (λ (ts : List Text). ts ++ map string_bytes (drop (i + 1) names)) (more_names names i item name short is named)

-- without names the input has no label
pub labels_none : (names : List (String Global)) → (length names == 0) ≡ true
    → labels_for (map string_bytes names) ≡ None ∷ []
labels_none [] is = refl
labels_none (name ∷ more) is = let none : length (name ∷ more) ≡ 0 = eqb-true _ _ is in absurd (omega (arith, none))

pub labels_some : (names : List (String Global)) → (length names == 0) ≡ false
    → labels_for (map string_bytes names) ≡ map Some (map string_bytes names)
labels_some [] is = let no : true ≡ false = is in cc
labels_some (name ∷ more) is = refl

-- the labels of the inputs so far, with one more
pub more_labels : (names : List (String Global)) (i : ℕ) (item : String Global) (name : Text) → i < length names
    → item ≡ get_or names i item → name ≡ string_bytes item
    → map Some (map string_bytes (take (i + 1) names)) ≡ map Some (map string_bytes (take i names)) ++ Some name ∷ []
more_labels names i item name short is named =
    ap (map Some) (more_names names i item name short is named)
    ∙ map-append Some (map string_bytes (take i names)) (name ∷ [])

-- and those after it
pub all_labels : (names : List (String Global)) (i : ℕ) (item : String Global) (name : Text) → i < length names
    → item ≡ get_or names i item → name ≡ string_bytes item → (length names == 0) ≡ false
    → labels_for (map string_bytes names)
    ≡ (map Some (map string_bytes (take i names)) ++ Some name ∷ []) ++ map Some (map string_bytes (drop (i + 1) names))
all_labels names i item name short is named some =
    labels_some names some ∙ ap (map Some) (all_names names i item name short is named)
    ∙ map-append Some (map string_bytes (take i names) ++ name ∷ []) (map string_bytes (drop (i + 1) names))
    ∙ ap (λ (ls : List (Option Text)). ls ++ map Some (map string_bytes (drop (i + 1) names)))
    (map-append Some (map string_bytes (take i names)) (name ∷ []))

-- files that aren't standard input were read so, whatever was done to it after them
reads_kept : (contents : Text → Option (List ℕ)) (i₀ i₁ i₂ : SourceState) (ends : List FileEnd)
    → list_any is_dash (names_of ends) ≡ false → All (IsRead contents (change i₀ i₁)) ends
    → All (IsRead contents (change i₀ i₂)) ends
reads_kept contents i₀ i₁ i₂ [] none read = All-nil (IsRead contents (change i₀ i₂))
reads_kept contents i₀ i₁ i₂ (e ∷ ends) none read =
    let both = or_false (is_dash (name_of e.label)) (list_any is_dash (names_of ends)) none in
    All-cons (IsRead contents (change i₀ i₂)) e ends (record {
      told = (All-head (IsRead contents (change i₀ i₁)) e ends read).told;
      left = λ is. let no : true ≡ false = sym is ∙ both.0 in cc;
      counted = λ is. let no : true ≡ false = sym is ∙ both.0 in cc;
    })
    (reads_kept contents i₀ i₁ i₂ ends both.1 (All-tail (IsRead contents (change i₀ i₁)) e ends read))

module _ (contents : Text → Option (List ℕ)) (i₀ i₁ i₂ : SourceState) (ends : List FileEnd) (e : FileEnd)
    (read : All (IsRead contents (change i₀ i₁)) ends) (last : IsRead contents (change i₁ i₂) e) where
  file_read : (dash : Bool) → is_dash (name_of e.label) ≡ dash → (dash ≡ false → i₂ ≡ i₁)
      → (dash ≡ true → list_any is_dash (names_of ends) ≡ false)
      → (list_any is_dash (names_of ends) ≡ false → i₁ ≡ i₀)
      → All (IsRead contents (change i₀ i₂)) (ends ++ e ∷ [])
  file_read true dash stays first unread =
      let none = first refl in
      All-push (IsRead contents (change i₀ i₂)) ends e (reads_kept contents i₀ i₁ i₂ ends none read)
      (subst (λ (i : SourceState). IsRead contents (change i i₂) e) (unread none) last)
  file_read false other stays first unread =
      let same = stays refl in
      All-push (IsRead contents (change i₀ i₂)) ends e
      (subst (λ (i : SourceState). All (IsRead contents (change i₀ i)) ends) (sym same) read) (record {
        told = last.told ∙ rw other refl;
        left = λ is. let no : true ≡ false = sym is ∙ other in cc;
        counted = λ is. let no : true ≡ false = sym is ∙ other in cc;
      })

text_more : {X : Type 0} (f : FileEnd → List X) (ends : List FileEnd) (e : FileEnd)
    → flat_map f (ends ++ e ∷ []) ≡ flat_map f ends ++ f e
text_more {X} f ends e =
    flat_map-append f ends (e ∷ []) ∙ ap (λ (t : List X). flat_map f ends ++ t) (append-nil (f e))

exits_more : (ends : List FileEnd) (e : FileEnd) → files_exit (ends ++ e ∷ []) ≡ worse (files_exit ends) (exit_of_end e)
exits_more ends e =
    ap worst (map-append exit_of_end ends (e ∷ []))
    ∙ fold_push worse exit.Done (map exit_of_end ends) (exit_of_end e)

labels_more : (ends : List FileEnd) (e : FileEnd) → labels_of (ends ++ e ∷ []) ≡ labels_of ends ++ e.label ∷ []
labels_more ends e = map-append (λ e. e.label) ends (e ∷ [])

pub from_done : (x : Exit) → worse exit.Done x ≡ x
from_done exit.Done = refl
from_done exit.Broken = refl
from_done exit.Refused = refl
from_done exit.Usage = refl

causes_more : (ends : List FileEnd) (e : FileEnd)
    → causes_among (ends ++ e ∷ []) ≡ with_causes (causes_among ends) (causes_in e.answer)
causes_more ends e =
    let answers = map (λ (e : FileEnd). e.answer) ends in
    ap causes_of (map-append (λ (e : FileEnd). e.answer) ends (e ∷ []))
    ∙ ap (with_causes []) (flat_map-append causes_in answers (e.answer ∷ [])
    ∙ ap (λ (causes : List Cause). flat_map causes_in answers ++ causes) (append-nil (causes_in e.answer)))
    ∙ fold-append with_cause [] (flat_map causes_in answers) (causes_in e.answer)

or_none : (b : Bool) → (b || false) ≡ b
or_none true = refl
or_none false = refl

wrapped_more : (ends : List FileEnd) (e : FileEnd)
    → wrapped_among (ends ++ e ∷ []) ≡ (wrapped_among ends || has_wrapped e.answer)
wrapped_more ends e =
    list_any-append (λ (e : FileEnd). has_wrapped e.answer) ends (e ∷ [])
    ∙ ap (λ (b : Bool). wrapped_among ends || b) (or_none (has_wrapped e.answer))

failed_more : (ends : List FileEnd) (e : FileEnd)
    → failed_among (ends ++ e ∷ []) ≡ failed_among ends + cond (has_failed e.answer) 1 0
failed_more ends e =
    sum_by_push (λ (e : FileEnd). cond (has_failed e.answer) 1 0) ends e

module _ (t : Task) (q : Lines) {O : Type 0} (folder : FolderView O) (ends : List FileEnd)
    (labels : List (Option Text)) (label : Option Text) (x : Exit) (i₀ i₁ i₂ : SourceState)
    (o₀ o₁ o₂ e₀ e₁ e₂ : SinkState)
    (before : AreChecked t q folder ends labels x (change i₀ i₁) (change o₀ o₁) (change e₀ e₁))
    (stays : is_dash (name_of label) ≡ false → i₂ ≡ i₁)
    (first : is_dash (name_of label) ≡ true → list_any is_dash (map name_of labels) ≡ false)
    (unread : list_any is_dash (map name_of labels) ≡ false → i₁ ≡ i₀) where
  all_read : (e : FileEnd) → e.label ≡ label → IsRead (bytes_of folder.opening) (change i₁ i₂) e
      → All (IsRead (bytes_of folder.opening) (change i₀ i₂)) (ends ++ e ∷ [])
  all_read e is read =
      file_read (bytes_of folder.opening) i₀ i₁ i₂ ends e before.read read (is_dash (name_of label))
      (ap (λ (l : Option Text). is_dash (name_of l)) is) stays (rw before.labels_are at first)
      (rw before.labels_are at unread)

  pub checked_more : {E : Type 0} (y : Result Status RunFault)
      → IsChecked {E = E} t q folder label (Ok y) (change i₁ i₂) (change o₁ o₂) (change e₁ e₂)
      → (all : List FileEnd) × AreChecked t q folder all (labels ++ label ∷ [])
      (worse x (exit_for_answer y)) (change i₀ i₂) (change o₀ o₂) (change e₀ e₂)
      × (causes_among all ≡ with_causes (causes_among ends) (causes_in y))
      × (wrapped_among all ≡ (wrapped_among ends || has_wrapped y))
      × (failed_among all ≡ failed_among ends + cond (has_failed y) 1 0) × (length all ≡ length ends + 1)
  checked_more y one = (
    ends ++ one.e ∷ [],
    record {
      labels_are = ap₂ (λ (ls : List (Option Text)) (l : Option Text). ls ++ l ∷ []) before.labels_are
          (sym one.label_is)
          ∙ sym (labels_more ends one.e);
      each = All-push (IsFileEnd t) ends one.e before.each one.is_end;
      written = All-push (λ (e : FileEnd). e.answer ≢ Err run.Write) ends one.e before.written one.written;
      openings = All-push (IsFileOpening folder) ends one.e before.openings one.opening;
      read = all_read one.e one.label_is one.read;
      exits = ap₂ worse before.exits (ap exit_for_answer one.outcome.0) ∙ sym (exits_more ends one.e);
      wrote = Appends-then o₀.taken o₁.taken o₂.taken (files_text q ends) (text_of_end q one.e) _ before.wrote
          (rw one.label_is one.outcome.1) (text_more (text_of_end q) ends one.e);
      unfailed = one.outcome.2 ∙ before.unfailed;
      untouched = λ quiet. one.outcome.4 quiet ∙ before.untouched quiet;
      said = rw (text_more (said_of q) ends one.e)
          (put_then (complaints_of q ends) (said_of q one.e) e₀ e₁ e₂ before.said (rw one.label_is one.outcome.3));
    },
    causes_more ends one.e
        ∙ ap (λ (a : Result Status RunFault). with_causes (causes_among ends) (causes_in a)) (sym one.outcome.0),
    wrapped_more ends one.e
        ∙ ap (λ (a : Result Status RunFault). wrapped_among ends || has_wrapped a) (sym one.outcome.0),
    failed_more ends one.e
        ∙ ap (λ (a : Result Status RunFault). failed_among ends + cond (has_failed a) 1 0) (sym one.outcome.0),
    length-append ends (one.e ∷ []),
  )

  pub cut_after : {E : Type 0} (f : E) (all rest : List (Option Text)) (e₃ : SinkState)
      → all ≡ (labels ++ label ∷ []) ++ rest
      → IsChecked {E = E} t q folder label (Err f) (change i₁ i₂) (change o₁ o₂) (change e₁ e₂)
      → IsPut (fault_line run.Write) (change e₂ e₃)
      → AreCut t q folder all exit.Refused (change i₀ i₂) (change o₀ o₂) (change e₀ e₃)
  cut_after f all rest e₃ is one put =
      let cut : (count : ℕ) × Appends o₁.taken o₂.taken (take count (text_of_end q one.e)) =
      rw one.label_is one.outcome.0 in
      record {
        whole = ends;
        last = Some one.e;
        rest = rest;
        at_the_end = λ is. cc;
        count = cut.0;
        wanted = one.outcome.1;
        labels_are = is ∙ ap (λ (ls : List (Option Text)). ls ++ rest)
            (ap₂ (λ (ls : List (Option Text)) (l : Option Text). ls ++ l ∷ []) before.labels_are (sym one.label_is)
            ∙ sym (labels_more ends one.e));
        each = All-push (IsFileEnd t) ends one.e before.each one.is_end;
        written = before.written;
        openings = All-push (IsFileOpening folder) ends one.e before.openings one.opening;
        read = all_read one.e one.label_is one.read;
        exits = refl;
        wrote = Appends-trans o₀.taken o₁.taken o₂.taken (files_text q ends) _ before.wrote
            (rw (append-nil (text_of_end q one.e)) cut.1);
        failed = one.outcome.2 ∙ ap one_more before.unfailed;
        silent = All-cons (λ (e : FileEnd). (said_of q e ≡ []) ⊎ (e.answer ≡ Err run.Write)) one.e []
            (rw one.label_is one.outcome.3)
            (All-nil (λ (e : FileEnd). (said_of q e ≡ []) ⊎ (e.answer ≡ Err run.Write)));
        said = put_then (complaints_of q ends) (fault_line run.Write ∷ []) e₀ e₁ e₃ before.said
            (one_put (fault_line run.Write) e₁ e₃
            (subst (λ (e : SinkState). IsPut (fault_line run.Write) (change e e₃)) one.outcome.4 put));
      }

-- ---- one file

-- no format is that of no bytes
pub no_format : (told : Option (List ℕ)) → IsFormat told None
no_format None = tt
no_format (Some bytes) = inl ([], (bytes, refl), refl)

-- an input without bytes has the format that says so
pub empty_format : (told : Option (List ℕ)) → IfSome told (λ bytes. bytes ≡ []) → IsFormat told (Some Empty)
empty_format None none = tt
empty_format (Some bytes) none = inr (none, refl)

pub memory_kept : (t : Task) (told has : Option (List ℕ)) → Keeps told has → TakesMemory t has → TakesMemory t told
memory_kept task.List told has same takes = absurd takes
memory_kept (task.Check profile named) told has same takes = kept _ told has same takes
memory_kept (task.Survey profile named) told has same takes = kept _ told has same takes
memory_kept (task.Scan profile eight) told has same takes = kept _ told has same takes
memory_kept (task.Render profile format) told has same takes = kept _ told has same takes
memory_kept (task.Encode profile fitting) told has same takes = kept _ told has same takes
memory_kept (task.Show profile showing fill selects width height format) told has same takes =
    kept _ told has same takes
memory_kept (task.ShowBox profile showing fill selects format) told has same takes = kept _ told has same takes
memory_kept (task.ShowOn named background area format) told has same takes = kept _ told has same takes
memory_kept (task.Differ background) told has same takes = kept _ told has same takes
memory_kept (task.DifferSheet background) told has same takes = kept _ told has same takes
memory_kept (task.Mend profile background showing selects fitting) told has same takes = kept _ told has same takes

-- what was read of a source was read of the bytes that the source was made from
consumed_kept : (bytes : List ℕ) (told has left : Option (List ℕ)) → Keeps told has → Consumes has left bytes
    → Consumes told left bytes
consumed_kept bytes None has left same all = tt
consumed_kept bytes (Some had) None left same all = absurd same
consumed_kept bytes (Some had) (Some more) None same all = absurd all
consumed_kept bytes (Some had) (Some more) (Some rest) same all = let is : more ≡ had = same in sym is ∙ all

pub over_kept : (t : Task) (answer : Result Status RunFault) (told has left : Option (List ℕ)) → Keeps told has
    → ReadsOver t answer has left → ReadsOver t answer told left
over_kept t answer told has left same over = record {
  bytes = over.bytes;
  read = consumed_kept over.bytes told has left same over.read;
  ended = over.ended;
}

pub wrote_kept : (t : Task) (told has left : Option (List ℕ)) (answer : Result Status RunFault)
    (was is : Option (List ℕ)) → Keeps told has → IfSome has (λ bytes. Wrote t bytes left answer was is)
    → IfSome told (λ bytes. Wrote t bytes left answer was is)
wrote_kept t told has left answer was is same =
    kept (λ (bytes : List ℕ). Wrote t bytes left answer was is) told has same

pub run_kept : (t : Task) (told has left : Option (List ℕ)) (answer : Result Status RunFault)
    (was is : Option (List ℕ)) → Keeps told has → IfSome has (λ bytes. RunWrote t bytes left answer was is)
    → IfSome told (λ bytes. RunWrote t bytes left answer was is)
run_kept t told has left answer was is same =
    kept (λ (bytes : List ℕ). RunWrote t bytes left answer was is) told has same

-- a file was opened without a failure; if calls on an input over it failed, calls on it did
pub fails_with : {O : Type 0} (folder : FolderView O) (name : Text) (answer : Result Status RunFault) (opened ended : O)
    (old new : ℕ) → folder.state opened ≡ record { remaining = bytes_of folder.opening name; failures = 0 }
    → old ≡ 0 → new ≡ failures_by run.Read answer old → (0 < new → 0 < (folder.state ended).failures)
    → FailsWith folder name answer
fails_with folder name answer opened ended old new fresh none counts failed = λ read.
    let one : new ≡ 1 = rw (read, none) at counts in
    record { opened = opened; ended = ended; fresh = fresh; failed = failed (omega (arith, one)) }

-- no bytes have no fault
none_given_yet : (bytes : List ℕ) → NoFaultBefore (Some bytes) bytes
none_given_yet bytes = ([], refl, omega arith, ([], complete NothingYet none_yet))

-- a file that couldn't be opened
pub unopened : (t : Task) → has_lines t ≡ true → (label : Option Text) (reason : Unopened) (told : Option (List ℕ))
    → IsFileEnd t (record {
      label = label;
      unopened = Some reason;
      told = told;
      left = told;
      format = None;
      items = [];
      answer = Err run.Read;
    })
unopened t has label reason told = record {
  wrote = nothing t has told;
  memory = λ is. cc;
  refused = λ found fault is. refl;
  written = λ found is. cc;
  reads = record { bytes = []; read = Consumes-nil told; ended = tt };
  is_format = no_format told;
}
  where
    nothing : (t : Task) → has_lines t ≡ true → (told : Option (List ℕ))
        → IfSome told (λ bytes. Wrote t bytes told (Err run.Read) (Some []) (Some []))
    nothing t has None = tt
    nothing (task.Check profile named) has (Some bytes) = (none_given_yet bytes, refl)
    nothing (task.Survey profile named) has (Some bytes) = (none_given_yet bytes, refl)
    nothing (task.Differ background) has (Some bytes) = (none_given_yet bytes, refl)
    nothing (task.Scan profile eight) has (Some bytes) = ([], none_given eight (count_of profile) bytes, refl)
    nothing _ has (Some bytes) = absurd (let no : false ≡ true = has in cc)

-- ---- when all inputs are checked

module _ (t : Task) (q : Lines) (h : Shown) {O : Type 0} (folder : FolderView O) (ends : List FileEnd)
    (labels : List (Option Text)) (x y : Exit) (causes : List Cause) (wrapped : Bool) (failed all : ℕ)
    (i : Change SourceState)
    (o₀ o₁ o₂ e₀ e₁ e₂ : SinkState)
    (before : AreChecked t q folder ends labels x i (change o₀ o₁) (change e₀ e₁)) where
  pub ended : causes ≡ causes_among ends → wrapped ≡ wrapped_among ends → failed ≡ failed_among ends
      → all ≡ length ends → IsFinished t q h x causes wrapped failed all y (change o₁ o₂) (change e₁ e₂)
      → FilesEnd t q h folder labels y i (change o₀ o₂) (change e₀ e₂)
  ended first noted counted many (inl (is, kept, same, flushed, untouched, put)) =
      inl (record {
        ends = ends;
        between = e₁;
        checked = rw is (record {
          labels_are = before.labels_are;
          each = before.each;
          written = before.written;
          openings = before.openings;
          read = before.read;
          exits = before.exits;
          wrote = Appends-keeps o₀.taken o₁.taken o₂.taken (files_text q ends) before.wrote kept;
          unfailed = same ∙ before.unfailed;
          untouched = λ quiet. untouched quiet ∙ before.untouched quiet;
          said = before.said;
        });
        flushed = flushed;
        closed = rw (first, noted, counted, many) at put;
      })
  ended first noted counted many (inr (is, kept, cut, wanted, put)) =
      let none : ends ++ [] ≡ ends = append-nil ends in
      inr (record {
        whole = ends;
        last = None;
        rest = [];
        at_the_end = λ is. refl;
        count = 0;
        wanted = wanted;
        labels_are = before.labels_are ∙ sym (append-nil (labels_of (ends ++ [])) ∙ ap labels_of none);
        each = rw none before.each;
        written = before.written;
        openings = rw none before.openings;
        read = rw none before.read;
        exits = is;
        wrote = rw (append-nil (files_text q ends))
            (Appends-keeps o₀.taken o₁.taken o₂.taken (files_text q ends) before.wrote kept);
        failed = cut ∙ ap one_more before.unfailed;
        silent = All-nil (λ (e : FileEnd). (said_of q e ≡ []) ⊎ (e.answer ≡ Err run.Write));
        said = put_then (complaints_of q ends) (fault_line run.Write ∷ []) e₀ e₁ e₂ before.said
            (one_put (fault_line run.Write) e₁ e₂ put);
      })

-- one input alone
module _ (t : Task) (q : Lines) (h : Shown) {O : Type 0} (folder : FolderView O) (label : Option Text) (i₀ i₁ : SourceState)
    (o₀ o₁ o₂ e₀ e₁ e₂ : SinkState) (stays : is_dash (name_of label) ≡ false → i₁ ≡ i₀) where
  pub one_ended : {E : Type 0} (answer : Result Status RunFault) (x y : Exit) (causes : List Cause) (wrapped : Bool)
      (failed : ℕ)
      → IsChecked {E = E} t q folder label (Ok answer) (change i₀ i₁) (change o₀ o₁) (change e₀ e₁)
      → x ≡ exit_for_answer answer → causes ≡ with_causes [] (causes_in answer) → wrapped ≡ has_wrapped answer
      → failed ≡ cond (has_failed answer) 1 0
      → IsFinished t q h x causes wrapped failed 1 y (change o₁ o₂) (change e₁ e₂)
      → FilesEnd t q h folder (label ∷ []) y (change i₀ i₁) (change o₀ o₂) (change e₀ e₂)
  one_ended answer x y causes wrapped failed one is found noted counted finished =
      let all = checked_more t q folder [] [] label exit.Done i₀ i₀ i₁ o₀ o₀ o₁ e₀ e₀ e₁
      (none_checked t q folder i₀ o₀ e₀) stays (λ dash. refl) (λ none. refl) answer one in
      ended t q h folder all.0 (label ∷ []) x y causes wrapped failed 1 (change i₀ i₁) o₀ o₁ o₂ e₀ e₁ e₂
      (rw (is ∙ sym (from_done (exit_for_answer answer))) all.1) (found ∙ sym all.2) (noted ∙ sym all.3)
      (omega (arith, counted, all.4)) (omega (arith, all.5)) finished

  pub one_cut : {E : Type 0} (f : E)
      → IsChecked {E = E} t q folder label (Err f) (change i₀ i₁) (change o₀ o₁) (change e₀ e₁)
      → IsPut (fault_line run.Write) (change e₁ e₂)
      → FilesEnd t q h folder (label ∷ []) exit.Refused (change i₀ i₁) (change o₀ o₁) (change e₀ e₂)
  one_cut f one put =
      inr (cut_after t q folder [] [] label exit.Done i₀ i₀ i₁ o₀ o₀ o₁ e₀ e₀ e₁ (none_checked t q folder i₀ o₀ e₀)
      stays (λ dash. refl) (λ none. refl) f (label ∷ []) [] e₂ refl one put)
