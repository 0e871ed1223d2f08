-- What an exit status says of each file that was read.
use Rattle.std.proofs.Common.{◌≡◌, ◌∙◌, ◌≤◌, ◌∷◌, ℕ, List, [], Option, Some, None, arith, inl, inr, ap, map, refl}
use Rattle.std.proofs.Common.{subst, suc, sym, zero}
use Rattle.std.specs.Prelude.{All, Contains, Err, IfSome, Ok, Result, slice_index_or}
use Rattle.std.proofs.lemmas.List.Elements.{All-cons, All-head, All-nil, All-tail}
use Rattle.sixel_io.specs.Devices.{Change, SinkState, SourceState}
use Rattle.sixel_report.specs.declared.exit.Exit.{Exit}
use Rattle.sixel_report.specs.declared.wanted_lines.Lines.{Lines}
use Rattle.sixel_messages.specs.declared.shown.Shown.{Shown}
use Rattle.sixel_report.specs.declared.exit.Exit.TheVariants as exit
use Rattle.sixel_report.specs.declared.fault.RunFault.{RunFault}
use Rattle.sixel_report.specs.declared.task.Status.{Status}
use Rattle.sixel_report.specs.declared.task.Status.TheVariants as status
use Rattle.sixel_report.specs.declared.task.Task.{Task}
use Rattle.sixel_report.specs.Exits.{exit_code, exit_for_answer}
use Rattle.sixel_run.specs.Outputs.{Wrote}
use Rattle.sixel_program.specs.Files.{FileEnd, FilesEnd, IsBrokenOver, IsDoneOver, IsFileEnd, IsJudgedOver, IsRead}
use Rattle.sixel_program.specs.Files.{RequestEnds, exit_of_end, files_exit, labels_for, names_read, told_of}
use Rattle.sixel_messages.specs.Reports.{name_of}
use Rattle.sixel_program.proofs.FilesLemmas.{names_of}
use Rattle.sixel_program.specs.Openings.{FolderView, bytes_of}
use Rattle.sixel_report.specs.Texts.{Text, items_text}
use Rattle.sixel_program.proofs.EndLemmas.{broken_gives, done_gives}
use Rattle.sixel_program.proofs.RequestLemmas.{request_read}
use Rattle.sixel_program.proofs.SeveralLemmas.{contains_later, greatest_of, reached}

-- ---- checks of several files

-- what holds of the bytes of each file holds of each name
told_each : (P : Option (List ℕ) → Type 0) (contents : Text → Option (List ℕ)) (i : Change SourceState)
    (ends : List FileEnd) → All (IsRead contents i) ends → All (λ e. P e.told) ends
    → All (λ name. P (told_of contents i.old.remaining name)) (names_of ends)
told_each P contents i [] read each = All-nil (λ name. P (told_of contents i.old.remaining name))
told_each P contents i (e ∷ rest) read each =
    All-cons (λ name. P (told_of contents i.old.remaining name)) (name_of e.label) (names_of rest)
    (subst P (All-head (IsRead contents i) e rest read).told (All-head (λ e. P e.told) e rest each))
    (told_each P contents i rest (All-tail (IsRead contents i) e rest read) (All-tail (λ e. P e.told) e rest each))

least : (x : Exit) → exit_code x ≤ exit_code exit.Done → x ≡ exit.Done
least exit.Done below = refl
least exit.Broken below = absurd (omega (arith, below))
least exit.Refused below = absurd (omega (arith, below))
least exit.Usage below = absurd (omega (arith, below))

judged_gives : (t : Task) (told left : Option (List ℕ)) (a : Result Status RunFault) (had has : Option (List ℕ))
    → IfSome told (λ bytes. Wrote t bytes left a had has) → exit_code (exit_for_answer a) ≤ exit_code exit.Broken
    → IsJudgedOver t told
judged_gives t None left a had has wrote below = tt
judged_gives t (Some bytes) left (Ok status.Done) had has wrote below = (wrote.0, status.Done, wrote.1)
judged_gives t (Some bytes) left (Ok (status.Noted note)) had has wrote below = (wrote.0, status.Noted note, wrote.1)
judged_gives t (Some bytes) left (Ok (status.Broken finding)) had has wrote below =
    (wrote.0, status.Broken finding, wrote.1)
judged_gives t (Some bytes) left (Ok (status.Asked finding)) had has wrote below =
    (wrote.0, status.Asked finding, wrote.1)
judged_gives t (Some bytes) left (Ok (status.Surveyed first rules)) had has wrote below =
    (wrote.0, status.Surveyed first rules, wrote.1)
judged_gives t (Some bytes) left (Ok (status.Unfit wrapped)) had has wrote below =
    (wrote.0, status.Unfit wrapped, wrote.1)
judged_gives t (Some bytes) left (Ok status.Differing) had has wrote below = (wrote.0, status.Differing, wrote.1)
judged_gives t (Some bytes) left (Err fault) had has wrote below = absurd (omega (arith, below))

module _ (t : Task) (ends : List FileEnd) (each : All (IsFileEnd t) ends) where
  each_done : files_exit ends ≡ exit.Done → All (λ e. IsDoneOver t e.told) ends
  each_done is = λ k d short.
      let e = slice_index_or ends k d in
      done_gives t e.told e.left e.answer (Some []) (Some (items_text e.items)) (each k d short).wrote
      (least (exit_of_end e)
      (subst (λ (x : Exit). exit_code (exit_of_end e) ≤ exit_code x) is (greatest_of ends k d short)))

  each_below : files_exit ends ≡ exit.Broken → All (λ e. exit_code (exit_of_end e) ≤ exit_code exit.Broken) ends
  each_below is = λ k d short.
      subst (λ (x : Exit). exit_code (exit_of_end (slice_index_or ends k d)) ≤ exit_code x) is
      (greatest_of ends k d short)

  each_judged : files_exit ends ≡ exit.Broken → All (λ e. IsJudgedOver t e.told) ends
  each_judged is = λ k d short.
      let e = slice_index_or ends k d in
      judged_gives t e.told e.left e.answer (Some []) (Some (items_text e.items)) (each k d short).wrote
      (each_below is k d short)

-- of the files, one that is broken has a name
told_broken : (t : Task) (contents : Text → Option (List ℕ)) (i : Change SourceState) (ends : List FileEnd)
    → All (IsRead contents i) ends → All (IsFileEnd t) ends → Contains (map exit_of_end ends) exit.Broken
    → (name : Text) × Contains (names_of ends) name × IsBrokenOver t (told_of contents i.old.remaining name)
told_broken t contents i [] read each (k, short, is) = absurd (omega (arith, short))
told_broken t contents i (e ∷ rest) read each (zero, short, is) = (
  name_of e.label,
  (0, omega arith, refl),
  subst (IsBrokenOver t) (All-head (IsRead contents i) e rest read).told
      (broken_gives t e.told e.left e.answer (Some []) (Some (items_text e.items))
      (All-head (IsFileEnd t) e rest each).wrote is),
)
told_broken t contents i (e ∷ rest) read each (suc k, short, is) =
    let found = told_broken t contents i rest (All-tail (IsRead contents i) e rest read)
    (All-tail (IsFileEnd t) e rest each) (k, omega (arith, short), is) in
    (found.0, contains_later (name_of e.label) found.0 (names_of rest) found.1, found.2)

one_broken : (ends : List FileEnd) → files_exit ends ≡ exit.Broken → Contains (map exit_of_end ends) exit.Broken
one_broken [] is = let no : exit.Done ≡ exit.Broken = is in cc
one_broken (e ∷ more) is = subst (Contains (map exit_of_end (e ∷ more))) is (reached e more)

module _ (t : Task) (q : Lines) (h : Shown) {O : Type 0} (folder : FolderView O) (labels : List (Option Text))
    (x : Exit) (i : Change SourceState) (o e : Change SinkState) where
  files_done : FilesEnd t q h folder labels x i o e → x ≡ exit.Done
      → All (λ name. IsDoneOver t (told_of (bytes_of folder.opening) i.old.remaining name)) (map name_of labels)
  files_done (inl done) is =
      let are = done.checked in
      subst (All (λ name. IsDoneOver t (told_of (bytes_of folder.opening) i.old.remaining name)))
      (ap (map name_of) (sym are.labels_are))
      (told_each (IsDoneOver t) (bytes_of folder.opening) i done.ends are.read
      (each_done t done.ends are.each (sym are.exits ∙ is)))
  files_done (inr cut) is = let no : exit.Refused ≡ exit.Done = sym cut.exits ∙ is in cc

  files_judged : FilesEnd t q h folder labels x i o e → x ≡ exit.Broken
      → All (λ name. IsJudgedOver t (told_of (bytes_of folder.opening) i.old.remaining name)) (map name_of labels)
  files_judged (inl done) is =
      let are = done.checked in
      subst (All (λ name. IsJudgedOver t (told_of (bytes_of folder.opening) i.old.remaining name)))
      (ap (map name_of) (sym are.labels_are))
      (told_each (IsJudgedOver t) (bytes_of folder.opening) i done.ends are.read
      (each_judged t done.ends are.each (sym are.exits ∙ is)))
  files_judged (inr cut) is = let no : exit.Refused ≡ exit.Broken = sym cut.exits ∙ is in cc

  files_broken : FilesEnd t q h folder labels x i o e → x ≡ exit.Broken
      → (name : Text) × Contains (map name_of labels) name
      × IsBrokenOver t (told_of (bytes_of folder.opening) i.old.remaining name)
  files_broken (inl done) is =
      let are = done.checked in
      subst (λ (ns : List Text). (name : Text) × Contains ns name
      × IsBrokenOver t (told_of (bytes_of folder.opening) i.old.remaining name)) (ap (map name_of) (sym are.labels_are))
      (told_broken t (bytes_of folder.opening) i done.ends are.read are.each
      (one_broken done.ends (sym are.exits ∙ is)))
  files_broken (inr cut) is = let no : exit.Refused ≡ exit.Broken = sym cut.exits ∙ is in cc

-- ---- what is asked for

module _ (t : Task) (q : Lines) (h : Shown) (names : List Text) {O : Type 0} (folder : FolderView O) (x : Exit)
    (i : Change SourceState) (o e : Change SinkState)
    (ended : RequestEnds t q h names folder x i o e) where
  all_of_one : (P : Option (List ℕ) → Type 0) (name : Text) → P (told_of (bytes_of folder.opening) i.old.remaining name)
      → All (λ n. P (told_of (bytes_of folder.opening) i.old.remaining n)) (name ∷ [])
  all_of_one P name p =
      All-cons (λ n. P (told_of (bytes_of folder.opening) i.old.remaining n)) name [] p
      (All-nil (λ n. P (told_of (bytes_of folder.opening) i.old.remaining n)))

  pub all_read_done : x ≡ exit.Done
      → All (λ name. IsDoneOver t (told_of (bytes_of folder.opening) i.old.remaining name)) (names_read t names)
  all_read_done is = elim (request_read folder x i o e t q h names ended) [
    | inl one ↦
        let run = one.2.2 (λ refused. let no : exit.Done ≡ exit.Refused = sym is ∙ refused in cc) in
        rw one.1 (all_of_one (IsDoneOver t) one.0
        (done_gives t _ run.0 one.2.0 run.1 run.2 run.3 (sym one.2.1 ∙ is)))
    | inr checked ↦
        rw checked.1 (files_done t checked.0 h folder (labels_for names) x i o e checked.2 is)
  ]

  pub all_read_judged : x ≡ exit.Broken
      → All (λ name. IsJudgedOver t (told_of (bytes_of folder.opening) i.old.remaining name)) (names_read t names)
  all_read_judged is = elim (request_read folder x i o e t q h names ended) [
    | inl one ↦
        let run = one.2.2 (λ refused. let no : exit.Broken ≡ exit.Refused = sym is ∙ refused in cc) in
        let ends : exit_for_answer one.2.0 ≡ exit.Broken = sym one.2.1 ∙ is in
        rw one.1 (all_of_one (IsJudgedOver t) one.0
        (judged_gives t _ run.0 one.2.0 run.1 run.2 run.3 (rw ends (omega arith))))
    | inr checked ↦
        rw checked.1 (files_judged t checked.0 h folder (labels_for names) x i o e checked.2 is)
  ]

  pub one_read_broken : x ≡ exit.Broken → (name : Text)
      × Contains (names_read t names) name × IsBrokenOver t (told_of (bytes_of folder.opening) i.old.remaining name)
  one_read_broken is = elim (request_read folder x i o e t q h names ended) [
    | inl one ↦
        let run = one.2.2 (λ refused. let no : exit.Broken ≡ exit.Refused = sym is ∙ refused in cc) in (
          one.0,
          rw one.1 (0, omega arith, refl),
          broken_gives t _ run.0 one.2.0 run.1 run.2 run.3 (sym one.2.1 ∙ is),
        )
    | inr checked ↦
        rw checked.1 (files_broken t checked.0 h folder (labels_for names) x i o e checked.2 is)
  ]
