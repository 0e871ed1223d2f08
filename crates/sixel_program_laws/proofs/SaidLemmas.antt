-- What is said of several files, and the lines of each.
use Rattle.std.proofs.Common.{ap, append_assoc, Err, ◌++◌, ◌≡◌, ◌∷◌, ℕ, Bool, true, false, List, [], Option, Some}
use Rattle.std.proofs.Common.{arith, refl, sym, subst, inl, inr, ◌<◌, ◌+◌, ◌-◌, ◌^◌, ◌∙◌}
use Rattle.std.specs.Prelude.{◌⊎◌, ◌≢◌, Ok, filter, flat_map, not}
use Rattle.std.specs.List.{concat}
use Rattle.std.proofs.lemmas.List.{append-nil}
use Rattle.std.proofs.lemmas.Bool.{cases_lt}
use Rattle.sixel_io.specs.Devices.{Change, SinkState, change, one_more}
use Rattle.sixel_io.proofs.SinkLemmas.{Appends-none}
use Rattle.sixel_io.proofs.DeviceLemmas.{Appends-then}
use Rattle.sixel_report.specs.Lines.{is_portable_item}
use Rattle.sixel_report.specs.declared.exit.Exit.TheVariants as exit
use Rattle.sixel_grammar.specs.declared.fault.Fault.{Fault}
use Rattle.sixel_report.specs.declared.fault.RunFault.{RunFault}
use Rattle.sixel_report.specs.declared.fault.RunFault.TheVariants as run
use Rattle.sixel_report.specs.declared.task.Status.{Status}
use Rattle.sixel_report.specs.Exits.{IsPut, exit_for_answer}
use Rattle.sixel_program.specs.Files.{FileEnd, IsFileEnd, exit_of_end, files_text}
use Rattle.sixel_messages.specs.Reports.{refusal_object, written_for}
use Rattle.sixel_messages.specs.Puts.{ArePut}
use Rattle.sixel_program_laws.specs.Laws.{IsSaid}
use Rattle.sixel_report.specs.declared.wanted_lines.Lines.TheVariants.{Json, Nothing, Plain}
use Rattle.sixel_messages.specs.Messages.{labelled}
use Rattle.sixel_report.specs.declared.item.Item.{Item}
use Rattle.sixel_program.proofs.NamedLemmas.{none_written}
use Rattle.sixel_run.specs.LineTasks.{has_lines, scans}
use Rattle.sixel_run.proofs.StringLemmas.{not_a_fault}
use Rattle.sixel_run.specs.Outputs.{Gives, ScanGives, ScansBefore, ScansUnread, Wrote}
use Rattle.sixel_report.specs.Outputs.{WroteWith}
use Rattle.sixel_run.specs.Scanned.{Finds, scan_text}
use Rattle.sixel_report.specs.declared.task.Task.{Task}
use Rattle.sixel_report.specs.declared.task.Task.TheVariants.{Check, Differ, Scan, Survey}
use Rattle.sixel_scan.specs.declared.answer.Scanned.{Scanned}
use Rattle.sixel_model.specs.Profiles.{count_of}
use Rattle.sixel_model.specs.declared.profile.Profile.{Profile}
use Rattle.sixel_report.specs.Texts.{Text, item_line, items_text}

-- ---- what is said of all

-- a count of failures that rose, or stands at its end
abbrev HasRisen : ℕ → ℕ → Type 0
HasRisen a b = (a < b) ⊎ (b ≡ 2 ^ 64 - 1)

one_more_failed : (a : ℕ) → HasRisen a (one_more a)
one_more_failed a = elim (cases_lt (a + 1) (2 ^ 64 - 1)) [
  | inl below ↦ inl (omega arith)
  | inr past ↦ inr (omega arith)
]

failed_more : (a b : ℕ) → HasRisen a b → HasRisen a (one_more b)
failed_more a b (inl rose) = elim (cases_lt (b + 1) (2 ^ 64 - 1)) [
  | inl below ↦ inl (omega (arith, rose))
  | inr past ↦ inr (omega arith)
]
failed_more a b (inr end) = inr (omega (arith, end))

said_more : (first more : Text) (a b c : SinkState) → IsSaid first (change a b) → IsPut more (change b c)
    → IsSaid (first ++ more) (change a c)
said_more first more a b c (inl said) (inl put) =
    inl (Appends-then a.taken b.taken c.taken first more (first ++ more) said.0 put.0 refl, put.1 ∙ said.1)
said_more first more a b c (inl said) (inr cut) =
    inr (subst (λ (n : ℕ). HasRisen a.failures n) (ap one_more (sym said.1) ∙ sym cut.2) (one_more_failed a.failures))
said_more first more a b c (inr failed) (inl put) =
    inr (subst (λ (n : ℕ). HasRisen a.failures n) (sym put.1) failed)
said_more first more a b c (inr failed) (inr cut) =
    inr (subst (λ (n : ℕ). HasRisen a.failures n) (sym cut.2) (failed_more a.failures b.failures failed))

said_on : (first : Text) (texts : List Text) (a b c : SinkState) → IsSaid first (change a b) → ArePut texts (change b c)
    → IsSaid (first ++ concat texts) (change a c)
unfolding ArePut
said_on first [] a b c said none = rw (append-nil first, none) said
said_on first (text ∷ rest) a b c said are =
    subst (λ (t : Text). IsSaid t (change a c)) (append_assoc first text (concat rest))
    (said_on (first ++ text) rest a are.0 c (said_more first text a b are.0 said are.1) are.2)

pub said_whole : (texts : List Text) (sink : Change SinkState) → ArePut texts sink → IsSaid (concat texts) sink
said_whole texts sink are =
    said_on [] texts sink.old sink.old sink.new (inl (Appends-none sink.old.taken, refl)) are

-- ---- the line of one

-- a file that a check or a survey refuses has no line; in JSON its object is its text
pub refused : (t : Task) (only_failed : Bool) (e : FileEnd) (fault : RunFault) → IsFileEnd t e
    → scans t ≡ false → e.answer ≡ Err fault
    → (files_text (Plain only_failed) (e ∷ []) ≡ [])
    × (files_text (Json only_failed) (e ∷ []) ≡ refusal_object e.label e.unopened e.answer)
refused t only_failed e fault is found answer =
    let none = is.refused found fault answer in (
      rw none refl,
      rw none (append-nil (refusal_object e.label e.unopened e.answer)),
    )

failures_step : (portable : Bool) (label : Option Text) (i : Item) (items : List Item) → is_portable_item i ≡ portable
    → flat_map (written_for (Plain true) label) items
    ≡ flat_map (λ (i : Item). labelled label (item_line i)) (filter (λ (i : Item). not (is_portable_item i)) items)
    → flat_map (written_for (Plain true) label) (i ∷ items)
    ≡ flat_map (λ (i : Item). labelled label (item_line i)) (filter (λ (i : Item). not (is_portable_item i)) (i ∷ items))
failures_step true label i items is rest = rw is rest
failures_step false label i items is rest = rw is (ap (λ (t : Text). labelled label (item_line i) ++ t) rest)

-- of only failures no line is written of what is portable
pub failures_of : (label : Option Text) (items : List Item) → flat_map (written_for (Plain true) label) items
    ≡ flat_map (λ (i : Item). labelled label (item_line i)) (filter (λ (i : Item). not (is_portable_item i)) items)
failures_of label [] = refl
failures_of label (i ∷ items) = failures_step (is_portable_item i) label i items refl (failures_of label items)

pub quiet : (json : Bool) (ends : List FileEnd) → files_text (Nothing json) ends ≡ []
quiet json [] = refl
quiet json (e ∷ ends) =
    rw (none_written json e.label e.items) (quiet json ends)

refuses : (t : Task) (bytes text : Text) (fault : Fault) → has_lines t ≡ true
    → Gives t bytes text (Err (run.Grammar fault)) → Gives t bytes [] (Err (run.Grammar fault))
refuses (Check profile named) bytes text fault has gives = (refl, gives.1)
refuses (Survey profile named) bytes text fault has gives = (refl, gives.1)
refuses (Differ background) bytes text fault has gives = (refl, gives.1)
refuses (Scan profile eight) bytes text fault has gives = absurd (not_a_fault gives.0 fault gives.3)
refuses _ bytes text fault has gives = absurd (let no : false ≡ true = has in cc)

pub faulty : (t : Task) (e : FileEnd) (bytes : List ℕ) (fault : Fault) → has_lines t ≡ true → IsFileEnd t e
    → e.told ≡ Some bytes → e.answer ≡ Err (run.Grammar fault)
    → Gives t bytes [] (Err (run.Grammar fault))
faulty t e bytes fault has is told answer =
    let wrote : Wrote t bytes e.left (Err (run.Grammar fault)) (Some []) (Some (items_text e.items)) =
    rw (told, answer) at is.wrote in
    refuses t bytes wrote.0 fault has wrote.1

pub alone : (t : Task) (e : FileEnd) (bytes : List ℕ) (status : Status) → IsFileEnd t e
    → e.told ≡ Some bytes → e.answer ≡ Ok status → Gives t bytes (items_text e.items) (Ok status)
alone t e bytes status is told answer =
    let wrote : Wrote t bytes e.left (Ok status) (Some []) (Some (items_text e.items)) =
    rw (told, answer) at is.wrote in
    subst (λ (text : Text). Gives t bytes text (Ok status)) (sym wrote.2) wrote.1

-- the lines of a scan that wasn't done are those of the strings that it found
scan_found : (eight : Bool) (registers : ℕ) (bytes : List ℕ) (left : Option (List ℕ)) (fault : RunFault) (lines : Text)
    → fault ≢ run.Write
    → WroteWith (ScanGives eight registers bytes) (ScansUnread eight registers bytes left)
    (ScansBefore eight registers bytes) (Err fault) (Some []) (Some lines)
    → (reports : List Scanned) × Finds eight registers bytes left (Err fault) reports × (lines ≡ scan_text reports)
scan_found eight registers bytes left run.Read lines other wrote = (wrote.0, wrote.1, wrote.2)
scan_found eight registers bytes left run.OutOfMemory lines other wrote = (wrote.0, wrote.1, wrote.2)
scan_found eight registers bytes left run.Write lines other wrote = absurd (other refl)
scan_found eight registers bytes left fault lines other wrote =
    (wrote.1.0, (wrote.1.1, wrote.1.3), wrote.2 ∙ wrote.1.2)

pub unended : (profile : Profile) (eight : Bool) (e : FileEnd) (bytes : List ℕ) (fault : RunFault)
    → IsFileEnd (Scan profile eight) e → e.told ≡ Some bytes → e.answer ≡ Err fault → fault ≢ run.Write
    → (reports : List Scanned) × Finds eight (count_of profile) bytes e.left (Err fault) reports
    × (items_text e.items ≡ scan_text reports) × (exit_of_end e ≡ exit.Refused)
unended profile eight e bytes fault is told answer other =
    let found = scan_found eight (count_of profile) bytes e.left fault (items_text e.items) other
    (rw (told, answer) at is.wrote) in
    (found.0, found.1, found.2, ap exit_for_answer answer)
