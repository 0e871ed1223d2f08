-- What a run of `scan` owes.
use Rattle.std.proofs.Common.{◌≡◌, ◌∙◌, ◌≤◌, ℕ, Bool, true, false, List, [], ◌∷◌, ◌++◌, length, map, take, Option, Some}
use Rattle.std.proofs.Common.{None, ap, ap₂, append_assoc, arith, inl, inr, refl, subst, sym}
use Rattle.std.specs.List.{list_all, list_any}
use Rattle.std.specs.Prelude.{◌&&◌, ◌||◌, Result, Ok, Err, IfSome, OnOk, flat_map}
use Rattle.std.specs.Io.KnownBytes.{Appends, Consumes}
use Rattle.std.proofs.KnownBytes.{Consumes-nil, Consumes-trans}
use Rattle.std.proofs.lemmas.List.{length-append}
use Rattle.sixel_io.specs.Devices.{Change, SinkState, SourceState, change, one_more}
use Rattle.sixel_io.proofs.DeviceLemmas.{Appends-then}
use Rattle.sixel_io.proofs.SinkLemmas.{Appends-none, puts-joined}
use Rattle.sixel_model.specs.Profiles.{count_of}
use Rattle.sixel_model.specs.declared.profile.Profile.{Profile}
use Rattle.sixel_scan.specs.declared.answer.Scanned.{Scanned}
use Rattle.sixel_scan.specs.declared.fault.ScanFault.{ScanFault}
use Rattle.sixel_scan.specs.declared.fault.ScanFault.TheVariants as fault
use Rattle.sixel_scan.specs.declared.scan.Scan.{Scan}
use Rattle.sixel_scan.specs.Prefixes.{AreGiven}
use Rattle.sixel_scan.specs.Scans.{AfterTaking, GrowsWithin, HasTold, IsOver, IsReady, TellsNext, failures_after}
use Rattle.sixel_scan.specs.Scans.{longest_stream}
use Rattle.sixel_scan.specs.Standing.{AreReported}
use Rattle.sixel_scan.specs.Strings.{AreStrings, StringAt}
use Rattle.sixel_scan.specs.Wrapping.{AreMarked}
use Rattle.sixel_scan.proofs.MarkLemmas.{marked_more}
use Rattle.sixel_scan.proofs.StringLemmas.{some_strings}
use Rattle.sixel_scan.proofs.TellLemmas.{stream_begins, stream_over, told_first}
use Rattle.sixel_report.specs.declared.fault.RunFault.{RunFault}
use Rattle.sixel_report.specs.declared.fault.RunFault.TheVariants.{NoString, OutOfMemory, Read, Write}
use Rattle.sixel_report.specs.declared.item.Item.{Item}
use Rattle.sixel_report.specs.declared.item.Item.TheVariants.{String}
use Rattle.sixel_report.specs.declared.task.Status.{Status}
use Rattle.sixel_report.specs.declared.task.Task.TheVariants as task
use Rattle.sixel_report.specs.Conversions.{of_scan}
use Rattle.sixel_report.specs.Outputs.{CountsWrites, PutsText, WroteWith, failures_by}
use Rattle.sixel_run.specs.Outputs.{ScanGives, ScansBefore, ScansUnread, Wrote}
use Rattle.sixel_run.specs.Scanned.{AreBeforeAllocation, AreOfFirst, AreOfGiven, AreOfStream, Finds, MayGrowInString}
use Rattle.sixel_run.specs.Scanned.{answer_of_strings, answer_with, is_portable, is_wrapped, scan_text, status_where}
use Rattle.sixel_run.specs.Scanned.{stream_of}
use Rattle.sixel_run.specs.LineTasks.{WritesItems}
use Rattle.sixel_report.specs.Texts.{Text}
use Rattle.sixel_run.proofs.WrappingLemmas.{marks_kept, marks_next}
use Rattle.sixel_run.proofs.StringLemmas.{reports_join, scan-begins, short_take, strings_more}

-- ---- what the loop keeps

-- with this answer on the strings so far, the scan has read from the input and told them, and what is written for their
-- lines was appended to the output
pub record Scanning (written : Item → Text) (eight : Bool) (registers : ℕ) (s : Scan)
    (answer : Result Status RunFault) (input : Change SourceState) (output : Change SinkState) : Type 0 where
  pub strings : List StringAt
  pub reports : List Scanned
  pub taken : List ℕ
  pub consumed : Consumes input.old.remaining input.new.remaining taken
  pub has_told : HasTold eight registers s input.new.remaining strings taken
  pub reported : AreReported registers strings reports
  pub marked : IfSome input.old.remaining (λ bytes. AreMarked taken reports)
  pub answer_is : answer ≡ answer_of_strings reports
  pub put : Appends output.old.taken output.new.taken (flat_map written (map String reports))
  pub reads : input.new.failures ≡ input.old.failures
  pub writes : output.new.failures ≡ output.old.failures

none_marked : (old : Option (List ℕ)) → IfSome old (λ bytes. AreMarked [] [])
none_marked None = tt
none_marked (Some bytes) = tt

pub scanning_first : (written : Item → Text) (eight : Bool) (registers : ℕ) (s : Scan) (i : SourceState)
    (o : SinkState) → ((remaining : Option (List ℕ)) → HasTold eight registers s remaining [] [])
    → Scanning written eight registers s (Err NoString) (change i i) (change o o)
scanning_first written eight registers s i o new = record {
  strings = [];
  reports = [];
  taken = [];
  consumed = Consumes-nil i.remaining;
  has_told = new i.remaining;
  reported = tt;
  marked = none_marked i.remaining;
  answer_is = refl;
  put = Appends-none o.taken;
  reads = refl;
  writes = refl;
}

pub scanning_ready : (written : Item → Text) (eight : Bool) (registers : ℕ) (s : Scan)
    (answer : Result Status RunFault) (i : Change SourceState) (o : Change SinkState)
    → Scanning written eight registers s answer i o → IsReady s i.new.remaining
scanning_ready written eight registers s answer i o k = (eight, registers, k.strings, k.taken, k.has_told)

-- what a call of the scan says of all that was taken
after_call : (written : Item → Text) (eight : Bool) (registers : ℕ) (s : Scan) (answer : Result Status RunFault)
    (i : Change SourceState) (o : Change SinkState) (new : Option (List ℕ))
    (P : Bool → ℕ → List StringAt → List ℕ → Type 0) → (k : Scanning written eight registers s answer i o)
    → AfterTaking s i.new.remaining new P
    → (taken : List ℕ) × Consumes i.old.remaining new taken × P eight registers k.strings taken
after_call written eight registers s answer i o new P k after =
    let n = after eight registers k.strings k.taken k.has_told in
    (k.taken ++ n.0, Consumes-trans i.old.remaining i.new.remaining new k.taken n.0 k.consumed n.1, n.2)

-- with a call of the scan, the reports told before are marked in all that was taken
still_marked : (written : Item → Text) (eight : Bool) (registers : ℕ) (s : Scan) (answer : Result Status RunFault)
    (i : Change SourceState) (o : Change SinkState) (new : Option (List ℕ)) (taken : List ℕ)
    (P : Bool → ℕ → List StringAt → List ℕ → Type 0) → (k : Scanning written eight registers s answer i o)
    → AfterTaking s i.new.remaining new P → Consumes i.old.remaining new taken
    → IfSome i.old.remaining (λ bytes. AreMarked taken k.reports)
still_marked written eight registers s answer i o new taken P k after consumed =
    let n = after eight registers k.strings k.taken k.has_told in
    marks_kept i.old.remaining i.new.remaining new k.taken n.0 taken k.reports k.consumed n.1 consumed k.marked

-- so is the one that it told
next_marked : (written : Item → Text) (eight : Bool) (registers : ℕ) (s : Scan) (answer : Result Status RunFault)
    (i : Change SourceState) (o : Change SinkState) (new : Option (List ℕ)) (taken : List ℕ) (scanned : Scanned)
    → (k : Scanning written eight registers s answer i o)
    → AfterTaking s i.new.remaining new (λ e r told bytes. AreMarked bytes (scanned ∷ []))
    → Consumes i.old.remaining new taken
    → IfSome i.old.remaining (λ bytes. AreMarked taken (k.reports ++ scanned ∷ []))
next_marked written eight registers s answer i o new taken scanned k after consumed =
    let n = after eight registers k.strings k.taken k.has_told in
    marks_next i.old.remaining i.new.remaining new k.taken n.0 taken k.reports scanned k.consumed n.1 consumed k.marked
    n.2

-- the answer on some strings and one more
either_with : (all any : Bool) (s : Scanned)
    → answer_with (Ok (status_where all any)) s ≡ Ok (status_where (all && is_portable s) (any || s.wrapped))
either_with true true s = refl
either_with true false s = refl
either_with false any s = refl

all_more : (xs : List Scanned) (s : Scanned)
    → list_all is_portable (xs ++ s ∷ []) ≡ (list_all is_portable xs && is_portable s)
all_more [] s = and_true (is_portable s)
  where
    and_true : (b : Bool) → (b && true) ≡ (true && b)
    and_true true = refl
    and_true false = refl
all_more (x ∷ xs) s =
    ap (λ (b : Bool). is_portable x && b) (all_more xs s)
    ∙ sym (and_joins (is_portable x) (list_all is_portable xs) (is_portable s))
  where
    and_joins : (a b c : Bool) → ((a && b) && c) ≡ (a && (b && c))
    and_joins true b c = refl
    and_joins false b c = refl

any_more : (xs : List Scanned) (s : Scanned)
    → list_any is_wrapped (xs ++ s ∷ []) ≡ (list_any is_wrapped xs || s.wrapped)
any_more [] s = or_false s.wrapped
  where
    or_false : (b : Bool) → (b || false) ≡ (false || b)
    or_false true = refl
    or_false false = refl
any_more (x ∷ xs) s =
    ap (λ (b : Bool). x.wrapped || b) (any_more xs s) ∙ sym (or_joins x.wrapped (list_any is_wrapped xs) s.wrapped)
  where
    or_joins : (a b c : Bool) → ((a || b) || c) ≡ (a || (b || c))
    or_joins true b c = refl
    or_joins false b c = refl

-- of all strings, with one more
status_more : (xs : List Scanned) (s : Scanned)
    → (let r : Result Status RunFault =
    Ok (status_where (list_all is_portable xs && is_portable s) (list_any is_wrapped xs || s.wrapped)) in r)
    ≡ Ok (status_where (list_all is_portable (xs ++ s ∷ [])) (list_any is_wrapped (xs ++ s ∷ [])))
status_more xs s =
    ap₂ (λ (all any : Bool). let r : Result Status RunFault = Ok (status_where all any) in r) (sym (all_more xs s))
    (sym (any_more xs s))

answer_more : (reports : List Scanned) (s : Scanned)
    → answer_with (answer_of_strings reports) s ≡ answer_of_strings (reports ++ s ∷ [])
answer_more [] s = status_more [] s
answer_more (r ∷ more) s =
    either_with (list_all is_portable (r ∷ more)) (list_any is_wrapped (r ∷ more)) s ∙ status_more (r ∷ more) s

-- one more string was told, and its line was written
pub scanning_more : (written : Item → Text) (eight : Bool) (registers : ℕ) (s t : Scan)
    (answer now : Result Status RunFault) (scanned : Scanned) (i : Change SourceState) (o : Change SinkState)
    (new : SourceState) (has : SinkState)
    → (k : Scanning written eight registers s answer i o)
    → AfterTaking s i.new.remaining new.remaining
    (λ e r told bytes. TellsNext e r t new.remaining told bytes (scanned ∷ []))
    → AfterTaking s i.new.remaining new.remaining (λ e r told bytes. AreMarked bytes (scanned ∷ []))
    → Appends o.new.taken has.taken (written (String scanned))
    → new.failures ≡ i.new.failures → has.failures ≡ o.new.failures
    → now ≡ answer_with answer scanned
    → Scanning written eight registers t now (change i.old new) (change o.old has)
scanning_more written eight registers s t answer now scanned i o new has k next marks put reads writes now_is =
    let n = after_call written eight registers s answer i o new.remaining
    (λ e r told bytes. TellsNext e r t new.remaining told bytes (scanned ∷ [])) k next in
    record {
      strings = k.strings ++ n.2.found;
      reports = k.reports ++ scanned ∷ [];
      taken = n.0;
      consumed = n.1;
      has_told = n.2.has_told;
      reported = reports_join registers k.strings n.2.found k.reports (scanned ∷ []) k.reported n.2.reported;
      marked = next_marked written eight registers s answer i o new.remaining n.0 scanned k marks n.1;
      answer_is = now_is ∙ ap (λ (a : Result Status RunFault). answer_with a scanned) k.answer_is
          ∙ answer_more k.reports scanned;
      put = Appends-then o.old.taken o.new.taken has.taken (flat_map written (map String k.reports))
          (written (String scanned)) (flat_map written (map String (k.reports ++ scanned ∷ []))) k.put put
          (strings_more written k.reports scanned);
      reads = reads ∙ k.reads;
      writes = writes ∙ k.writes;
    }

-- ---- the strings told are of the stream

told_within : (eight : Bool) (registers : ℕ) (s : Scan) (remaining : Option (List ℕ)) (told : List StringAt)
    (bytes : List ℕ) → HasTold eight registers s remaining told bytes → length bytes ≤ longest_stream
told_within eight registers s remaining told bytes h = elim h [
  | inl g ↦ g.reading.within
  | inr t ↦ t.within
]

-- the stream begins with the bytes taken
stream_marked : (bytes rest taken : List ℕ) (reports : List Scanned) → bytes ≡ taken ++ rest
    → length taken ≤ longest_stream → AreMarked taken reports → AreMarked (stream_of bytes) reports
stream_marked bytes rest taken reports consumed within marked =
    let begins = stream_begins rest taken within in
    subst (λ (t : List ℕ). AreMarked t reports) (sym (ap stream_of consumed ∙ begins.1))
    (marked_more taken begins.0 reports marked)

-- they are the first
first_strings : (eight : Bool) (registers : ℕ) (s : Scan) (old new : Option (List ℕ)) (told : List StringAt)
    (taken : List ℕ) (reports : List Scanned) → Consumes old new taken → HasTold eight registers s new told taken
    → AreReported registers told reports → IfSome old (λ bytes. AreMarked taken reports)
    → IfSome old (λ bytes. AreOfFirst eight registers bytes reports)
first_strings eight registers s None new told taken reports consumed h are marked = tt
first_strings eight registers s (Some bytes) None told taken reports consumed h are marked = absurd consumed
first_strings eight registers s (Some bytes) (Some rest) told taken reports consumed h are marked =
    let all = some_strings eight (stream_of bytes) in
    let more = told_first eight registers s rest told all.0 taken h
    (subst (λ (b : List ℕ). AreStrings eight all.0 (stream_of b)) consumed all.1) in
    record {
      strings = told;
      rest = more.0;
      are = subst (λ (x : List StringAt). AreStrings eight x (stream_of bytes)) more.1 all.1;
      reported = are;
      marked = stream_marked bytes rest taken reports consumed
          (told_within eight registers s (Some rest) told taken h) marked;
    }

-- all of them, if the stream is over; `other` is what was taken too
all_strings : (eight : Bool) (registers : ℕ) (old new : Option (List ℕ)) (told : List StringAt)
    (taken other : List ℕ) (reports : List Scanned) → Consumes old new taken → Consumes old new other
    → length other ≤ longest_stream
    → AreStrings eight told taken → IsOver new taken → AreReported registers told reports
    → IfSome old (λ bytes. AreMarked taken reports) → IfSome old (λ bytes. AreOfStream eight registers bytes reports)
all_strings eight registers None new told taken other reports consumed same within strings over are marked = tt
all_strings eight registers (Some bytes) None told taken other reports consumed same within strings over are marked =
    absurd consumed
all_strings eight registers (Some bytes) (Some rest) told taken other reports consumed same within strings over are
    marked =
    let short : length taken ≤ longest_stream =
    omega (arith, ap length consumed, ap length same, length-append taken rest, length-append other rest, within) in
    record {
      strings = told;
      are = subst (AreStrings eight told) (sym (ap stream_of consumed ∙ stream_over rest taken short over)) strings;
      reported = are;
      marked = stream_marked bytes rest taken reports consumed short marked;
    }

-- those of the bytes given
given_strings : (eight : Bool) (registers : ℕ) (old new : Option (List ℕ)) (told : List StringAt) (taken : List ℕ)
    (reports : List Scanned) → Consumes old new taken → length taken ≤ longest_stream → AreGiven eight told taken
    → AreReported registers told reports → IfSome old (λ bytes. AreMarked taken reports)
    → IfSome old (λ bytes. AreOfGiven eight registers bytes new reports)
given_strings eight registers None new told taken reports consumed within given are marked = tt
given_strings eight registers (Some bytes) new told taken reports consumed within given are marked = record {
  given = taken;
  consumed = consumed;
  within = within;
  strings = told;
  are = given;
  reported = are;
  marked = marked;
}

-- those before one in which a checker may allocate
grown_strings : (eight : Bool) (registers : ℕ) (old new : Option (List ℕ)) (told : List StringAt) (taken : List ℕ)
    (reports : List Scanned) → Consumes old new taken → GrowsWithin eight registers told taken
    → AreReported registers told reports → IfSome old (λ bytes. AreMarked taken reports)
    → IfSome old (λ bytes. AreBeforeAllocation eight registers bytes reports)
grown_strings eight registers None new told taken reports consumed grows are marked = tt
grown_strings eight registers (Some bytes) None told taken reports consumed grows are marked = absurd consumed
grown_strings eight registers (Some bytes) (Some rest) told taken reports consumed grows are marked =
    let begins = stream_begins rest taken grows.4 in
    let stream : stream_of bytes ≡ grows.0 ++ (grows.1 ++ begins.0) =
    ap stream_of consumed ∙ begins.1 ∙ ap (λ (t : List ℕ). t ++ begins.0) grows.2
    ∙ append_assoc grows.0 grows.1 begins.0 in
    record {
      strings = told;
      grows = (grows.0, grows.1 ++ begins.0, stream, grows.3, short_take longest_stream bytes);
      reported = are;
      marked = stream_marked bytes rest taken reports consumed grows.4 marked;
    }

-- ---- how the loop ends

-- it found some strings, and `written` of the line of each was put
pub record Scans (written : Item → Text) (eight : Bool) (registers : ℕ) (answer : Result Status RunFault)
    (input : Change SourceState) (output : Change SinkState) : Type 0 where
  pub reports : List Scanned
  pub finds : IfSome input.old.remaining (λ bytes. Finds eight registers bytes input.new.remaining answer reports)
  pub put : PutsText answer output.old.taken output.new.taken (flat_map written (map String reports))
  pub taken : List ℕ
  pub consumed : Consumes input.old.remaining input.new.remaining taken
  pub over : OnOk answer (IsOver input.new.remaining taken)
  pub reads : input.new.failures ≡ failures_by Read answer input.old.failures
  pub writes : CountsWrites answer output.old.failures output.new.failures

-- the answer on some strings is no failure
abbrev IsUnfailed : Result Status RunFault → Type 0
IsUnfailed (Ok status) = Unit {0}
IsUnfailed (Err NoString) = Unit {0}
IsUnfailed _ = ⊥

strings_unfailed : (reports : List Scanned) → IsUnfailed (answer_of_strings reports)
strings_unfailed [] = tt
strings_unfailed (s ∷ more) = tt

all_found : (eight : Bool) (registers : ℕ) (old new : Option (List ℕ)) (reports : List Scanned)
    (answer : Result Status RunFault) → IsUnfailed answer → answer ≡ answer_of_strings reports
    → IfSome old (λ bytes. AreOfStream eight registers bytes reports)
    → IfSome old (λ bytes. Finds eight registers bytes new answer reports)
all_found eight registers None new reports answer unfailed is all = tt
all_found eight registers (Some bytes) new reports (Ok status) unfailed is all = (all, is)
all_found eight registers (Some bytes) new reports (Err NoString) unfailed is all = (all, is)
all_found eight registers (Some bytes) new reports (Err other) unfailed is all = absurd unfailed

all_put : (answer : Result Status RunFault) (had has : Option (List ℕ)) (text : Text) → IsUnfailed answer
    → Appends had has text → PutsText answer had has text
all_put (Ok status) had has text unfailed put = put
all_put (Err NoString) had has text unfailed put = put
all_put (Err other) had has text unfailed put = absurd unfailed

none_read : (answer : Result Status RunFault) (n : ℕ) → IsUnfailed answer → n ≡ failures_by Read answer n
none_read (Ok status) n unfailed = refl
none_read (Err NoString) n unfailed = refl
none_read (Err other) n unfailed = absurd unfailed

none_written : (answer : Result Status RunFault) (n : ℕ) → IsUnfailed answer → n ≡ failures_by Write answer n
none_written (Ok status) n unfailed = refl
none_written (Err NoString) n unfailed = refl
none_written (Err other) n unfailed = absurd unfailed

always : {A E : Type 0} (answer : Result A E) (P : Type 0) → P → OnOk answer P
always (Ok x) P p = p
always (Err e) P p = tt

-- the stream is over
pub scans_ended : (written : Item → Text) (eight : Bool) (registers : ℕ) (s t : Scan)
    (answer : Result Status RunFault) (i : Change SourceState) (o : Change SinkState) (new : SourceState)
    → (k : Scanning written eight registers s answer i o)
    → AfterTaking s i.new.remaining new.remaining
    (λ e r told bytes. TellsNext e r t new.remaining told bytes [])
    → AfterTaking s i.new.remaining new.remaining
    (λ e r told bytes. AreStrings e told bytes × IsOver new.remaining bytes)
    → new.failures ≡ i.new.failures → Scans written eight registers answer (change i.old new) o
scans_ended written eight registers s t answer i o new k next all reads =
    let n = after_call written eight registers s answer i o new.remaining
    (λ e r told bytes. TellsNext e r t new.remaining told bytes []) k next in
    let a = after_call written eight registers s answer i o new.remaining
    (λ e r told bytes. AreStrings e told bytes × IsOver new.remaining bytes) k all in
    let unfailed : IsUnfailed answer = subst IsUnfailed (sym k.answer_is) (strings_unfailed k.reports) in
    let within = told_within eight registers t new.remaining (k.strings ++ n.2.found) n.0 n.2.has_told in
    record {
      reports = k.reports;
      finds = all_found eight registers i.old.remaining new.remaining k.reports answer unfailed k.answer_is
          (all_strings eight registers i.old.remaining new.remaining k.strings a.0 n.0 k.reports a.1 n.1 within a.2.0
          a.2.1 k.reported
          (still_marked written eight registers s answer i o new.remaining a.0
          (λ e r told bytes. AreStrings e told bytes × IsOver new.remaining bytes) k all a.1));
      put = all_put answer o.old.taken o.new.taken (flat_map written (map String k.reports)) unfailed k.put;
      taken = a.0;
      consumed = a.1;
      over = always answer (IsOver new.remaining a.0) a.2.1;
      reads = reads ∙ k.reads ∙ none_read answer i.old.failures unfailed;
      writes = k.writes ∙ none_written answer o.old.failures unfailed;
    }

-- the line of the string that was told couldn't be written
pub scans_stopped : (written : Item → Text) (eight : Bool) (registers : ℕ) (s t : Scan)
    (answer : Result Status RunFault) (scanned : Scanned) (i : Change SourceState) (o : Change SinkState)
    (new : SourceState) (has : SinkState)
    → (k : Scanning written eight registers s answer i o)
    → AfterTaking s i.new.remaining new.remaining
    (λ e r told bytes. TellsNext e r t new.remaining told bytes (scanned ∷ []))
    → AfterTaking s i.new.remaining new.remaining (λ e r told bytes. AreMarked bytes (scanned ∷ []))
    → (n : ℕ) × Appends o.new.taken has.taken (take n (written (String scanned)))
    → new.failures ≡ i.new.failures → has.failures ≡ one_more o.new.failures
    → Scans written eight registers (Err Write) (change i.old new) (change o.old has)
scans_stopped written eight registers s t answer scanned i o new has k next marks put reads writes =
    let n = after_call written eight registers s answer i o new.remaining
    (λ e r told bytes. TellsNext e r t new.remaining told bytes (scanned ∷ [])) k next in
    let failed : Result Status RunFault = Err Write in
    record {
      reports = k.reports ++ scanned ∷ [];
      finds = first_strings eight registers t i.old.remaining new.remaining (k.strings ++ n.2.found) n.0
          (k.reports ++ scanned ∷ []) n.1 n.2.has_told
          (reports_join registers k.strings n.2.found k.reports (scanned ∷ []) k.reported n.2.reported)
          (next_marked written eight registers s answer i o new.remaining n.0 scanned k marks n.1);
      put = puts-joined failed o.old.taken o.new.taken has.taken (flat_map written (map String k.reports))
          (written (String scanned)) (flat_map written (map String (k.reports ++ scanned ∷ [])))
          (strings_more written k.reports scanned) k.put put;
      taken = n.0;
      consumed = n.1;
      over = tt;
      reads = reads ∙ k.reads;
      writes = writes ∙ ap one_more k.writes;
    }

-- the input failed
scans_unread : (written : Item → Text) (eight : Bool) (registers : ℕ) (s t : Scan)
    (answer : Result Status RunFault) (i : Change SourceState) (o : Change SinkState) (new : SourceState)
    → (k : Scanning written eight registers s answer i o)
    → AfterTaking s i.new.remaining new.remaining
    (λ e r told bytes. AreGiven e told bytes × HasTold e r t new.remaining told bytes)
    → new.failures ≡ one_more i.new.failures → Scans written eight registers (Err Read) (change i.old new) o
scans_unread written eight registers s t answer i o new k next reads =
    let n = after_call written eight registers s answer i o new.remaining
    (λ e r told bytes. AreGiven e told bytes × HasTold e r t new.remaining told bytes) k next in
    let within = told_within eight registers t new.remaining k.strings n.0 n.2.1 in
    record {
      reports = k.reports;
      finds = given_strings eight registers i.old.remaining new.remaining k.strings n.0 k.reports n.1 within n.2.0
          k.reported
          (still_marked written eight registers s answer i o new.remaining n.0
          (λ e r told bytes. AreGiven e told bytes × HasTold e r t new.remaining told bytes) k next n.1);
      put = k.put;
      taken = n.0;
      consumed = n.1;
      over = tt;
      reads = reads ∙ ap one_more k.reads;
      writes = k.writes;
    }

-- an allocation failed
scans_grown : (written : Item → Text) (eight : Bool) (registers : ℕ) (s : Scan)
    (answer : Result Status RunFault) (i : Change SourceState) (o : Change SinkState) (new : SourceState)
    → (k : Scanning written eight registers s answer i o)
    → AfterTaking s i.new.remaining new.remaining GrowsWithin
    → new.failures ≡ i.new.failures → Scans written eight registers (Err OutOfMemory) (change i.old new) o
scans_grown written eight registers s answer i o new k next reads =
    let n = after_call written eight registers s answer i o new.remaining GrowsWithin k next in
    record {
      reports = k.reports;
      finds = grown_strings eight registers i.old.remaining new.remaining k.strings n.0 k.reports n.1 n.2 k.reported
          (still_marked written eight registers s answer i o new.remaining n.0 GrowsWithin k next n.1);
      put = k.put;
      taken = n.0;
      consumed = n.1;
      over = tt;
      reads = reads ∙ k.reads;
      writes = k.writes;
    }

-- a call of the scan failed
pub scans_failed : (written : Item → Text) (eight : Bool) (registers : ℕ) (s t : Scan)
    (answer : Result Status RunFault) (i : Change SourceState) (o : Change SinkState) (new : SourceState)
    (f : ScanFault)
    → (k : Scanning written eight registers s answer i o)
    → ((let r : Result (Option Scanned) ScanFault = Err f in r) ≡ Err fault.Read
    → AfterTaking s i.new.remaining new.remaining
    (λ e r told bytes. AreGiven e told bytes × HasTold e r t new.remaining told bytes))
    → ((let r : Result (Option Scanned) ScanFault = Err f in r) ≡ Err fault.OutOfMemory
    → AfterTaking s i.new.remaining new.remaining GrowsWithin)
    → new.failures ≡ failures_after (let r : Result (Option Scanned) ScanFault = Err f in r) i.new.failures
    → Scans written eight registers (Err (of_scan f)) (change i.old new) o
scans_failed written eight registers s t answer i o new fault.Read k read memory reads =
    scans_unread written eight registers s t answer i o new k (read refl) reads
scans_failed written eight registers s t answer i o new fault.OutOfMemory k read memory reads =
    scans_grown written eight registers s answer i o new k (memory refl) reads

-- ---- what it found

-- the lines of what it found
file_wrote : (eight : Bool) (registers : ℕ) (bytes : List ℕ) (left : Option (List ℕ))
    (answer : Result Status RunFault) (reports : List Scanned) → Finds eight registers bytes left answer reports
    → WroteWith (ScanGives eight registers bytes) (ScansUnread eight registers bytes left)
    (ScansBefore eight registers bytes) answer (Some []) (Some (scan_text reports))
file_wrote eight registers bytes left (Err OutOfMemory) reports finds = (reports, finds, refl)
file_wrote eight registers bytes left (Err Read) reports finds = (reports, finds, refl)
file_wrote eight registers bytes left (Err Write) reports finds =
    (scan_text reports, refl, scan-begins eight registers bytes reports finds)
file_wrote eight registers bytes left answer reports finds =
    (scan_text reports, (reports, finds.0, refl, finds.1), refl)

wrote_if : (profile : Profile) (eight : Bool) (old left : Option (List ℕ)) (answer : Result Status RunFault)
    (reports : List Scanned) → IfSome old (λ bytes. Finds eight (count_of profile) bytes left answer reports)
    → IfSome old (λ bytes. Wrote (task.Scan profile eight) bytes left answer (Some []) (Some (scan_text reports)))
wrote_if profile eight None left answer reports finds = tt
wrote_if profile eight (Some bytes) left answer reports finds =
    file_wrote eight (count_of profile) bytes left answer reports finds

grew : (eight : Bool) (registers : ℕ) (bytes : List ℕ) (reports : List Scanned)
    → AreBeforeAllocation eight registers bytes reports → MayGrowInString eight registers bytes
grew eight registers bytes reports b = (b.strings, b.grows)

grew_if : (eight : Bool) (registers : ℕ) (old left : Option (List ℕ)) (answer : Result Status RunFault)
    (reports : List Scanned) → IfSome old (λ bytes. Finds eight registers bytes left answer reports)
    → answer ≡ Err OutOfMemory → IfSome old (MayGrowInString eight registers)
grew_if eight registers None left answer reports finds is = tt
grew_if eight registers (Some bytes) left answer reports finds is =
    grew eight registers bytes reports
    (subst (λ (a : Result Status RunFault). Finds eight registers bytes left a reports) is finds)

pub scan_ends : (written : Item → Text) (profile : Profile) (eight : Bool) (answer : Result Status RunFault)
    (i : Change SourceState) (o : Change SinkState) → Scans written eight (count_of profile) answer i o
    → WritesItems (task.Scan profile eight) written answer i o
scan_ends written profile eight answer i o k = record {
  found = answer;
  items = map String k.reports;
  wrote = wrote_if profile eight i.old.remaining i.new.remaining answer k.reports k.finds;
  refused = λ is. absurd (let no : true ≡ false = is in cc);
  unwritten = λ is. absurd (let no : true ≡ false = is in cc);
  ends = inl refl;
  put = k.put;
  memory = grew_if eight (count_of profile) i.old.remaining i.new.remaining answer k.reports k.finds;
  over = record { bytes = k.taken; read = k.consumed; ended = k.over };
  reads = k.reads;
  writes = k.writes;
}
