-- The strings of a stream and their reports: a stream has one list of both.
use Rattle.std.proofs.Common.{◌≡◌, ◌∙◌, ◌≤◌, ℕ, Bool, List, [], ◌∷◌, ◌++◌, length, take, Option, Some, None, ap, ap₂}
use Rattle.std.proofs.Common.{append_assoc, arith, inl, inr, map, refl, subst, sym}
use Rattle.std.specs.List.{AllByRecursion}
use Rattle.std.specs.Prelude.{◌+◌, Result, Ok, Err, flat_map}
use Rattle.std.proofs.lemmas.List.{append-nil, length-take, map-append}
use Rattle.std.proofs.lemmas.Grind.{flat_map-append}
use Rattle.sixel_grammar.specs.declared.fault.Fault.{Fault}
use Rattle.sixel_grammar.proofs.TotalLemmas.{document_whole, judged}
use Rattle.sixel_grammar.proofs.UniqueLemmas.{fault_no_document, fault_once}
use Rattle.sixel_judge.specs.declared.verdict.Verdict.{Verdict}
use Rattle.sixel_judge.specs.declared.verdict.Verdict.TheVariants.{Portable, Broken}
use Rattle.sixel_judge.proofs.AnswerLemmas.{verdict_everywhere}
use Rattle.sixel_judge.proofs.DecideLemmas.{verdict_exists}
use Rattle.sixel_judge.proofs.DifferenceLemmas.{verdict_matters}
use Rattle.sixel_check.specs.Answers as checking
use Rattle.sixel_scan.specs.declared.answer.Answer.{Answer}
use Rattle.sixel_scan.specs.declared.answer.Answer.TheVariants.{Portable as SaysPortable, Broken as SaysBroken, Refused}
use Rattle.sixel_scan.specs.declared.answer.Scanned.{Scanned}
use Rattle.sixel_scan.specs.Answers.{IsReported, Tells, as_checked}
use Rattle.sixel_scan.specs.Standing.{AreReported}
use Rattle.sixel_scan.specs.Strings.{AreStrings, StringAt}
use Rattle.sixel_scan.specs.Wrapping.{AreMarked, IsMarked}
use Rattle.sixel_scan.proofs.GivenLemmas.{ended_of}
use Rattle.sixel_scan.proofs.MarkLemmas.{marked_more}
use Rattle.sixel_scan.proofs.StringLemmas.{none_in_nothing, one_list, some_strings}
use Rattle.sixel_scan.proofs.TellLemmas.{stream_begins}
use Rattle.sixel_report.specs.declared.fault.RunFault.{RunFault}
use Rattle.sixel_report.specs.declared.fault.RunFault.TheVariants as run
use Rattle.sixel_report.specs.declared.item.Item.{Item}
use Rattle.sixel_report.specs.declared.item.Item.TheVariants.{String}
use Rattle.sixel_report.specs.declared.task.Status.{Status}
use Rattle.sixel_run.specs.Outputs.{ScanGives}
use Rattle.sixel_run.specs.Scanned.{AreBeforeAllocation, AreOfFirst, AreOfGiven, answer_of_strings, scan_text}
use Rattle.sixel_run.specs.Scanned.{stream_of}
use Rattle.sixel_report.specs.Texts.{Text, BeginsWith, item_line, items_text}
use Rattle.sixel_run.proofs.CheckLemmas.{same_verdict}
use Rattle.sixel_run.proofs.WrappingLemmas.{mark_once, strings_within, wrapped_or_not}

-- ---- the answer for the bytes of a string

answer_exists : (registers : ℕ) (bytes : List ℕ)
    → (checked : Result Verdict Fault) × checking.Answers registers (as_checked checked) bytes
answer_exists registers bytes =
    elim (judged bytes) [
      | inl d ↦
          let v = verdict_exists registers d.0 in
          let whole = document_whole d.0 bytes d.1 in (
            Ok v.0,
            (
              d.0,
              d.1,
              v.1,
              verdict_everywhere registers d.0 v.0 whole v.1,
              verdict_matters registers d.0 v.0 whole v.1,
            ),
          )
      | inr f ↦ (Err f.0, f.1)
    ]

answer_once : (registers : ℕ) (bytes : List ℕ) (a b : Result Verdict Fault)
    → checking.Answers registers (as_checked a) bytes → checking.Answers registers (as_checked b) bytes → a ≡ b
answer_once registers bytes (Ok v) (Ok w) p q =
    ap (λ (x : Verdict). Ok x) (same_verdict registers bytes p.0 q.0 v w p.1 q.1 p.2 q.2)
answer_once registers bytes (Ok v) (Err f) p q = absurd (fault_no_document bytes f q (p.0, p.1))
answer_once registers bytes (Err f) (Ok v) p q = absurd (fault_no_document bytes f p (q.0, q.1))
answer_once registers bytes (Err f) (Err e) p q = ap (λ (x : Fault). Err x) (fault_once bytes f e p q)

-- what a scan tells of it
abbrev pub told_as : ℕ → Result Verdict Fault → Answer
told_as place (Ok (Portable picture)) = SaysPortable picture.width picture.height
told_as place (Ok (Broken finding)) = SaysBroken (record finding { place = place + finding.place })
told_as place (Err fault) = Refused (record fault { place = place + fault.place })

pub tells_so : (place : ℕ) (checked : Result Verdict Fault) → Tells place checked (told_as place checked)
tells_so place (Ok (Portable picture)) = refl
tells_so place (Ok (Broken finding)) = refl
tells_so place (Err fault) = refl

told_so : (place : ℕ) (checked : Result Verdict Fault) (answer : Answer) → Tells place checked answer
    → answer ≡ told_as place checked
told_so place (Ok (Portable picture)) answer is = is
told_so place (Ok (Broken finding)) answer is = is
told_so place (Err fault) answer is = is

-- ---- the report of a string

-- a report of the string, marked in these bytes
report_exists : (registers : ℕ) (bytes : List ℕ) (s : StringAt) → s.place ≤ length bytes
    → (r : Scanned) × IsReported registers s r × IsMarked bytes r
report_exists registers bytes s within =
    let c = answer_exists registers s.bytes in
    let w = wrapped_or_not (take s.place bytes) in (
      record { place = s.place; answer = told_as s.place c.0; wrapped = w.0 },
      record { place = refl; checked = c.0; answers = c.1; tells = tells_so s.place c.0 },
      record { within = within; marked = w.1 },
    )

report_once : (registers : ℕ) (bytes : List ℕ) (s : StringAt) (r t : Scanned) → IsReported registers s r
    → IsReported registers s t → IsMarked bytes r → IsMarked bytes t → r ≡ t
report_once registers bytes s r t p q m n =
    let same = answer_once registers s.bytes p.checked q.checked p.answers q.answers in
    let answer : r.answer ≡ t.answer =
    told_so s.place p.checked r.answer p.tells ∙ ap (told_as s.place) same
    ∙ sym (told_so s.place q.checked t.answer q.tells) in
    let place : r.place ≡ t.place = p.place ∙ sym q.place in
    ap₂ (λ (n : ℕ) (a : Answer). let k : Scanned = record { place = n; answer = a; wrapped = r.wrapped } in k) place
    answer
    ∙ ap (λ (w : Bool). let k : Scanned = record { place = t.place; answer = t.answer; wrapped = w } in k)
    (mark_once bytes r t place m n)

reports_exist : (registers : ℕ) (bytes : List ℕ) (strings : List StringAt)
    → AllByRecursion (λ s. s.place ≤ length bytes) strings
    → (reports : List Scanned) × AreReported registers strings reports × AreMarked bytes reports
reports_exist registers bytes [] within = ([], tt, tt)
reports_exist registers bytes (s ∷ more) within =
    let first = report_exists registers bytes s within.0 in
    let rest = reports_exist registers bytes more within.1 in
    (first.0 ∷ rest.0, (first.1, rest.1), (first.2, rest.2))

-- the reports of more strings begin with those of the first
reports_begin : (registers : ℕ) (bytes : List ℕ) (xs ys : List StringAt) (rs ts : List Scanned)
    → AreReported registers xs rs → AreReported registers (xs ++ ys) ts → AreMarked bytes rs → AreMarked bytes ts
    → (more : List Scanned) × (ts ≡ rs ++ more)
reports_begin registers bytes [] ys [] ts p q m n = (ts, refl)
reports_begin registers bytes [] ys (r ∷ rs) ts p q m n = absurd p
reports_begin registers bytes (x ∷ xs) ys [] ts p q m n = absurd p
reports_begin registers bytes (x ∷ xs) ys (r ∷ rs) [] p q m n = absurd q
reports_begin registers bytes (x ∷ xs) ys (r ∷ rs) (t ∷ ts) p q m n =
    let rest = reports_begin registers bytes xs ys rs ts p.1 q.1 m.1 n.1 in (
      rest.0,
      ap₂ (λ (h : Scanned) (l : List Scanned). h ∷ l) (report_once registers bytes x t r q.0 p.0 n.0 m.0) rest.1,
    )

reports_once : (registers : ℕ) (bytes : List ℕ) (xs : List StringAt) (rs ts : List Scanned)
    → AreReported registers xs rs → AreReported registers xs ts → AreMarked bytes rs → AreMarked bytes ts → rs ≡ ts
reports_once registers bytes [] [] [] p q m n = refl
reports_once registers bytes [] [] (t ∷ ts) p q m n = absurd q
reports_once registers bytes [] (r ∷ rs) ts p q m n = absurd p
reports_once registers bytes (x ∷ xs) [] ts p q m n = absurd p
reports_once registers bytes (x ∷ xs) (r ∷ rs) [] p q m n = absurd q
reports_once registers bytes (x ∷ xs) (r ∷ rs) (t ∷ ts) p q m n =
    ap₂ (λ (h : Scanned) (l : List Scanned). h ∷ l) (report_once registers bytes x r t p.0 q.0 m.0 n.0)
    (reports_once registers bytes xs rs ts p.1 q.1 m.1 n.1)

pub reports_join : (registers : ℕ) (xs ys : List StringAt) (rs ts : List Scanned) → AreReported registers xs rs
    → AreReported registers ys ts → AreReported registers (xs ++ ys) (rs ++ ts)
reports_join registers [] ys [] ts p q = q
reports_join registers [] ys (r ∷ rs) ts p q = absurd p
reports_join registers (x ∷ xs) ys [] ts p q = absurd p
reports_join registers (x ∷ xs) ys (r ∷ rs) ts p q = (p.0, reports_join registers xs ys rs ts p.1 q)

-- ---- one output

pub scan-once : (eight : Bool) (registers : ℕ) (bytes : List ℕ) (first second : Text) (a b : Result Status RunFault)
    → ScanGives eight registers bytes first a → ScanGives eight registers bytes second b
    → (first ≡ second) × (a ≡ b)
scan-once eight registers bytes first second a b g h =
    let strings = one_list eight g.1.strings h.1.strings (stream_of bytes) g.1.are h.1.are in
    let same : g.0 ≡ h.0 =
    reports_once registers (stream_of bytes) h.1.strings g.0 h.0
    (subst (λ (s : List StringAt). AreReported registers s g.0) strings g.1.reported) h.1.reported g.1.marked h.1.marked
    in
    (g.2 ∙ ap scan_text same ∙ sym h.2, g.3 ∙ ap answer_of_strings same ∙ sym h.3)

pub scan-gives : (eight : Bool) (registers : ℕ) (bytes : List ℕ)
    → (text : Text) × (answer : Result Status RunFault) × ScanGives eight registers bytes text answer
scan-gives eight registers bytes =
    let s = some_strings eight (stream_of bytes) in
    let r = reports_exist registers (stream_of bytes) s.0 (strings_within eight 0 s.0 (stream_of bytes) (length (stream_of bytes)) (omega arith) s.1) in (
      scan_text r.0,
      answer_of_strings r.0,
      (r.0, record { strings = s.0; are = s.1; reported = r.1; marked = r.2 }, refl, refl),
    )

-- ---- the first strings

text_joins : (xs ys : List Scanned) → scan_text (xs ++ ys) ≡ scan_text xs ++ scan_text ys
text_joins xs ys =
    ap items_text (map-append String xs ys) ∙ flat_map-append item_line (map String xs) (map String ys)

-- the text of a scan begins with the lines of the first strings
pub scan-begins : (eight : Bool) (registers : ℕ) (bytes : List ℕ) (reports : List Scanned)
    → AreOfFirst eight registers bytes reports
    → (text : Text) (answer : Result Status RunFault) → ScanGives eight registers bytes text answer
    → BeginsWith text (scan_text reports)
scan-begins eight registers bytes reports f text answer g =
    let strings = one_list eight g.1.strings (f.strings ++ f.rest) (stream_of bytes) g.1.are f.are in
    let more = reports_begin registers (stream_of bytes) f.strings f.rest reports g.0 f.reported
    (subst (λ (s : List StringAt). AreReported registers s g.0) strings g.1.reported) f.marked g.1.marked in
    (scan_text more.0, g.2 ∙ ap scan_text more.1 ∙ text_joins reports more.0)

-- the strings of the bytes given are the first
pub given_first : (eight : Bool) (registers : ℕ) (bytes : List ℕ) (left : Option (List ℕ)) (reports : List Scanned)
    → AreOfGiven eight registers bytes left reports → AreOfFirst eight registers bytes reports
given_first eight registers bytes None reports g = absurd g.consumed
given_first eight registers bytes (Some rest) reports g =
    let begins = stream_begins rest g.given g.within in
    let all = g.are.ended begins.0 in
    record {
      strings = g.strings;
      rest = all.0;
      are = subst (AreStrings eight (g.strings ++ all.0)) (sym (ap stream_of g.consumed ∙ begins.1)) all.1;
      reported = g.reported;
      marked = subst (λ (t : List ℕ). AreMarked t reports) (sym (ap stream_of g.consumed ∙ begins.1))
          (marked_more g.given begins.0 reports g.marked);
    }

-- so are those before one in which a checker may allocate
pub before_first : (eight : Bool) (registers : ℕ) (bytes : List ℕ) (reports : List Scanned)
    → AreBeforeAllocation eight registers bytes reports → AreOfFirst eight registers bytes reports
before_first eight registers bytes reports b =
    let grows = b.grows in
    let before = grows.3 in
    let all = ended_of eight b.strings grows.0 (length before.before) before.string before.resumes grows.1 in
    record {
      strings = b.strings;
      rest = all.0;
      are = subst (AreStrings eight (b.strings ++ all.0)) (sym grows.2) all.1;
      reported = b.reported;
      marked = b.marked;
    }

-- no bytes were given
pub none_given : (eight : Bool) (registers : ℕ) (bytes : List ℕ) → AreOfGiven eight registers bytes (Some bytes) []
none_given eight registers bytes = record {
  given = [];
  consumed = refl;
  within = omega arith;
  strings = [];
  are = record { ended = λ more. some_strings eight more; all = inl (none_in_nothing eight) };
  reported = tt;
  marked = tt;
}

-- the answer of a scan is no fault of the grammar
pub not_a_fault : (reports : List Scanned) (f : Fault)
    → (let r : Result Status RunFault = Err (run.Grammar f) in r) ≡ answer_of_strings reports → ⊥
not_a_fault [] f is = cc
not_a_fault (s ∷ more) f is = cc

pub short_take : (n : ℕ) (xs : List ℕ) → length (take n xs) ≤ n
short_take n xs = omega (arith, length-take n xs)

-- ---- the lines

-- what is written for some strings and one more
pub strings_more : (written : Item → Text) (reports : List Scanned) (s : Scanned)
    → flat_map written (map String (reports ++ s ∷ [])) ≡ flat_map written (map String reports) ++ written (String s)
strings_more written [] s = append-nil (written (String s))
strings_more written (r ∷ reports) s =
    ap (λ (t : Text). written (String r) ++ t) (strings_more written reports s)
    ∙ sym (append_assoc (written (String r)) (flat_map written (map String reports)) (written (String s)))
