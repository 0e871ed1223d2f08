-- A scan of one string says what a check says.
use Rattle.std.proofs.Common.{◌≡◌, ◌∙◌, ◌∷◌, ℕ, List, [], refl, sym, ap, subst, ◌+◌, Bool, true, false, ◌++◌, arith}
use Rattle.std.proofs.Common.{codes}
use Rattle.std.specs.Prelude.{Result, Ok}
use Rattle.std.proofs.lemmas.List.{append-nil, take_all}
use Rattle.sixel_grammar.specs.declared.command.Placed.{Placed}
use Rattle.sixel_grammar.specs.Document.{Document, events_of}
use Rattle.sixel_grammar.proofs.TotalLemmas.{judged, document_whole}
use Rattle.sixel_grammar.proofs.UniqueLemmas.{document_once}
use Rattle.sixel_judge.specs.declared.verdict.Verdict.{Verdict}
use Rattle.sixel_judge.specs.declared.verdict.Verdict.TheVariants as judged
use Rattle.sixel_judge.specs.Verdicts.{IsVerdict}
use Rattle.sixel_emulator_check.specs.Laws.{named_verdict, none}
use Rattle.sixel_emulator_check.specs.Verdicts.{IsVerdictOn}
use Rattle.sixel_emulator_check.specs.Written.{IsVerdictOf}
use Rattle.sixel_emulator_check.specs.declared.verdict.NamedVerdict.{NamedVerdict}
use Rattle.sixel_emulator_check.specs.declared.verdict.NamedVerdict.TheVariants.{Portable, Broken, Asked}
use Rattle.sixel_report.specs.declared.fault.RunFault.{RunFault}
use Rattle.sixel_report.specs.declared.task.Status.{Status}
use Rattle.sixel_run.specs.Outputs.{status_of, ScanGives}
use Rattle.sixel_report.specs.Texts.{Text, named_verdict_line, answer_line, finding_line, string_line, verdict_line}
use Rattle.sixel_emulator_check.proofs.NoneLemmas.{none_asked}
use Rattle.sixel_emulator_check.proofs.WrittenLemmas.{verdict_by_events}
use Rattle.std.proofs.lemmas.Fmt.{decimal_digit}
use Rattle.sixel_grammar.specs.Bytes.{introducer}
use Rattle.sixel_model.specs.Profiles.{count_of}
use Rattle.sixel_judge.specs.declared.verdict.Verdict.TheVariants.{Portable, Broken}
use Rattle.sixel_judge.proofs.AnswerLemmas.{verdict_everywhere}
use Rattle.sixel_judge.proofs.DifferenceLemmas.{verdict_matters}
use Rattle.sixel_scan.specs.declared.answer.Scanned.{Scanned}
use Rattle.sixel_scan.specs.Scans.{longest_stream}
use Rattle.sixel_scan.specs.Strings.{AreStrings}
use Rattle.sixel_run_laws.proofs.DocumentLemmas.{one_string}
use Rattle.sixel_scan.proofs.MarkLemmas.{plain_none}
use Rattle.sixel_run_laws.specs.Laws.{ScanIsCheck, status_alone}
use Rattle.sixel_run.specs.Scanned.{answer_of_strings, stream_of}
use Rattle.sixel_run.proofs.StringLemmas.{tells_so, told_as}

-- a verdict for no terminal is a verdict
pub verdict_alone : (registers : ℕ) (placed : List Placed) (v : NamedVerdict) → IsVerdictOn registers none placed v
    → (w : Verdict) × IsVerdict registers placed w × (v ≡ named_verdict w)
verdict_alone registers placed (Portable p) is = (judged.Portable p, (is.0, is.2), refl)
verdict_alone registers placed (Broken f) is = (judged.Broken f, (is.0, (is.1).finding), refl)
verdict_alone registers placed (Asked f) is = absurd ((none_asked (events_of placed)) f.rule (is.1).first.asked is.0 (is.1).first.broken)

-- for no terminal it is that on the events
events_alone : (registers : ℕ) (bytes : List ℕ) (placed : List Placed) (v : NamedVerdict)
    → IsVerdictOf registers none bytes placed v → IsVerdictOn registers none placed v
events_alone registers bytes placed v is =
    verdict_by_events is is.bare_is is.space_is

-- the report of one string with this verdict
abbrev alone : Verdict → Scanned
alone v = record { place = 0; answer = told_as 0 (Ok v); wrapped = false }

told_line : (v : Verdict) → answer_line (told_as 0 (Ok v)) ≡ verdict_line v
told_line (Portable picture) = refl
told_line (Broken f) = ap (λ (n : ℕ). finding_line (record f { place = n })) (from_zero f.place)
  where
    from_zero : (n : ℕ) → 0 + n ≡ n
    from_zero n = omega arith

one_line : (v : Verdict) → string_line (alone v) ≡ codes "0 " ++ verdict_line v
one_line v =
    ap (λ (t : Text). t ++ 32 ∷ answer_line (told_as 0 (Ok v))) (decimal_digit 0 (omega arith))
    ∙ ap (λ (t : Text). codes "0 " ++ t) (told_line v)

one_status : (v : Verdict)
    → (let r : Result Status RunFault = Ok (status_alone (status_of (named_verdict v))) in r)
    ≡ answer_of_strings (alone v ∷ [])
one_status (Portable picture) = refl
one_status (Broken f) = refl

same_line : (v : Verdict) → named_verdict_line (named_verdict v) ≡ verdict_line v
same_line (Portable picture) = refl
same_line (Broken f) = refl

-- a document is the whole stream
whole_stream : (events : List Placed) (bytes : List ℕ) → Document events bytes → stream_of bytes ≡ bytes
whole_stream events bytes d =
    take_all longest_stream bytes (let short = d.short in omega (arith, short))

one_given : (registers : ℕ) (eight : Bool) (events : List Placed) (bytes more : List ℕ)
    (document : Document events bytes) (v : Verdict) → bytes ≡ introducer false ++ more
    → document.parses.after ≡ [] → IsVerdict registers events v
    → ScanGives eight registers bytes (codes "0 " ++ verdict_line v) (Ok (status_alone (status_of (named_verdict v))))
one_given registers eight events bytes more document v starts bare is =
    let whole = document_whole events bytes document in (
      alone v ∷ [],
      record {
        strings = record { place = 0; bytes = bytes } ∷ [];
        are = subst (AreStrings eight (record { place = 0; bytes = bytes } ∷ []))
            (sym (whole_stream events bytes document)) (one_string eight events bytes more document starts bare);
        reported = (
          record {
            place = refl;
            checked = Ok v;
            answers = (
              events,
              document,
              is,
              verdict_everywhere registers events v whole is,
              verdict_matters registers events v whole is,
            );
            tells = tells_so 0 (Ok v);
          },
          tt,
        );
        marked = (
          record {
            within = omega arith;
            marked = (λ on. absurd (let no : false ≡ true = on in cc), λ w. absurd (plain_none w));
          },
          tt,
        );
      },
      sym (append-nil (string_line (alone v)) ∙ one_line v),
      one_status v,
    )

pub scan_is_check : ScanIsCheck
scan_is_check profile eight events bytes more document text status starts bare given =
    let v = given.2.0 in
    let is : IsVerdictOf (count_of profile) none bytes events v =
    subst (λ (l : List Placed). IsVerdictOf (count_of profile) none bytes l v)
    (document_once bytes given.0 events given.1 document) given.2.1 in
    let plain = verdict_alone (count_of profile) events v (events_alone (count_of profile) bytes events v is) in
    rw (given.2.2, given.2.3, plain.2, same_line plain.0)
    (one_given (count_of profile) eight events bytes more document plain.0 starts bare plain.1)
