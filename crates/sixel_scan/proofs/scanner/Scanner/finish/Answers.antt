use Rattle.std.proofs.Common.{◌∙◌, ◌++◌, ◌∷◌, [], ℕ, List, ap, length, subst}
use Rattle.sixel_model.specs.Profiles.{count_of}
use Rattle.sixel_judge.proofs.GrowthLemmas.{err_says}
use Rattle.sixel_scan.specs.declared.scanner.Stage.TheVariants.{Escaped, Inside}
use Rattle.sixel_scan.specs.Prefixes.{Resumes}
use Rattle.sixel_scan.proofs.EndLemmas.{end_at_last_escape, end_of_stream}
use Rattle.sixel_scan.proofs.GrowthLemmas.{opens_before}
use Rattle.sixel_scan.proofs.MarkLemmas.{marked_report}
use Rattle.sixel_scan.proofs.ReportLemmas.{all_told, last_told, room_at_end, stands_at}
use Rattle.sixel_scan.proofs.ScanLemmas.{string_ends, string_ends_here}
use Rattle.sixel_scan.proofs.scanner.Scanner.finish.Goals as goal

pub returns-in-Text-clause-all : goal.returns-in-Text-clause-all
returns-in-Text-clause-all c = λ told bytes h.
    all_told c.args.self.now told bytes c.in-Text.field-0 c.in-Text.is h

pub report-requires : goal.report-requires
report-requires c =
    let s = c.args.self.now in
    let t = c.requires.stands in
    let r = stands_at s t.0 t.1 Inside c.in-Inside.is t.2 in (
      r.held,
      r.holds.2,
      room_at_end s.opened s.read t.1 r.before r.held r.holds.1 r.bytes_are r.read_is c.requires.room,
    )

pub returns-in-Inside-clause-all : goal.returns-in-Inside-clause-all
returns-in-Inside-clause-all c = λ told bytes h.
    let s = c.args.self.now in
    let r = stands_at s told bytes Inside c.in-Inside.is h in
    last_told s told bytes r.before r.resumes r.holds.1
    (c.report.ensures.reported r.held r.holds.2) (string_ends_here r.holds.0 (end_of_stream s.eight))

pub returns-in_err-feed-in-Escaped-clause-memory : goal.returns-in_err-feed-in-Escaped-clause-memory
returns-in_err-feed-in-Escaped-clause-memory c =
    err_says _ c.from_residual.result
    (λ told bytes h.
    let s = c.args.self.now in
    let r = stands_at s told bytes Escaped c.in-Escaped.is h in
    record {
      before = r.before;
      string = r.holds.0 ++ 27 ∷ [];
      bytes_are = r.bytes_are ∙ ap (λ (t : List ℕ). r.before ++ t) r.holds.1;
      resumes = subst (Resumes s.eight told bytes (length r.before)) r.holds.1 r.resumes;
      opens = opens_before (27 ∷ []) r.holds.2;
      grows = c.in_err-feed-in-Escaped.ensures.memory (count_of s.profile) r.holds.0 r.holds.4;
    })

pub report-requires-in-Escaped : goal.report-requires-in-Escaped
report-requires-in-Escaped c =
    let s = c.args.self.now in
    let t = c.requires.stands in
    let r = stands_at s t.0 t.1 Escaped c.in-Escaped.is t.2 in (
      r.holds.0 ++ 27 ∷ [],
      c.in_ok-feed-in-Escaped.ensures.read (count_of s.profile) r.holds.0 r.holds.4,
      room_at_end s.opened s.read t.1 r.before (r.holds.0 ++ 27 ∷ []) r.holds.3
          (r.bytes_are ∙ ap (λ (t : List ℕ). r.before ++ t) r.holds.1) r.read_is c.requires.room,
    )

pub returns-in_ok-feed-in-Escaped-clause-all : goal.returns-in_ok-feed-in-Escaped-clause-all
returns-in_ok-feed-in-Escaped-clause-all c = λ told bytes h.
    let s = c.args.self.now in
    let r = stands_at s told bytes Escaped c.in-Escaped.is h in
    last_told s told bytes r.before (subst (Resumes s.eight told bytes (length r.before)) r.holds.1 r.resumes) r.holds.3
    (c.report-in-Escaped.ensures.reported (r.holds.0 ++ 27 ∷ [])
    (c.in_ok-feed-in-Escaped.ensures.read (count_of s.profile) r.holds.0 r.holds.4))
    (string_ends r.holds.2 (end_at_last_escape s.eight))

pub returns-in-Inside-clause-marked : goal.returns-in-Inside-clause-marked
returns-in-Inside-clause-marked c = λ bytes k. (
  marked_report c.report.result c.report.ensures.place c.report.ensures.wrapped k,
  tt,
)

pub returns-in_ok-feed-in-Escaped-clause-marked : goal.returns-in_ok-feed-in-Escaped-clause-marked
returns-in_ok-feed-in-Escaped-clause-marked c = λ bytes k.
    let e = c.report-in-Escaped.ensures in
    (marked_report c.report-in-Escaped.result e.place e.wrapped k, tt)
