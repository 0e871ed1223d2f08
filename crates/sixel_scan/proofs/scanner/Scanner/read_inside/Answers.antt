use Rattle.std.proofs.Common.{ℕ, ◌+◌, ◌++◌, ◌∷◌, [], ap, length, subst, sym}
use Rattle.sixel_model.specs.Profiles.{count_of}
use Rattle.sixel_judge.proofs.GrowthLemmas.{err_says}
use Rattle.sixel_scan.specs.declared.scanner.Scanner.{Scanner}
use Rattle.sixel_scan.specs.declared.scanner.Stage.{Stage}
use Rattle.sixel_scan.specs.Standing.{StandsWith}
use Rattle.sixel_scan.proofs.GrowthLemmas.{byte_grows, opens_before}
use Rattle.sixel_scan.specs.declared.opening.Opening.TheVariants.{Nothing}
use Rattle.sixel_scan.specs.declared.scanner.Stage.TheVariants.{Escaped, Inside, Text}
use Rattle.sixel_scan.specs.Marking.{KnowsWith}
use Rattle.sixel_scan.proofs.MarkLemmas.{knows_byte, marked_report, plain_more}
use Rattle.sixel_scan.proofs.ReportLemmas.{reports_none, reports_one, room_for}
use Rattle.sixel_scan.proofs.ScanLemmas.{to_ended, to_escaped, to_inside}
use Rattle.sixel_scan.proofs.scanner.Scanner.read_inside.Goals as goal

pub returns-then-byte-eq-ESCAPE-clause-read : goal.returns-then-byte-eq-ESCAPE-clause-read
returns-then-byte-eq-ESCAPE-clause-read c = λ told bytes r.
    reports_none _ told bytes (to_escaped r c.if-byte-eq-ESCAPE.true)

pub returns-in_err-feed-clause-memory : goal.returns-in_err-feed-clause-memory
returns-in_err-feed-clause-memory c =
    err_says _ c.from_residual.result
    (λ told bytes r.
    byte_grows r (opens_before (c.args.byte ∷ []) r.holds.0)
    (c.in_err-feed.ensures.memory (count_of c.args.self.now.profile) r.held r.holds.2))

pub report-requires : goal.report-requires
report-requires c =
    let s = c.args.self.now in
    let r = c.requires.stands.2 in (
      r.held ++ c.args.byte ∷ [],
      c.in_ok-feed.ensures.read (count_of s.profile) r.held r.holds.2,
      room_for s.opened s.read c.requires.stands.1 r.before (r.held ++ c.args.byte ∷ []) r.holds.1 r.bytes_are
          r.read_is c.requires.room,
    )

pub returns-then-ends_after-clause-read : goal.returns-then-ends_after-clause-read
returns-then-ends_after-clause-read c = λ told bytes r.
    let s = c.args.self.now in
    let registers = count_of s.profile in
    reports_one c.report.new.self told bytes (r.held ++ c.args.byte ∷ []) s.opened (length r.before)
    (ap (λ (x : Scanner). count_of x.profile) c.report.ensures.rest) r.holds.1
    (c.report.ensures.reported (r.held ++ c.args.byte ∷ []) (c.in_ok-feed.ensures.read registers r.held r.holds.2))
    (rw c.report.ensures.rest (to_ended r c.report.new.self.check (c.ends_after.ensures.ends c.if-ends_after.true)))

pub returns-clause-read : goal.returns-clause-read
returns-clause-read c = λ told bytes r.
    let s = c.args.self.now in
    let registers = count_of s.profile in
    reports_none _ told bytes
    (subst (λ (t : Stage). StandsWith s.eight registers (s.read + 1) s.opened c.feed.new.self t told bytes)
    (sym c.requires.stage)
    (to_inside r c.feed.new.self (c.ends_after.ensures.inside c.if-ends_after.false)
    (c.in_ok-feed.ensures.read registers r.held r.holds.2)))

pub returns-then-byte-eq-ESCAPE-clause-marks : goal.returns-then-byte-eq-ESCAPE-clause-marks
returns-then-byte-eq-ESCAPE-clause-marks c = λ bytes k. record {
  knows = knows_byte Escaped c.args.byte (bytes, ap (λ (b : ℕ). bytes ++ b ∷ []) c.if-byte-eq-ESCAPE.true, k.ends) k;
  marked = tt;
}

pub returns-then-ends_after-clause-marks : goal.returns-then-ends_after-clause-marks
returns-then-ends_after-clause-marks c = λ bytes k.
    let b = c.args.byte in
    let plain = plain_more bytes b k.ends c.if-byte-eq-ESCAPE.false in
    record {
      knows = rw c.report.ensures.rest (knows_byte (Text Nothing) b plain k);
      marked = (
        marked_report c.report.result c.report.ensures.place c.report.ensures.wrapped (knows_byte Inside b plain k),
        tt,
      );
    }

pub returns-clause-marks : goal.returns-clause-marks
returns-clause-marks c = λ bytes k.
    let s = c.args.self.now in
    let b = c.args.byte in
    record {
      knows = subst (λ (t : Stage). KnowsWith t (s.read + 1) s.opened s.wrapped (bytes ++ b ∷ []))
          (sym c.requires.stage)
          (knows_byte Inside b (plain_more bytes b k.ends c.if-byte-eq-ESCAPE.false) k);
      marked = tt;
    }
