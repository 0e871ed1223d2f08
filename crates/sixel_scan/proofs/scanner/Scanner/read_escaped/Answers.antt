use Rattle.std.proofs.Common.{◌∙◌, ◌++◌, ◌∷◌, [], ℕ, List, ap, length, refl}
use Rattle.sixel_model.specs.Profiles.{count_of}
use Rattle.sixel_judge.proofs.GrowthLemmas.{err_says, grows_on}
use Rattle.sixel_scan.specs.declared.scanner.Scanner.{Scanner}
use Rattle.sixel_scan.proofs.GrowthLemmas.{escape_grows}
use Rattle.sixel_scan.specs.declared.opening.Opening.TheVariants.{Nothing}
use Rattle.sixel_scan.specs.declared.scanner.Stage.TheVariants.{Text}
use Rattle.sixel_scan.proofs.MarkLemmas.{knows_byte, knows_escape, marked_more, marked_report, plain_terminated}
use Rattle.sixel_scan.proofs.ReportLemmas.{reports_one, room_for, two_read}
use Rattle.sixel_scan.proofs.ScanLemmas.{to_next_escape, to_terminated, two_more}
use Rattle.sixel_scan.proofs.scanner.Scanner.read_escaped.Goals as goal

pub returns-in_err-feed-clause-memory : goal.returns-in_err-feed-clause-memory
returns-in_err-feed-clause-memory c =
    err_says _ c.from_residual.result
    (λ told bytes r.
    escape_grows r
    (grows_on (r.holds.0 ++ 27 ∷ []) (c.args.byte ∷ []) ((r.holds.0 ++ 27 ∷ []) ++ c.args.byte ∷ []) refl
    (c.in_err-feed.ensures.memory (count_of c.args.self.now.profile) r.holds.0 r.holds.4)))

pub feed-requires-then-byte-eq-BACKSLASH : goal.feed-requires-then-byte-eq-BACKSLASH
feed-requires-then-byte-eq-BACKSLASH c =
    let registers = count_of c.args.self.now.profile in
    let r = c.requires.stands.2 in
    (registers, r.holds.0 ++ 27 ∷ [], c.in_ok-feed.ensures.read registers r.holds.0 r.holds.4)

pub returns-in_err-feed-2-clause-memory : goal.returns-in_err-feed-2-clause-memory
returns-in_err-feed-2-clause-memory c =
    err_says _ c.from_residual-in_err-feed-2.result
    (λ told bytes r.
    let registers = count_of c.args.self.now.profile in
    escape_grows r
    (c.in_err-feed-2.ensures.memory registers (r.holds.0 ++ 27 ∷ [])
    (c.in_ok-feed.ensures.read registers r.holds.0 r.holds.4)))

pub report-requires : goal.report-requires
report-requires c =
    let s = c.args.self.now in
    let registers = count_of s.profile in
    let r = c.requires.stands.2 in
    let string = r.holds.0 in (
      string ++ 27 ∷ c.args.byte ∷ [],
      two_read registers c.feed-then-byte-eq-BACKSLASH.new.self string c.args.byte
          (c.in_ok-feed-2.ensures.read registers (string ++ 27 ∷ [])
          (c.in_ok-feed.ensures.read registers string r.holds.4)),
      room_for s.opened s.read c.requires.stands.1 r.before (string ++ 27 ∷ c.args.byte ∷ []) r.holds.3
          (r.bytes_are ∙ ap (λ (t : List ℕ). r.before ++ t) (two_more string r.held c.args.byte r.holds.1)) r.read_is
          c.requires.room,
    )

pub returns-then-byte-eq-BACKSLASH-clause-read : goal.returns-then-byte-eq-BACKSLASH-clause-read
returns-then-byte-eq-BACKSLASH-clause-read c = λ told bytes r.
    let s = c.args.self.now in
    let registers = count_of s.profile in
    let string = r.holds.0 in
    reports_one c.report.new.self told bytes (string ++ 27 ∷ c.args.byte ∷ []) s.opened (length r.before)
    (ap (λ (x : Scanner). count_of x.profile) c.report.ensures.rest) r.holds.3
    (c.report.ensures.reported (string ++ 27 ∷ c.args.byte ∷ [])
    (two_read registers c.feed-then-byte-eq-BACKSLASH.new.self string c.args.byte
    (c.in_ok-feed-2.ensures.read registers (string ++ 27 ∷ []) (c.in_ok-feed.ensures.read registers string r.holds.4))))
    (rw c.report.ensures.rest (to_terminated r c.report.new.self.check c.if-byte-eq-BACKSLASH.true))

pub returns-clause-read : goal.returns-clause-read
returns-clause-read c = λ told bytes r.
    let s = c.args.self.now in
    reports_one c.read_after_escape.new.self told bytes r.holds.0 s.opened (length r.before)
    (ap count_of c.read_after_escape.ensures.profile
    ∙ ap (λ (x : Scanner). count_of x.profile) c.report-scanned.ensures.rest)
    r.holds.3 (c.report-scanned.ensures.reported r.holds.0 r.holds.4)
    (c.read_after_escape.ensures.stands (told ++ record { place = length r.before; bytes = r.holds.0 } ∷ []) bytes
    (rw c.report-scanned.ensures.rest (to_next_escape r c.report-scanned.new.self.check c.if-byte-eq-BACKSLASH.false)))

pub returns-then-byte-eq-BACKSLASH-clause-marks : goal.returns-then-byte-eq-BACKSLASH-clause-marks
returns-then-byte-eq-BACKSLASH-clause-marks c = λ bytes k.
    let b = c.args.byte in
    let now = knows_byte (Text Nothing) b (plain_terminated b c.if-byte-eq-BACKSLASH.true k) k in
    record {
      knows = rw c.report.ensures.rest now;
      marked = (marked_report c.report.result c.report.ensures.place c.report.ensures.wrapped now, tt);
    }

pub returns-clause-marks : goal.returns-clause-marks
returns-clause-marks c = λ bytes k.
    let e = c.report-scanned.ensures in
    record {
      knows = c.read_after_escape.ensures.knows bytes (rw e.rest (knows_escape k));
      marked = marked_more bytes (c.args.byte ∷ []) (c.report-scanned.result ∷ [])
          (marked_report c.report-scanned.result e.place e.wrapped k, tt);
    }
