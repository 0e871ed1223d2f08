use Rattle.std.proofs.Common.{◌≡◌, ◌≤◌, ◌+◌, ◌-◌, length}
use Rattle.sixel_scan.specs.Scans.{longest_stream}
use Rattle.sixel_scan.proofs.TellLemmas.{Goes}
use Rattle.sixel_scan.proofs.scan.Scan.next_string.Given as goal

abbrev pub invariant-loop-scanned : goal.invariant-loop-scanned
invariant-loop-scanned g l = record {
  goes : Goes l.fn.self (g.S.Source.state l.fn.input).remaining l.self (g.S.Source.state l.input).remaining;
  failures : (g.S.Source.state l.input).failures ≡ (g.S.Source.state l.fn.input).failures;
  later : l.fn.self.scanner.read ≤ l.self.scanner.read;
}

abbrev pub decreases-loop-scanned : goal.decreases-loop-scanned
decreases-loop-scanned g l = longest_stream - (l.self.scanner.read + length l.self.unread)
