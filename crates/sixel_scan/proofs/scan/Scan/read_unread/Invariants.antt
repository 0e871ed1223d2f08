use Rattle.std.proofs.Common.{◌≡◌, ◌≤◌, ℕ, List, length}
use Rattle.sixel_scan.specs.Scans.{IsReading}
use Rattle.sixel_scan.specs.Strings.{StringAt}
use Rattle.sixel_scan.proofs.scan.Scan.read_unread.Given as goal

abbrev pub invariant-loop-self : goal.invariant-loop-self
invariant-loop-self l = record {
  reads : (told : List StringAt) (bytes : List ℕ) → IsReading l.fn.self told bytes → IsReading l.self told bytes;
  less : length l.self.unread ≤ length l.fn.self.unread;
  profile : l.self.scanner.profile ≡ l.fn.self.scanner.profile;
  eight : l.self.scanner.eight ≡ l.fn.self.scanner.eight;
  ended : l.self.ended ≡ l.fn.self.ended;
}

abbrev pub decreases-loop-self : goal.decreases-loop-self
decreases-loop-self l = length l.self.unread
