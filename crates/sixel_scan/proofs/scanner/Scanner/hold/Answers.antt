use Rattle.std.proofs.Common.{refl}
use Rattle.sixel_scan.proofs.MarkLemmas.{holds_anew, holds_on}
use Rattle.sixel_scan.proofs.ScanLemmas.{to_anew, to_held}
use Rattle.sixel_scan.proofs.scanner.Scanner.hold.Goals as goal

pub returns-in-Escape-clause-stands : goal.returns-in-Escape-clause-stands
returns-in-Escape-clause-stands c = λ opening byte told bytes f r. to_anew r c.args.next c.in-Escape.is f

pub returns-in-Escape-clause-knows : goal.returns-in-Escape-clause-knows
returns-in-Escape-clause-knows c = λ byte bytes f k. rw c.wraps-self.ensures (holds_anew c.args.next byte f k)

pub returns-in_default : goal.returns-in_default
returns-in_default c =
    record {
      stands = λ opening byte told bytes f r.
          to_held r c.args.next c.requires.short c.in_default.not-Escape c.in_default.not-Control f;
      knows = λ byte bytes f k. holds_on c.args.next byte f k;
      profile = refl;
      eight = refl;
    }
