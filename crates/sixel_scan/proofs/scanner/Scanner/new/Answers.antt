use Rattle.sixel_scan.proofs.MarkLemmas.{new_knows}
use Rattle.sixel_scan.proofs.scanner.Scanner.new.Goals as goal

pub returns-clause-knows : goal.returns-clause-knows
returns-clause-knows c = new_knows
