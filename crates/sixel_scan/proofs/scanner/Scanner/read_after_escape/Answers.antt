use Rattle.sixel_scan.specs.declared.opening.Opening.TheVariants.{Escape}
use Rattle.sixel_scan.proofs.scanner.Scanner.read_after_escape.Goals as goal

pub returns-in-Some-clause-stands : goal.returns-in-Some-clause-stands
returns-in-Some-clause-stands c = λ told bytes r.
    c.hold.ensures.stands Escape c.args.byte told bytes c.in-Some.ensures.next r

pub returns-in-Some-clause-knows : goal.returns-in-Some-clause-knows
returns-in-Some-clause-knows c = λ bytes k. c.hold.ensures.knows c.args.byte bytes c.in-Some.ensures.follows k
