use Rattle.sixel_scan.proofs.EndLemmas.{cancels, terminates}
use Rattle.sixel_scan.proofs.ending.ends_after.Goals as goal

pub returns-in-24-clause-ends : goal.returns-in-24-clause-ends
returns-in-24-clause-ends c = λ on rest. cancels c.args.eight c.args.byte c.in-24.is rest

pub returns-in-156-clause-ends : goal.returns-in-156-clause-ends
returns-in-156-clause-ends c = λ on rest. terminates c.args.eight c.args.byte c.in-156.is on rest
