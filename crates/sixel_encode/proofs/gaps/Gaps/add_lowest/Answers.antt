use Rattle.std.proofs.Common.{arith}
use Rattle.sixel_encode.proofs.GapItemLemmas.{lowest_added, lowest_is, rest_is, rest_less}
use Rattle.sixel_encode.proofs.gaps.Gaps.add_lowest.Goals as goal

pub overflow_shl-result : goal.overflow_shl-result
overflow_shl-result c = omega (arith, (lowest_is c.args.left c.requires.few).most)

pub returns-clause-added : goal.returns-clause-added
returns-clause-added c = λ bytes are.
    let lowest = lowest_is c.args.left c.requires.few in
    lowest_added _ _ c.from.result lowest
    (rest_is c.args.left _ (omega (arith, lowest.most))) (omega arith) c.from.ensures
    (omega (arith, c.requires.room)) are

pub returns-clause-fewer : goal.returns-clause-fewer
returns-clause-fewer c = λ some. rest_less c.requires.few some (lowest_is c.args.left c.requires.few)
