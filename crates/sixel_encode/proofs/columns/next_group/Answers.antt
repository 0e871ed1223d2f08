use Rattle.sixel_encode.proofs.MaskLemmas.{first_left, none_before, none_left}
use Rattle.sixel_encode.proofs.columns.next_group.Goals as goal

pub returns-then-left-eq0-clause-unset : goal.returns-then-left-eq0-clause-unset
returns-then-left-eq0-clause-unset c = λ group low high.
    none_left c.args.groups c.args.from group c.if-left-eq0.true low

pub returns-clause-unset : goal.returns-clause-unset
returns-clause-unset c = λ group low high.
    none_before c.args.groups c.args.from c.args.count c.min.result group c.ranges.groups.fits c.if-left-eq0.false
    c.min.ensures low high

pub returns-clause-set : goal.returns-clause-set
returns-clause-set c = λ less.
    first_left c.args.groups c.args.from c.args.count c.min.result c.ranges.groups.fits c.if-left-eq0.false
    c.min.ensures less
