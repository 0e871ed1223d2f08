use Rattle.std.proofs.Common.{◌∙◌, arith, ap, Bool}
use Rattle.std.specs.Prelude.{cond}
use Rattle.sixel_omissions.proofs.BareLemmas.{at_most_one, count_all, count_step}
use Rattle.sixel_omissions.proofs.bare.count_bare.Goals as goal

pub loop-at-preserved : goal.loop-at-preserved
loop-at-preserved c =
    let i = c.loop-at.invariant in
    let few = at_most_one c.is_bare.result c.how_many-count.result c.how_many-count.ensures in (
      count_step c.args.bytes.now c.loop-at.at c.loop-at.count c.how_many-count.result (omega arith) (omega arith) i.0
          (c.how_many-count.ensures ∙ ap (λ (b : Bool). cond b 1 0) c.is_bare.ensures),
      omega (arith, i.1, few),
      λ short. absurd (omega (arith, short)),
    )

pub returns : goal.returns
returns c =
    let i = c.loop-at.invariant in
    i.0
    ∙ count_all c.args.bytes.now c.loop-at.at (omega arith) (i.2) (λ some. omega arith)
