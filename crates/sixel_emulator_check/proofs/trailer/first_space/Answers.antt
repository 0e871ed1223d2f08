use Rattle.std.proofs.Common.{◌∙◌, ◌==◌, ℕ, ap, arith}
use Rattle.std.specs.Prelude.{slice_index}
use Rattle.sixel_emulator_check.proofs.TrailerLemmas.{next_none, none_at_all, not_eq, space_here}
use Rattle.sixel_emulator_check.proofs.trailer.first_space.Goals as goal

pub returns-then-bytes-at-eq32 : goal.returns-then-bytes-at-eq32
returns-then-bytes-at-eq32 c = (
  space_here c.loop-at.at c.requires c.loop-at.auto.at c.loop-at-test.true
      ∙ ap (λ (n : ℕ). n == 32) c.if-bytes-at-eq32.true,
  c.loop-at.invariant,
)

pub loop-at-preserved : goal.loop-at-preserved
loop-at-preserved c =
    next_none c.args.bytes.now c.loop-at.at c.loop-at.invariant
    (space_here c.loop-at.at c.requires c.loop-at.auto.at c.loop-at-test.true
    ∙ not_eq (slice_index c.args.bytes.now c.loop-at.at) 32 c.if-bytes-at-eq32.false)

pub returns : goal.returns
returns c = none_at_all c.args.bytes.now (λ i lt. c.loop-at.invariant i (omega (arith, lt, c.loop-at-test.false)))
