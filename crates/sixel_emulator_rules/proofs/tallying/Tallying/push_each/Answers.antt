use Rattle.std.proofs.Common.{◌++◌, ◌∙◌, arith, subst, take}
use Rattle.sixel_grammar.specs.Stretches.{sixels_from}
use Rattle.sixel_emulator_rules.specs.Tallying.{HasTallied}
use Rattle.sixel_emulator_rules.proofs.TakingLemmas.{sixels_then}
use Rattle.sixel_emulator_rules.proofs.tallying.Tallying.push_each.Goals as goal

pub loop-index-preserved : goal.loop-index-preserved
loop-index-preserved c = (
  c.push_data.ensures.terminals ∙ c.loop-index.invariant.0,
  λ seen h.
      subst (HasTallied c.push_data.new.self)
      (sixels_then seen c.args.place _ c.loop-index.index c.args.stretch.now (omega arith)
      (omega (arith, c.loop-index-test.true)))
      (c.push_data.ensures.taken (seen ++ sixels_from c.args.place (take c.loop-index.index c.args.stretch.now))
      (c.loop-index.invariant.1 seen h)),
)
