use Rattle.std.proofs.Common.{◌++◌, subst, take}
use Rattle.sixel_terminal.specs.Stretches.{sixels_of}
use Rattle.sixel_mlterm.specs.MlTermSeen.{HasSeenMlTerm}
use Rattle.sixel_mlterm.proofs.MlTermLemmas.{sixels_then}
use Rattle.sixel_mlterm.proofs.mlterm.MlTerm.see_each.Goals as goal

pub loop-byte-preserved : goal.loop-byte-preserved
loop-byte-preserved c = λ before s.
    subst (HasSeenMlTerm c.see.new.self)
    (sixels_then before c.loop-byte.byte-index c.args.bytes.now c.loop-byte-test.true)
    (c.see.ensures (before ++ sixels_of (take c.loop-byte.byte-index c.args.bytes.now))
    (c.loop-byte.invariant before s))
