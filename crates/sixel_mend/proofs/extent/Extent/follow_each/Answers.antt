use Rattle.std.proofs.Common.{◌++◌, List, subst, take}
use Rattle.sixel_grammar.specs.declared.command.Event.{Event}
use Rattle.sixel_terminal.specs.Stretches.{sixels_of}
use Rattle.sixel_terminal.proofs.StretchLemmas.{one_sixel_more}
use Rattle.sixel_mend.specs.Measures.{Measures}
use Rattle.sixel_mend.proofs.extent.Extent.follow_each.Goals as goal

pub loop-byte-preserved : goal.loop-byte-preserved
loop-byte-preserved c = λ before s.
    let i = c.loop-byte.byte-index in
    subst (λ (es : List Event). Measures c.with.result es)
    (one_sixel_more before c.args.bytes.now i c.loop-byte-test.true)
    (c.with.ensures (before ++ sixels_of (take i c.args.bytes.now)) (c.loop-byte.invariant before s))
