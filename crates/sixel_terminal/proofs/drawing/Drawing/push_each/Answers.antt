use Rattle.std.proofs.Common.{◌∙◌, ◌++◌, List, subst, take}
use Rattle.sixel_grammar.specs.declared.command.Event.{Event}
use Rattle.sixel_terminal.specs.Drawings.{HasDrawn}
use Rattle.sixel_terminal.specs.Stretches.{sixels_of}
use Rattle.sixel_terminal.proofs.StretchLemmas.{one_sixel_more}
use Rattle.sixel_terminal.proofs.drawing.Drawing.push_each.Goals as goal

pub loop-byte-preserved : goal.loop-byte-preserved
loop-byte-preserved c =
    let i = c.loop-byte.byte-index in (
      c.push.ensures.terminal ∙ c.loop-byte.invariant.0,
      λ before drawn.
          subst (λ (es : List Event). HasDrawn c.push.new.self es)
          (one_sixel_more before c.args.bytes.now i c.loop-byte-test.true)
          (c.push.ensures.drawn (before ++ sixels_of (take i c.args.bytes.now)) (c.loop-byte.invariant.1 before drawn)),
    )
