use Rattle.std.proofs.Common.{flat_map, take}
use Rattle.std.specs.Prelude.{option_copied}
use Rattle.sixel_io.proofs.SinkLemmas.{Written}
use Rattle.sixel_messages.specs.Reports.{written_for}
use Rattle.sixel_messages.proofs.reporting.LabelledPutItem.put_items.Given as goal

-- the items so far were written
abbrev pub invariant-loop-said : goal.invariant-loop-said
invariant-loop-said g l =
    Written (g.K.Sink.state l.fn.out) (g.K.Sink.state l.out)
    (flat_map (written_for l.self.lines (option_copied l.self.label)) (take l.said-index l.items))
