use Rattle.sixel_encode.proofs.FoundLemmas.{filled_group}
use Rattle.sixel_encode.proofs.columns.find_group.Goals as goal

pub returns-then-at-width : goal.returns-then-at-width
returns-then-at-width c =
    filled_group c.args.at c.args.rows.now c.args.width c.args.register c.args.sixels.now c.group_sixels-lanes.result
    c.group_sixels-lanes.ensures.long c.if-at-width.true c.requires.room c.group_sixels-lanes.ensures.bits
