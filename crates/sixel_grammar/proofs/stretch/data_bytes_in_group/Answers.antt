use Rattle.sixel_grammar.proofs.DataByteLemmas.{whole_group, part_of_group}
use Rattle.sixel_grammar.proofs.stretch.data_bytes_in_group.Goals as goal

pub returns-then-others-eq0 : goal.returns-then-others-eq0
returns-then-others-eq0 c = whole_group c.args.from c.args.piece.now c.requires c.type_inv.piece c.if-others-eq0.true

pub returns-else-others-eq0 : goal.returns-else-others-eq0
returns-else-others-eq0 c = part_of_group c.args.from c.args.piece.now c.requires c.type_inv.piece c.if-others-eq0.false
