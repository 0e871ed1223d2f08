use Rattle.std.proofs.Common.{arith, take}
use Rattle.sixel_list.proofs.SixelLineLemmas.{tail-there}
use Rattle.sixel_list.proofs.sixel_line.Tails.put.Goals as goal

pub returns-clause-text : goal.returns-clause-text
returns-clause-text c =
    tail-there c.args.self.now.text c.put_group.new.text (take c.args.at c.args.text.now) c.args.at c.args.bits _
    c.tail_length-count.result c.requires.bits (omega (arith, c.requires.bits))
    (c.args.self.now.tails c.args.bits c.requires.bits) c.tail_length-count.ensures.length c.put_group.ensures.text
    (omega arith)
