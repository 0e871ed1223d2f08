use Rattle.std.proofs.Common.{arith}
use Rattle.sixel_encode.proofs.HeadLemmas.{head_put}
use Rattle.sixel_encode.proofs.heads.Heads.put.Goals as goal

pub returns-clause-text : goal.returns-clause-text
returns-clause-text c =
    head_put c.args.at c.args.count _ c.head_length.result c.args.self.now.texts c.args.text.now c.put_at.new.text
    (omega (arith, c.requires.room)) c.requires.count (c.args.self.now.heads c.args.count c.requires.count)
    c.head_length.ensures.value c.put_at.ensures.text (omega arith)
