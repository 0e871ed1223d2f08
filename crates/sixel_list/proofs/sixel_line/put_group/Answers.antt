use Rattle.sixel_encode.proofs.LineLemmas.{put_few}
use Rattle.sixel_list.proofs.sixel_line.put_group.Goals as goal

pub returns-clause-text : goal.returns-clause-text
returns-clause-text c =
    put_few c.args.at c.args.count c.args.text.now c.args.bytes.now c.requires.few c.requires.whole c.requires.room
