use Rattle.std.proofs.Common.{take}
use Rattle.sixel_show.proofs.WatchLemmas.{watches_stretch}
use Rattle.sixel_show.proofs.watched.WatchedFollower.take_stretch.Goals as goal

pub returns-clause-taken : goal.returns-clause-taken
returns-clause-taken c =
    watches_stretch c.args.self.now c.push_stretch.new.self c.args._place (take c.args.count c.args.bytes.now)
    c.push_stretch.ensures.terminal c.push_stretch.ensures.watched
