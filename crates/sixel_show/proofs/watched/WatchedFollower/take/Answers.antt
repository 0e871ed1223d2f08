use Rattle.sixel_show.proofs.WatchLemmas.{watches_one}
use Rattle.sixel_show.proofs.watched.WatchedFollower.take.Goals as goal

pub returns-clause-taken : goal.returns-clause-taken
returns-clause-taken c =
    watches_one c.args.self.now c.push.new.self c.args.placed.now c.push.ensures.terminal
    c.push.ensures.watched
