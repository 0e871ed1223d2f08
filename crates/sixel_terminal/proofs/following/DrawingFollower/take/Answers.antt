use Rattle.sixel_terminal.proofs.FollowLemmas.{draws_one}
use Rattle.sixel_terminal.proofs.following.DrawingFollower.take.Goals as goal

pub returns-clause-taken : goal.returns-clause-taken
returns-clause-taken c =
    draws_one c.args.self.now c.push.new.self c.args.placed.now
    c.push.ensures.terminal c.push.ensures.drawn
