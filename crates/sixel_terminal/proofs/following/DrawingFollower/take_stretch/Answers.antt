use Rattle.std.proofs.Common.{take}
use Rattle.sixel_terminal.proofs.FollowLemmas.{draws_stretch}
use Rattle.sixel_terminal.proofs.following.DrawingFollower.take_stretch.Goals as goal

pub returns-clause-taken : goal.returns-clause-taken
returns-clause-taken c =
    draws_stretch c.args.self.now c.push_stretch.new.self c.args._place (take c.args.count c.args.bytes.now)
    c.push_stretch.ensures.terminal c.push_stretch.ensures.drawn
