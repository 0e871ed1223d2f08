use Rattle.std.proofs.Common.{take}
use Rattle.sixel_show.proofs.StageLemmas.{finds-no-sixels}
use Rattle.sixel_show.proofs.box_finder.BoxFinderFollower.take_stretch.Goals as goal

pub returns-clause-taken : goal.returns-clause-taken
returns-clause-taken c =
    finds-no-sixels c.args.self.now c.args._place (take c.args._count c.args._bytes.now)
