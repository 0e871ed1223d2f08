use Rattle.std.proofs.Common.{[], ◌∷◌}
use Rattle.sixel_show.proofs.StageLemmas.{finds-more}
use Rattle.sixel_show.proofs.box_finder.BoxFinderFollower.take.Goals as goal

pub returns-clause-taken : goal.returns-clause-taken
returns-clause-taken c =
    finds-more c.args.self.now c.look_at.new.self (c.args.placed.now ∷ []) c.look_at.ensures
