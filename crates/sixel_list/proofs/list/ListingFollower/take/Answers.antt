use Rattle.std.proofs.Common.{refl}
use Rattle.sixel_list.proofs.ListingLemmas.{list-failed, listed}
use Rattle.sixel_list.proofs.list.ListingFollower.take.Goals as goal

pub returns-clause-taken : goal.returns-clause-taken
returns-clause-taken g c =
    listed g.K.Sink.state c.put_line.result c.args.self.now _ _
    (record { same_out = refl; put = c.put_line.ensures })

pub returns-clause-stopped : goal.returns-clause-stopped
returns-clause-stopped g c =
    list-failed g.K.Sink.state c.put_line.result c.args.self.now _ _
    (record { same_out = refl; put = c.put_line.ensures })
