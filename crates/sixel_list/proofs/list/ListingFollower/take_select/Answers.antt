use Rattle.std.proofs.Common.{refl}
use Rattle.sixel_list.proofs.ListingLemmas.{list-failed, listed}
use Rattle.sixel_list.proofs.list.ListingFollower.take_select.Goals as goal

pub returns-clause-taken : goal.returns-clause-taken
returns-clause-taken g c =
    listed g.K.Sink.state c.put_register.result c.args.self.now _ _
    (record { same_out = refl; put = c.put_register.ensures })

pub returns-clause-stopped : goal.returns-clause-stopped
returns-clause-stopped g c =
    list-failed g.K.Sink.state c.put_register.result c.args.self.now _ _
    (record { same_out = refl; put = c.put_register.ensures })
