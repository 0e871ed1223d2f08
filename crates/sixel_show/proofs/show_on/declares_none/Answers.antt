use Rattle.std.proofs.Common.{[], refl, sym}
use Rattle.sixel_show.proofs.StageLemmas.{box-of-none, finds-box, looks-on, nothing_found}
use Rattle.sixel_show.proofs.show_on.declares_none.Goals as goal

pub follow-requires : goal.follow-requires
follow-requires c = (nothing_found, [], looks-on c.new-reader.result [] [] c.new-reader.ensures (sym box-of-none))

pub returns-in-Ok : goal.returns-in-Ok
returns-in-Ok c = λ is.
    let f =
    finds-box c.new-reader.result c.follow.new.reader c.follow.new.follower c.follow.new.follower.found [] []
    c.args.first.now c.new-reader.ensures (sym box-of-none) c.in-Ok.ensures.followed refl in
    (c.follow.new.reader, f.events, f.read)
