use Rattle.std.proofs.Common.{List, refl}
use Rattle.sixel_grammar.specs.declared.command.Placed.{Placed}
use Rattle.sixel_grammar.specs.Document.{Document, events_of}
use Rattle.sixel_grammar.proofs.FollowSourceLemmas.{told_known}
use Rattle.sixel_show.specs.Watching.{HasWatched}
use Rattle.sixel_show.proofs.draw.draw.Goals as goal

pub follow_source-requires : goal.follow_source-requires
follow_source-requires g c = (c.args.watched.now, (refl, c.requires))

pub returns-clause-terminal : goal.returns-clause-terminal
returns-clause-terminal g c =
    (c.in_ok-follow_source.ensures.followed c.args.watched.now (refl, c.requires)).taken.0

pub returns-clause-drawn : goal.returns-clause-drawn
returns-clause-drawn g c =
    let f = c.in_ok-follow_source.ensures.followed c.args.watched.now (refl, c.requires) in
    told_known (g.S.Source.state c.args.input.now).remaining f.bytes
    (λ bytes. (events : List Placed) × Document events bytes
    × HasWatched c.follow_source.new.follower (events_of events))
    f.known_are (f.events, f.document, f.taken.1)
