use Rattle.sixel_model.specs.Profiles.{count_of}
use Rattle.sixel_judge.proofs.FollowLemmas.{event_may, stops_one}
use Rattle.sixel_judge.proofs.following.CheckerFollower.take.Goals as goal

pub push-requires-clause-expected : goal.push-requires-clause-expected
push-requires-clause-expected g c =
    let h = c.requires in
    (count_of h.0.profile, h.1, h.2, (event_may h.1 c.args.placed.now h.3).0)

pub push-requires-clause-spellable : goal.push-requires-clause-spellable
push-requires-clause-spellable g c = (event_may c.requires.1 c.args.placed.now c.requires.3).1

pub returns-clause-stopped : goal.returns-clause-stopped
returns-clause-stopped g c =
    stops_one c.args.self.now c.push.new.self c.args.placed.now c.push.result c.push.ensures.grows
