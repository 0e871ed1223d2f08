use Rattle.std.proofs.Common.{◌<◌, arith, length, take}
use Rattle.std.proofs.lemmas.List.{length-take-le}
use Rattle.sixel_model.specs.Profiles.{count_of}
use Rattle.sixel_judge.proofs.FollowLemmas.{ok_says, same_may, stretch_may}
use Rattle.sixel_judge.proofs.following.CheckerFollower.take_stretch.Goals as goal

pub push_stretch-requires-clause-stands : goal.push_stretch-requires-clause-stands
push_stretch-requires-clause-stands g c =
    let h = c.requires.may in
    let long = length-take-le c.args.count c.args.bytes.now c.requires.within.1 in
    let some : 0 < length (take c.args.count c.args.bytes.now) = omega (arith, long, c.requires.within.0) in
    (count_of h.0.profile, h.1, h.2, stretch_may h.1 c.args.place (take c.args.count c.args.bytes.now) some h.3)

pub returns-clause-taken : goal.returns-clause-taken
returns-clause-taken g c =
    let q = c.requires.may in
    let long = length-take-le c.args.count c.args.bytes.now c.requires.within.1 in
    let some : 0 < length (take c.args.count c.args.bytes.now) = omega (arith, long, c.requires.within.0) in
    let may = stretch_may q.1 c.args.place (take c.args.count c.args.bytes.now) some q.3 in
    ok_says _ c.push_stretch.result
    (λ first seen h. c.push_stretch.ensures.kept (count_of first.profile) seen h
    (same_may (count_of q.0.profile) (count_of first.profile) c.args.self.now q.1 seen q.2 may h))
