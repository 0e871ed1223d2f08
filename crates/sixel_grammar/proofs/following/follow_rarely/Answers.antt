use Rattle.std.proofs.Common.{◌≡◌, [], ◌∷◌, ◌++◌, refl, subst, sym}
use Rattle.std.specs.Prelude.{IfErr, OnOk}
use Rattle.sixel_grammar.specs.declared.reader.Reader.{Reader}
use Rattle.sixel_grammar.specs.Following.{AreFollowed, FollowsBytes, HaltsWithin}
use Rattle.sixel_grammar.specs.Runs.{two_commands}
use Rattle.sixel_grammar.proofs.FollowingLemmas.{followed_byte, if_halt, may_all, on_halt, stopped_byte}
use Rattle.sixel_grammar.proofs.following.follow_rarely.Goals as goal

pub hand_two-requires : goal.hand_two-requires
hand_two-requires g c =
    let a = c.requires.2 in (
      c.requires.0,
      a.events,
      a.taken,
      may_all c.feed_two.new.self a.events (two_commands c.in-Some.two) (c.requires.1 ++ c.args.byte ∷ [])
          (c.in-Some.ensures.accepted a.events c.requires.1 a.read),
    )

pub returns-in-Some-clause-followed : goal.returns-in-Some-clause-followed
returns-in-Some-clause-followed g c =
    on_halt c.hand_two.result c.halted.result _ _ c.halted.ensures
    (followed_byte g.F.Follower.has_taken c.args.reader.now c.feed_two.new.self c.args.follower.now
    c.hand_two.new.follower c.args.byte (two_commands c.in-Some.two) c.in-Some.ensures.accepted)
    c.hand_two.ensures.taken

pub returns-in-Some-clause-halted : goal.returns-in-Some-clause-halted
returns-in-Some-clause-halted g c =
    if_halt c.hand_two.result c.halted.result _ _ c.halted.ensures
    (λ stop. stopped_byte g.F.Follower.has_taken g.F.Follower.may_stop c.args.reader.now c.feed_two.new.self
    c.args.follower.now c.hand_two.new.follower c.args.byte (two_commands c.in-Some.two) stop
    c.in-Some.ensures.accepted)
    c.hand_two.ensures.stopped

pub follow_any-requires : goal.follow_any-requires
follow_any-requires g c =
    let same : c.feed_two.new.self ≡ c.args.reader.now = c.in-None.ensures.kept refl in (
      c.requires.0,
      c.requires.1,
      subst (λ (r : Reader). AreFollowed (g.F.Follower.has_taken c.requires.0) r c.args.follower.now c.requires.1)
          (sym same) c.requires.2,
    )

pub returns-in-None : goal.returns-in-None
returns-in-None g c =
    let same : c.feed_two.new.self ≡ c.args.reader.now = c.in-None.ensures.kept refl in
    let ensured = c.follow_any.ensures in
    record {
      followed = subst (λ (r : Reader).
          OnOk c.follow_any.result
          (FollowsBytes g.F.Follower.has_taken r c.args.follower.now c.follow_any.new.reader
          c.follow_any.new.follower (c.args.byte ∷ [])))
          same ensured.followed;
      halted = subst (λ (r : Reader).
          IfErr c.follow_any.result
          (HaltsWithin g.F.Follower.has_taken g.F.Follower.may_stop r c.args.follower.now c.follow_any.new.reader
          c.follow_any.new.follower (c.args.byte ∷ []))) same ensured.halted;
    }
