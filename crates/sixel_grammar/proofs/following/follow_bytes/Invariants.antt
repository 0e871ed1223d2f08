use Rattle.std.proofs.Common.{◌≡◌, ◌++◌, ℕ, List, length}
use Rattle.sixel_grammar.specs.Following.{FollowsBytes}
use Rattle.sixel_grammar.proofs.following.follow_bytes.Given as goal

abbrev pub invariant-loop-rest : goal.invariant-loop-rest
invariant-loop-rest g l =
    (done : List ℕ) × (l.bytes ≡ done ++ l.rest)
    × FollowsBytes g.F.Follower.has_taken l.fn.reader l.fn.follower l.reader l.follower done

abbrev pub decreases-loop-rest : goal.decreases-loop-rest
decreases-loop-rest g l = length l.rest
