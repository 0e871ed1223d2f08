use Rattle.std.proofs.Common.{◌≡◌, ◌+◌, ◌++◌, ◌∷◌, [], List, get_or, map, option_map, take, ℕ}
use Rattle.std.specs.Borrow.{Bor}
use Rattle.std.proofs.lemmas.List.{map_more}
use Rattle.sixel_explain.proofs.NearLemmas.{farther, named_at, nearer}
use Rattle.sixel_explain.proofs.lines.nearest_of.Goals as goal
use Rattle.sixel_explain.proofs.lines.nearest_of.Goals.{else-edits-fewest, then-edits-fewest}

pub loop-name-preserved : goal.loop-name-preserved
loop-name-preserved c =
    let names = c.args.names.now in
    let i = c.loop-name.name-index in
    let unread : Bor (List ℕ) = record { ref_ptr = (0, 0); now = [] } in
    let all = map (λ n. n.now) names in
    let name = (get_or names i unread).now in
    let before = map (λ n. n.now) (take i names) in
    let kept = option_map (λ n. n.now) c.loop-name.nearest in
    let more : map (λ n. n.now) (take (i + 1) names) ≡ before ++ name ∷ [] =
    map_more (λ n. n.now) names i unread c.loop-name-test.true in
    rw more (elim c.if-edits-fewest.branch [
      | then-edits-fewest w ↦ rw (w.nearest-is, w.fewest-is)
          (nearer all c.args.word.now before kept c.loop-name.fewest name c.in_ok-edits.edits c.loop-name.invariant
          (named_at names i unread c.loop-name-test.true) c.in_ok-edits.ensures w.if-edits-fewest.true)
      | else-edits-fewest w ↦ rw (w.nearest-is, w.fewest-is)
          (farther all c.args.word.now before kept c.loop-name.fewest name c.in_ok-edits.edits c.loop-name.invariant
          c.in_ok-edits.ensures w.if-edits-fewest.false)
    ])
