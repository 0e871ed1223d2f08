use Rattle.std.proofs.Common.{◌≡◌, ◌∙◌, ◌+◌, ◌++◌, ◌∷◌, [], List, ap, get_or, map, option_map, sym, take, ℕ}
use Rattle.std.specs.Borrow.{Bor}
use Rattle.std.proofs.lemmas.List.{map_more}
use Rattle.sixel_explain.specs.Explanations.{last_name, topic_name}
use Rattle.sixel_explain.proofs.LineLemmas.{called, one_more}
use Rattle.sixel_explain.proofs.lines.last_named.Goals as goal

pub loop-word-preserved : goal.loop-word-preserved
loop-word-preserved c =
    let words = c.args.words.now in
    let i = c.loop-word.word-index in
    let unread : Bor (List ℕ) = record { ref_ptr = (0, 0); now = [] } in
    let word = (get_or words i unread).now in
    let before = map (λ w. w.now) (take i words) in
    let more : map (λ w. w.now) (take (i + 1) words) ≡ before ++ word ∷ [] =
    map_more (λ w. w.now) words i unread c.loop-word-test.true in
    let named = called word c.topic_named.result c.topic_named.ensures.found c.topic_named.ensures.none in
    ap last_name more ∙ one_more before word c.topic_named.result c.loop-word.last named c.loop-word.invariant
    ∙ ap (option_map topic_name) (sym c.or-last.ensures)
