use Rattle.std.proofs.Common.{◌≡◌, ◌∙◌, ◌+◌, [], List, ap, drop, get_or, map, option_map, rules, sym, ℕ}
use Rattle.std.specs.Borrow.{Bor}
use Rattle.std.proofs.lemmas.List.{drop_more}
use Rattle.sixel_explain.specs.declared.explanations.Topic.{Topic}
use Rattle.sixel_explain.specs.Explanations.{all_called, topic_name}
use Rattle.sixel_explain.proofs.LineLemmas.{called, onto, onto_none, word_lost}
use Rattle.sixel_explain.proofs.lines.topics_named.Goals as goal

pub loop-word-init : goal.loop-word-init
loop-word-init c =
    let all = all_called (map (λ w. w.now) c.args.words.now) in
    let empty : c.new-topics.result.items ≡ [] = search rules in
    sym (ap (λ (topics : List Topic). onto topics all) empty ∙ onto_none all)

pub returns-in-None : goal.returns-in-None
returns-in-None c =
    let words = c.args.words.now in
    let i = c.loop-word.word-index in
    let unread : Bor (List ℕ) = record { ref_ptr = (0, 0); now = [] } in
    let word = (get_or words i unread).now in
    let found = c.loop-word.topics.items in
    let named = called word c.topic_named.result c.topic_named.ensures.found c.topic_named.ensures.none in
    c.loop-word.invariant
    ∙ ap (λ (ws : List (Bor (List ℕ))). onto found (all_called (map (λ w. w.now) ws)))
    (drop_more words i unread c.loop-word-test.true)
    ∙ word_lost found word (map (λ w. w.now) (drop (i + 1) words)) (named ∙ ap (option_map topic_name) c.in-None.is)
