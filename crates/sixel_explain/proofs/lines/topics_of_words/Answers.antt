use Rattle.std.proofs.Common.{◌≡◌, ◌∙◌, ◌==◌, List, Ok, ap, drop, lit<, map, sym, ℕ}
use Rattle.std.specs.Borrow.{Bor}
use Rattle.std.specs.List.{slice_split}
use Rattle.std.proofs.lemmas.Iterator.Consumers.{map_from_collect}
use Rattle.std.proofs.lemmas.Iterator.Splits.{YieldsList-from_str_split}
use Rattle.std.proofs.lemmas.Result.{IfOk-weaker}
use Rattle.sixel_explain.specs.Explanations.{all_called}
use Rattle.sixel_explain.proofs.lines.topics_of_words.Goals as goal

pub returns-in-Some : goal.returns-in-Some
returns-in-Some c =
    let words = c.in_ok-words.words in
    let split : map (λ w. w.now) words.items ≡ slice_split (λ byte. byte == 32) c.args.line.now =
    map_from_collect {E = Unit {0}} (Ok words) c.in_ok-words.ensures.ran
    (YieldsList-from_str_split 32 c.args.line.now (lit< tt) c.split.ensures.text c.split.ensures.has_more
    c.split.ensures.pattern) in
    IfOk-weaker c.topics_named.result _ _
    (λ topics here. ap all_called
    (ap (drop 1) (sym split)
    ∙ ap (λ (ws : List (Bor (List ℕ))). drop 1 (map (λ w. w.now) ws))
    (sym c.as_slice.ensures.value ∙ c.in-Some.ensures.cases.0)) ∙ here) c.topics_named.ensures
