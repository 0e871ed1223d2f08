use Rattle.std.proofs.Common.{◌≡◌, ◌∙◌, ◌+◌, ◌++◌, ◌∷◌, [], List, ap, append_assoc, codes, get_or, map, sym, take, ℕ}
use Rattle.std.specs.Borrow.{Bor}
use Rattle.std.specs.List.{concat}
use Rattle.std.proofs.lemmas.List.{map_more}
use Rattle.sixel_report.specs.Texts.{Text}
use Rattle.sixel_explain.proofs.LineLemmas.{one_said}
use Rattle.sixel_explain.proofs.lines.line_of.Goals as goal

pub loop-word-preserved : goal.loop-word-preserved
loop-word-preserved c =
    let said = c.args.said.now in
    let i = c.loop-word.word-index in
    let unread : Bor (List ℕ) = record { ref_ptr = (0, 0); now = [] } in
    let word = (get_or said i unread).now in
    let before = map (λ w. w.now) (take i said) in
    let more : map (λ w. w.now) (take (i + 1) said) ≡ before ++ word ∷ [] =
    map_more (λ w. w.now) said i unread c.loop-word-test.true in
    let begun = concat (map (λ w. codes " " ++ w) before) in
    c.in_ok-push_str-2.ensures.bytes
    ∙ ap (λ (t : Text). t ++ word)
    (c.in_ok-push_str.ensures.bytes ∙ ap (λ (t : Text). t ++ codes " ") c.loop-word.invariant)
    ∙ append_assoc begun (codes " ") word
    ∙ sym (ap (λ (ws : List Text). concat (map (λ w. codes " " ++ w) ws)) more ∙ one_said before word)
