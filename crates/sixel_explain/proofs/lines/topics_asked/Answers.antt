use Rattle.std.proofs.Common.{◌≡◌, ◌∙◌, ◌∷◌, [], List, ap, drop, false, map, option_map, sym, true, ℕ}
use Rattle.std.proofs.lemmas.Result.{IfOk-weaker}
use Rattle.sixel_explain.specs.Explanations.{all_called, is_line, line_of, name_in, words_of}
use Rattle.sixel_explain.proofs.LineLemmas.{names_of_line, names_of_words}
use Rattle.sixel_explain.proofs.lines.topics_asked.Goals as goal

pub returns-then-is_line : goal.returns-then-is_line
returns-then-is_line c =
    let line = line_of (map (λ word. word.now) c.args.said.now) in
    let is : is_line line ≡ true =
    ap is_line (sym (c.as_str.ensures.value ∙ c.in_ok-line.ensures)) ∙ c.is_line.ensures ∙ c.if-is_line.true in
    IfOk-weaker c.topics_of_line.result _ _
    (λ topics here. names_of_line line is
    ∙ ap (λ (t : List ℕ). option_map (λ name. name ∷ []) (name_in t))
    (sym (c.as_str-then-is_line.ensures.value ∙ c.in_ok-line.ensures)) ∙ here) c.topics_of_line.ensures

pub returns : goal.returns
returns c =
    let line = line_of (map (λ word. word.now) c.args.said.now) in
    let is : is_line line ≡ false =
    ap is_line (sym (c.as_str.ensures.value ∙ c.in_ok-line.ensures)) ∙ c.is_line.ensures ∙ c.if-is_line.false in
    IfOk-weaker c.topics_of_words.result _ _
    (λ topics here. names_of_words line is
    ∙ ap (λ (t : List ℕ). all_called (drop 1 (words_of t)))
    (sym (c.as_str-else-is_line.ensures.value ∙ c.in_ok-line.ensures)) ∙ here) c.topics_of_words.ensures
