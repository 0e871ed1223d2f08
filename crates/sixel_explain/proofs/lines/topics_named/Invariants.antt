use Rattle.std.proofs.Common.{◌≡◌, drop, map}
use Rattle.sixel_explain.specs.Explanations.{all_called}
use Rattle.sixel_explain.proofs.LineLemmas.{onto}
use Rattle.sixel_explain.proofs.lines.topics_named.Given as goal

abbrev pub invariant-loop-word : goal.invariant-loop-word
invariant-loop-word l =
    all_called (map (λ word. word.now) l.words)
    ≡ onto l.topics.items (all_called (map (λ word. word.now) (drop l.word-index l.words)))
