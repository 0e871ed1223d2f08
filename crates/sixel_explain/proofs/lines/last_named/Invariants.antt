use Rattle.std.proofs.Common.{◌≡◌, map, option_map, take}
use Rattle.sixel_explain.specs.Explanations.{last_name, topic_name}
use Rattle.sixel_explain.proofs.lines.last_named.Given as goal

abbrev pub invariant-loop-word : goal.invariant-loop-word
invariant-loop-word l =
    last_name (map (λ word. word.now) (take l.word-index l.words)) ≡ option_map topic_name l.last
