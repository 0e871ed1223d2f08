use Rattle.std.proofs.Common.{◌≡◌, ◌++◌, codes, map, string_bytes, take}
use Rattle.std.specs.List.{concat}
use Rattle.sixel_explain.proofs.lines.line_of.Given as goal

abbrev pub invariant-loop-word : goal.invariant-loop-word
invariant-loop-word l =
    string_bytes l.line ≡ concat (map (λ word. codes " " ++ word) (map (λ word. word.now) (take l.word-index l.said)))
