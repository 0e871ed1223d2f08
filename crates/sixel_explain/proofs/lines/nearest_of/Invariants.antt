use Rattle.std.proofs.Common.{map, option_map, take}
use Rattle.sixel_explain.proofs.NearLemmas.{SoFar}
use Rattle.sixel_explain.proofs.lines.nearest_of.Given as goal

abbrev pub invariant-loop-name : goal.invariant-loop-name
invariant-loop-name l =
    SoFar (map (λ name. name.now) l.names) l.word (map (λ name. name.now) (take l.name-index l.names))
    (option_map (λ name. name.now) l.nearest) l.fewest
