use Rattle.std.proofs.Common.{◌≡◌, IfSome, map, string_bytes, take}
use Rattle.std.specs.Str.Lossy.{utf8_lossy}
use Rattle.sixel_words.proofs.arguments.arguments_of.Given as goal

abbrev pub invariant-loop-index : goal.invariant-loop-index
invariant-loop-index g l =
    IfSome (g.A.Arguments.given l.arguments)
    (λ given. map string_bytes l.texts.items ≡ map utf8_lossy (take l.index given))
