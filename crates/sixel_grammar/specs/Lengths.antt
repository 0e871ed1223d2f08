-- A bound on the length of a fixed spelling.
use Rattle.std.specs.Prelude.{ℕ, ◌+◌, List, [], ◌∷◌, nat_lt, if◌then◌else◌}
use Rattle.sixel_grammar.specs.declared.command.Command.TheVariants.{Sixel, Repeat, Raster, Select, Define}
use Rattle.sixel_grammar.specs.declared.command.Command.TheVariants.{CarriageReturn, NextLine}
use Rattle.sixel_grammar.specs.declared.command.Event.{Event}
use Rattle.sixel_grammar.specs.declared.command.Event.TheVariants.{Start, Step, Finish}

-- how many decimal digits a 16-bit number has
abbrev pub digit_count : ℕ → ℕ
digit_count n =
    if nat_lt n 10 then 1 else if nat_lt n 100 then 2 else if nat_lt n 1000 then 3 else if nat_lt n 10000 then 4 else 5

-- how many bytes such numbers take, with a `;` between two
abbrev pub fields_length : List ℕ → ℕ
fields_length [] = 0
fields_length (n ∷ []) = digit_count n
fields_length (n ∷ m ∷ ns) = digit_count n + 1 + fields_length (m ∷ ns)

-- an upper bound on the length of the fixed spelling, in bytes
abbrev pub most_length : Event → ℕ
most_length (Start eight parameters) = 3 + fields_length parameters.items
most_length (Step (Sixel bits)) = 1
most_length (Step (Repeat count bits)) = 2 + digit_count count
most_length (Step (Raster pan pad width height)) = 1 + fields_length (pan ∷ pad ∷ width ∷ height ∷ [])
most_length (Step (Select register)) = 1 + digit_count register
most_length (Step (Define register system x y z)) = 1 + fields_length (register ∷ system ∷ x ∷ y ∷ z ∷ [])
most_length (Step CarriageReturn) = 1
most_length (Step NextLine) = 1
most_length (Finish eight) = 2
