-- The parts of the line of a sixel.
use Rattle.std.specs.Prelude.{◌≡◌, ℕ, [], ◌∷◌, ◌++◌, ◌+◌, ◌*◌, ◌/◌, ◌%◌, length, take}
use Rattle.sixel_grammar.specs.declared.command.Command.TheVariants.{Sixel}
use Rattle.sixel_report.specs.Texts.{Text, command_parts, spaced}

-- a number below 100 in two decimal digits
abbrev pub two_digits : ℕ → Text
two_digits n = (48 + n / 10) ∷ (48 + n % 10) ∷ []

-- what follows the offset in the line of a sixel
abbrev pub tail_of : ℕ → Text
tail_of bits = spaced (command_parts (Sixel bits)) ++ 10 ∷ []

-- from byte 16 * bits on the text has the tail of these bits
abbrev pub HasTail : Text → ℕ → Type 0
HasTail text bits = take (16 * bits + length (tail_of bits)) text ≡ take (16 * bits) text ++ tail_of bits
