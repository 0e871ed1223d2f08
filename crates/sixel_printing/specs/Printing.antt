-- How a text that comes from outside is printed.
use Rattle.std.specs.Prelude.{◌+◌, ◌-◌, ◌/◌, ◌%◌, ◌∷◌, ◌==◌, ℕ, [], List, chars, encode_utf8_all, flat_map, nat_lt}
use Rattle.std.specs.Prelude.{if◌then◌else◌}
use Rattle.std.specs.Char.{is_control}

-- the hexadecimal digit of a number below 16: 0 to 9, A to F
abbrev pub hex_digit : ℕ → ℕ
hex_digit n = if nat_lt n 10 then 48 + n else 65 + (n - 10)

-- the characters that are printed for a character: a control character, one from U+0000 to U+001F or from U+007F to
-- U+009F, is escaped, so a line feed becomes the four characters \x0A
abbrev pub printed_char : ℕ → List ℕ
printed_char c =
    if is_control c then 92 ∷ 120 ∷ hex_digit (c / 16) ∷ hex_digit (c % 16) ∷ [] else c ∷ []

-- how a text is printed, in UTF-8 as it is
abbrev pub printed : List ℕ → List ℕ
printed text = encode_utf8_all (flat_map printed_char (chars text))

-- the same where line feeds stay
abbrev pub printed_in_lines : ℕ → List ℕ
printed_in_lines c = if c == 10 then c ∷ [] else printed_char c

abbrev pub printed_lines : List ℕ → List ℕ
printed_lines text = encode_utf8_all (flat_map printed_in_lines (chars text))
