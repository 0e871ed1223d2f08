-- What the laws say.
use Rattle.std.specs.Prelude.{◌≡◌, ◌∷◌, ◌++◌, [], List, codes, map}
use Rattle.std.specs.List.{concat}
use Rattle.sixel_report.specs.Texts.{Text}

-- these words are a line of the program, which was cut at some of its spaces, without its line feed
abbrev pub ArePasted : List Text → Text → Type 0
ArePasted said line = concat (map (λ word. codes " " ++ word) said) ++ 10 ∷ [] ≡ codes " " ++ line
