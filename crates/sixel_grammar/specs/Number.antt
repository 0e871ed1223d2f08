-- Numbers, and fields of them.
use Rattle.std.specs.Prelude.{◌≡◌, ℕ, ◌≤◌, List, [], ◌∷◌, ◌++◌}
use Rattle.std.specs.Str.Parse.{AllDigits, digits_value}
use Rattle.sixel_grammar.specs.Bytes.{separator}

-- decimal digits, perhaps none, with the value n, which is at most 65,535
pub record NumberText (n : ℕ) (text : List ℕ) : Type 0 where
  pub digits : AllDigits 10 text
  pub value : digits_value 10 text ≡ n
  pub small : n ≤ 65535

-- one or more number texts, joined by `;`
abbrev pub Fields : List ℕ → List ℕ → Type 0
Fields [] bytes = ⊥
Fields (n ∷ []) bytes = NumberText n bytes
Fields (n ∷ m ∷ ns) bytes =
    (text rest : List ℕ) × (bytes ≡ text ++ separator ∷ rest) × NumberText n text × Fields (m ∷ ns) rest
