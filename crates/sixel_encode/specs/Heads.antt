-- How the text of a repeat begins. Only contracts of private functions cite these.
use Rattle.std.specs.Prelude.{◌≡◌, ℕ, List, [], ◌∷◌, decimal, get_or, length, take}

-- `!` and the count
abbrev pub head : ℕ → List ℕ
head count = 33 ∷ decimal count

-- four bytes that begin with the head of this count
pub record IsHead (count : ℕ) (bytes : List ℕ) : Type 0 where
  pub long : length bytes ≡ 4
  pub begins : take (length (head count)) bytes ≡ head count

-- the item of this count is its head
abbrev pub HasHead : List (List ℕ) → ℕ → Type 0
HasHead texts count = IsHead count (get_or texts count [])
