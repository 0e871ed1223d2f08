-- What is known of the strings of a stream of which only the first bytes are known.
use Rattle.std.specs.Prelude.{◌≡◌, ◌⊎◌, ℕ, Bool, List, [], ◌∷◌, ◌++◌, length}
use Rattle.sixel_judge.specs.Growth.{MayGrowIn}
use Rattle.sixel_scan.specs.Strings.{AreStrings, AreStringsFrom, Opens, StringAt}

-- whatever follows the bytes, the strings of all are those told, and then those of the bytes held and of what follows;
-- the first byte held has this offset
abbrev pub Resumes : Bool → List StringAt → List ℕ → ℕ → List ℕ → Type 0
Resumes eight told bytes offset held =
    (found : List StringAt) (more : List ℕ) → AreStringsFrom eight offset found (held ++ more)
    → AreStringsFrom eight 0 (told ++ found) (bytes ++ more)

-- whatever follows the bytes, these are the first strings of all
abbrev pub AreEnded : Bool → List StringAt → List ℕ → Type 0
AreEnded eight told bytes =
    (more : List ℕ) → (found : List StringAt) × AreStrings eight (told ++ found) (bytes ++ more)

-- besides those told the bytes have one string, which ends only because they do
pub record LeavesOpen (eight : Bool) (told : List StringAt) (bytes : List ℕ) : Type 0 where
  pub open_string : StringAt
  pub strings : AreStrings eight (told ++ open_string ∷ []) bytes
  pub cut : AreEnded eight (told ++ open_string ∷ []) bytes → ⊥

-- the strings of the bytes, without one that ends only because they do
pub record AreGiven (eight : Bool) (told : List StringAt) (bytes : List ℕ) : Type 0 where
  pub ended : AreEnded eight told bytes
  pub all : AreStrings eight told bytes ⊎ LeavesOpen eight told bytes

-- the strings before the one that the bytes end in, which begins with an opening, and in which a check with this many
-- registers may allocate
pub record AreBeforeGrowth (eight : Bool) (registers : ℕ) (told : List StringAt) (bytes : List ℕ) : Type 0 where
  pub before : List ℕ
  pub string : List ℕ
  pub bytes_are : bytes ≡ before ++ string
  pub resumes : Resumes eight told bytes (length before) string
  pub opens : Opens eight string
  pub grows : MayGrowIn registers string
