-- Bytes at which nothing ends or begins. They are part of where a scan stands (Standing).
use Rattle.std.specs.Prelude.{◌≢◌, ℕ, ◌<◌, Bool, IsTrue, List, ◌++◌, length}
use Rattle.std.specs.List.{AllByRecursion}
use Rattle.sixel_grammar.specs.Bytes.{escape}
use Rattle.sixel_scan.specs.Strings.{OpensAt, cancel, substitute}

-- the byte ends no string, and is no ESC
pub record IsInside (eight : Bool) (b : ℕ) : Type 0 where
  pub no_escape : b ≢ escape
  pub no_cancel : b ≢ cancel
  pub no_substitute : b ≢ substitute
  pub no_terminator : IsTrue eight → b ≢ 156

-- so is each of the bytes
abbrev pub AreInside : Bool → List ℕ → Type 0
AreInside eight bytes = AllByRecursion (IsInside eight) bytes

-- no opening begins with this byte
pub record BeginsNone (eight : Bool) (b : ℕ) : Type 0 where
  pub no_escape : b ≢ escape
  pub no_introducer : IsTrue eight → b ≢ 144

-- nor with any of these
abbrev pub BeginNone : Bool → List ℕ → Type 0
BeginNone eight bytes = AllByRecursion (BeginsNone eight) bytes

-- no opening begins at any of these bytes, whatever comes after them
abbrev pub NoneBegins : Bool → List ℕ → Type 0
NoneBegins eight bytes = (n : ℕ) (more : List ℕ) → n < length bytes → OpensAt eight (bytes ++ more) n → ⊥
