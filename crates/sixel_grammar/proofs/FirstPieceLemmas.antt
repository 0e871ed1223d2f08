-- A source whose first bytes are read already.
use Rattle.std.proofs.Common.{◌≡◌, ◌∙◌, ℕ, List, [], ◌++◌, Option, None, Some, ap, append-nil, arith, refl, subst, sym}
use Rattle.std.proofs.Common.{take}
use Rattle.std.specs.Prelude.{IfSome}
use Rattle.std.specs.Io.KnownBytes.{Consumes, IsAtEnd, Keeps}
use Rattle.sixel_grammar.specs.Faults.{NothingYet}
use Rattle.sixel_grammar.specs.FirstPiece.{with_first}
use Rattle.sixel_grammar.specs.Reading.{NoFaultBefore}
use Rattle.sixel_grammar.proofs.PrefixLemmas.{nothing}
use Rattle.sixel_grammar.proofs.ViableLemmas.{complete}
use Rattle.sixel_grammar.proofs.SourceLemmas.{all_read, take_none}

-- what is left comes after the bytes that are read
pub first_read : (piece : List ℕ) (read : ℕ) (left : Option (List ℕ))
    → Consumes (with_first piece read left) left ([] ++ take read piece)
unfolding with_first
first_read piece read None = tt
first_read piece read (Some rest) = refl

-- if the last piece is empty, what holds of the bytes before it holds of all bytes
pub told_end : (a b : Option (List ℕ)) (prefix piece : List ℕ) (n : ℕ) (P : List ℕ → Type 0)
    → Consumes a b (prefix ++ take n piece) → n ≡ 0 → IsAtEnd b → P prefix → IfSome a P
told_end a b prefix piece n P consumes is end p =
    all_read a b (prefix ++ take n piece) P consumes end
    (subst P (sym (ap (λ (t : List ℕ). prefix ++ t) (take_none n piece is) ∙ append-nil prefix)) p)

-- what holds of the bytes of a source whose first piece is read held of them before
pub told_first : (a left : Option (List ℕ)) (piece : List ℕ) (read : ℕ) (P : List ℕ → Type 0)
    → Consumes a left (take read piece) → IfSome (with_first piece read left) P → IfSome a P
unfolding with_first
told_first None left piece read P consumes p = tt
told_first (Some a) None piece read P consumes p = absurd consumes
told_first (Some a) (Some rest) piece read P consumes p = subst P (sym consumes) p

-- what is taken of its bytes is taken of all
pub taken_first : (a left rest : Option (List ℕ)) (piece : List ℕ) (read : ℕ) (bytes : List ℕ)
    → Consumes a left (take read piece) → Consumes (with_first piece read left) rest bytes → Consumes a rest bytes
unfolding with_first
taken_first None left rest piece read bytes consumes taken = tt
taken_first (Some a) None rest piece read bytes consumes taken = absurd consumes
taken_first (Some a) (Some left) None piece read bytes consumes taken = absurd taken
taken_first (Some a) (Some left) (Some rest) piece read bytes consumes taken = consumes ∙ taken

-- before a first call, which fails, nothing was read
pub unread_all : (a b : Option (List ℕ)) → Keeps a b → IfSome a (NoFaultBefore b)
unread_all None b kept = tt
unread_all (Some bytes) None kept = absurd kept
unread_all (Some bytes) (Some left) kept = ([], sym kept, omega arith, ([], complete NothingYet nothing))
