-- What holds of known bytes.
use Rattle.std.specs.Prelude.{IfSome}
use Rattle.std.proofs.Common.{ℕ, Option, Some, None, List}

-- what holds of known bytes
pub told : (o : Option (List ℕ)) (P Q : List ℕ → Type 0) → ((bytes : List ℕ) → P bytes → Q bytes) → IfSome o P
    → IfSome o Q
told None P Q f h = tt
told (Some bytes) P Q f h = f bytes h
