-- Bytes that are kept while they are taken from a source.
use Rattle.std.proofs.Common.{◌≡◌, ◌∙◌, ◌++◌, [], List, Option, Some, None, ℕ, ap, false, refl, true}
use Rattle.std.specs.Prelude.{IfSome, IsSome}
use Rattle.std.specs.Io.KnownBytes.{Consumes}

-- nothing is taken at first
pub none-consumed : (o : Option (List ℕ)) → Consumes o o []
none-consumed None = tt
none-consumed (Some bytes) = refl

-- the bytes so far are kept with more behind them
pub kept-more : {K : Type 0} (items : K → List ℕ) (kept longer : Option K) (bytes more : List ℕ)
    → IfSome longer (λ l. IfSome kept (λ k. items l ≡ items k ++ more)) → (IsSome longer → IsSome kept)
    → IfSome kept (λ k. items k ≡ bytes) → IfSome longer (λ l. items l ≡ bytes ++ more)
kept-more items kept None bytes more is some had = tt
kept-more {K} items None (Some l) bytes more is some had = let no : false ≡ true = some refl in cc
kept-more items (Some k) (Some l) bytes more is some had = is ∙ ap (λ (t : List ℕ). t ++ more) had
