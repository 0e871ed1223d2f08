-- Bytes that are kept while they are read.
use Rattle.std.proofs.Common.{◌≡◌, [], ℕ, List, Option, Some, None, subst, sym}
use Rattle.std.specs.Prelude.{IfSome}
use Rattle.sixel_grammar.specs.declared.command.Placed.{Placed}
use Rattle.sixel_grammar.specs.Pieces.{Begins}
use Rattle.sixel_grammar.proofs.PiecesLemmas.{followed_none}
use Rattle.sixel_keeping.specs.declared.keeping.Keeping.{Keeping}
use Rattle.sixel_keeping.specs.Keeping.{HasKept}

-- what holds of all bytes holds of those that are kept
pub kept_so : {K : Type 0} (items : K → List ℕ) (kept : Option K) (bytes : List ℕ) (P : List ℕ → Type 0)
    → IfSome kept (λ k. items k ≡ bytes) → P bytes → IfSome kept (λ k. P (items k))
kept_so items None bytes P is p = tt
kept_so items (Some k) bytes P is p = subst P (sym is) p

-- before any byte none is kept
pub keeps_none : {F : Type 0} (has_taken : F → F → List Placed → Type 0) (follower : F) (now : Keeping)
    → has_taken follower follower [] → IfSome now.kept (λ kept. kept.items ≡ [])
    → Begins (HasKept has_taken) follower now follower now
keeps_none has_taken follower now taken none = λ reader stands.
    (followed_none has_taken follower follower taken reader stands, none)
