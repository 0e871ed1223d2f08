-- Each prefix of a viable list is viable.
use Rattle.std.proofs.Common.{◌≡◌, ℕ, ◌+◌, List, [], ◌∷◌, ◌++◌, length, Option, Some, None, refl, sym, ap, subst, ◌∙◌}
use Rattle.std.proofs.Common.{append_assoc, inl, inr}
use Rattle.std.specs.Prelude.{◌⊎◌}
use Rattle.std.proofs.lemmas.List.{append-nil}
use Rattle.sixel_grammar.specs.declared.command.Event.{Event}
use Rattle.sixel_grammar.specs.declared.command.Placed.{Placed}
use Rattle.sixel_grammar.specs.Prefixes.{IsViable}
use Rattle.sixel_grammar.specs.Faults.{Form, NothingYet, EndsIn}
use Rattle.sixel_grammar.specs.Next.{next_of}
use Rattle.sixel_grammar.proofs.AdvanceLemmas.{GoesTo, advances}
use Rattle.sixel_grammar.proofs.ViableLemmas.{complete}
use Rattle.sixel_grammar.proofs.WalkLemmas.{Stamp, state, after, walk, walk-none, walk-then}
use Rattle.sixel_grammar.proofs.DocumentWalkLemmas.{start, document_walk}

-- the bytes end in some form
abbrev pub Ends : List ℕ → Type 0
Ends bytes = (g : Form) × (events : List Placed) × (opened : ℕ) × EndsIn g events opened bytes

pub leads : (more : List ℕ) (f : Form) (events : List Placed) (opened : ℕ) (bytes : List ℕ)
    → EndsIn f events opened bytes
    → Ends (bytes ++ more) ⊎ ((n o : ℕ) (s : List Stamp) → walk n (Some (state f o s)) more ≡ None)
leads [] f events opened bytes e = inl (subst Ends (sym (append-nil bytes)) (f, events, opened, e))
leads (b ∷ more) f events opened bytes e =
    elim (next_of f b) as
    (λ x.
    next_of f b ≡ x → GoesTo events opened bytes b x
    → Ends (bytes ++ b ∷ more) ⊎ ((n o : ℕ) (s : List Stamp) → walk n (Some (state f o s)) (b ∷ more) ≡ None)) [
      | None ↦
          λ is g.
          inr (λ n o s.
          ap (λ (t : Option (Option Event × Form × Option Event)). walk (n + 1) (after n o s t) more) is
          ∙ walk-none (n + 1) more)
      | Some x ↦ λ is g. elim (leads more x.1 _ _ (bytes ++ b ∷ []) g) [
        | inl r ↦ inl (subst Ends (append_assoc bytes (b ∷ []) more) r)
        | inr w ↦
            inr (λ n o s.
            ap (λ (t : Option (Option Event × Form × Option Event)). walk (n + 1) (after n o s t) more) is
            ∙ w (n + 1) _ _)
      ]
    ] refl (advances f e b)

pub nothing : EndsIn NothingYet [] 0 []
nothing = record {
  pieces = [];
  filler = [];
  open_bytes = [];
  bytes_are = refl;
  each = tt;
  filler_is = tt;
  opens = refl;
  before = refl;
  closed = tt;
  events_are = refl;
  opened_is = refl;
}

-- a prefix of a document ends in some form
pub prefix_ends : (prefix rest : List ℕ) → IsViable (prefix ++ rest) → Ends prefix
prefix_ends prefix rest v =
    elim (leads prefix NothingYet [] 0 [] nothing) [
      | inl r ↦ r
      | inr w ↦
          let d = document_walk v.1.pieces ((prefix ++ rest) ++ v.1.tail) v.1.parses in
          let n : walk 0 start ((prefix ++ rest) ++ v.1.tail) ≡ None =
          walk-then 0 (0 + length (prefix ++ rest)) start None None (prefix ++ rest) v.1.tail refl
          (walk-then 0 (0 + length prefix) start None None prefix rest refl (w 0 0 [])
          (walk-none (0 + length prefix) rest))
          (walk-none (0 + length (prefix ++ rest)) v.1.tail) in
          absurd cc
    ]

pub prefixes : (prefix rest : List ℕ) → IsViable (prefix ++ rest) → IsViable prefix
prefixes prefix rest v = let r = prefix_ends prefix rest v in (r.1, complete r.0 r.3)
