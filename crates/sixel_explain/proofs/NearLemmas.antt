-- The name that is most like a word.
use Rattle.std.proofs.Common.{◌≡◌, ◌∷◌, ◌++◌, ◌<◌, ◌≤◌, ℕ, zero, suc, [], List, None, Option, Some, arith, get_or}
use Rattle.std.proofs.Common.{length, map, refl, sym}
use Rattle.std.specs.Borrow.{Bor}
use Rattle.std.specs.Prelude.{All, Contains}
use Rattle.std.proofs.lemmas.List.Elements.{All-nil, All-push, All-weaker}
use Rattle.sixel_explain.specs.Explanations.{edits, most_edits}
use Rattle.sixel_report.specs.Texts.{Text}

-- the name that was kept takes this many edits; if none was, the count is the first that is too great
abbrev pub IsKept : List Text → Text → Option Text → ℕ → Type 0
IsKept names word None fewest = fewest ≡ 3
IsKept names word (Some name) fewest = Contains names name × (edits name word ≡ fewest) × (fewest ≤ most_edits)

-- after some of the names
pub record SoFar (names : List Text) (word : Text) (done : List Text) (kept : Option Text) (fewest : ℕ) : Type 0 where
  pub least : All (λ name. fewest ≤ edits name word) done
  pub is_kept : IsKept names word kept fewest

-- each element is contained
pub named_at : (names : List (Bor Text)) (i : ℕ) (d : Bor Text) → i < length names
    → Contains (map (λ name. name.now) names) (get_or names i d).now
named_at [] i d short = let no : ⊥ = omega (arith, short) in absurd no
named_at (x ∷ names) zero d short = (0, omega arith, refl)
named_at (x ∷ names) (suc i) d short =
    let rest = named_at names i d (omega (arith, short)) in (suc rest.0, omega (arith, rest.1), rest.2)

pub none_yet : (names : List Text) (word : Text) → SoFar names word [] None 3
none_yet names word = record { least = All-nil (λ (name : Text). 3 ≤ edits name word); is_kept = refl }

few : (names : List Text) (word : Text) (kept : Option Text) (fewest n : ℕ) → IsKept names word kept fewest
    → n < fewest → n ≤ most_edits
few names word None fewest n is less = omega (arith, is, less)
few names word (Some name) fewest n is less = omega (arith, is.2, less)

pub nearer : (names : List Text) (word : Text) (done : List Text) (kept : Option Text) (fewest : ℕ) (name : Text)
    (n : ℕ) → SoFar names word done kept fewest → Contains names name → n ≡ edits name word → n < fewest
    → SoFar names word (done ++ name ∷ []) (Some name) n
nearer names word done kept fewest name n so has is less = record {
  least = All-push (λ (other : Text). n ≤ edits other word) done name
      (All-weaker (λ (other : Text). fewest ≤ edits other word) (λ (other : Text). n ≤ edits other word)
      (λ other most. omega (arith, most, less)) done so.least) (omega (arith, is));
  is_kept = (has, sym is, few names word kept fewest n so.is_kept less);
}

pub farther : (names : List Text) (word : Text) (done : List Text) (kept : Option Text) (fewest : ℕ) (name : Text)
    (n : ℕ) → SoFar names word done kept fewest → n ≡ edits name word → fewest ≤ n
    → SoFar names word (done ++ name ∷ []) kept fewest
farther names word done kept fewest name n so is more = record {
  least = All-push (λ (other : Text). fewest ≤ edits other word) done name so.least (omega (arith, is, more));
  is_kept = so.is_kept;
}
