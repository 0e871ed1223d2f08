-- Appending bytes one piece after another.
use Rattle.std.proofs.Common.{◌≡◌, ◌∙◌, ℕ, ◌+◌, List, [], ◌++◌, take, drop, Option, Some, None, refl, sym, ap}
use Rattle.std.proofs.Common.{append_assoc}
use Rattle.std.proofs.lemmas.List.{append-nil, drop-drop}
use Rattle.std.proofs.Math.Seq.{take-add}
use Rattle.sixel_io.specs.Blocks.{TakesPrefix, TakesMore}
use Rattle.std.specs.Io.KnownBytes.{Appends, Keeps}

pub Appends-then : (a b c : Option (List ℕ)) (xs ys zs : List ℕ) → Appends a b xs → Appends b c ys
    → zs ≡ xs ++ ys → Appends a c zs
Appends-then None b c xs ys zs p q e = tt
Appends-then (Some a) None c xs ys zs p q e = absurd p
Appends-then (Some a) (Some b) None xs ys zs p q e = absurd q
Appends-then (Some a) (Some b) (Some c) xs ys zs p q e = rw (q, p, e) (append_assoc a xs ys)

-- a sink that took the first n waiting bytes takes k more of them
pub takes-further : (a b c : Option (List ℕ)) (waited waits left : List ℕ) (k : ℕ)
    → (n : ℕ) × Appends a b (take n waited) × (waits ≡ drop n waited) → Appends b c (take k waits)
    → left ≡ drop k waits
    → (n : ℕ) × Appends a c (take n waited) × (left ≡ drop n waited)
takes-further a b c waited waits left k prefix more is = (
  prefix.0 + k,
  Appends-then a b c (take prefix.0 waited) (take k waits) (take (prefix.0 + k) waited) prefix.1 more
      (take-add prefix.0 k waited ∙ ap (λ (t : List ℕ). take prefix.0 waited ++ take k t) (sym prefix.2)),
  is ∙ ap (drop k) prefix.2 ∙ drop-drop k prefix.0 waited,
)

pub nothing-taken : (a : Option (List ℕ)) (xs : List ℕ) → (n : ℕ) × Appends a a (take n xs) × (xs ≡ drop n xs)
nothing-taken None xs = (0, tt, refl)
nothing-taken (Some x) xs = (0, sym (append-nil x), refl)

pub TakesMore-refl : (a : Option (List ℕ)) → TakesMore a a
TakesMore-refl None = ([], tt)
TakesMore-refl (Some x) = ([], sym (append-nil x))

pub TakesMore-then : (a b c : Option (List ℕ)) → TakesMore a b → TakesMore b c → TakesMore a c
TakesMore-then a b c p q = (p.0 ++ q.0, Appends-then a b c p.0 q.0 (p.0 ++ q.0) p.1 q.1 refl)

pub prefix-more : (a b : Option (List ℕ)) (waited waits more : List ℕ) → TakesPrefix a b waited waits more
    → TakesMore a b
prefix-more a b waited waits more prefix = (take prefix.0 waited, prefix.1)

pub Keeps-refl : (a : Option (List ℕ)) → Keeps a a
Keeps-refl None = tt
Keeps-refl (Some x) = refl
