-- On the parts of a piece of bytes, and on faults of the bytes so far.
use Rattle.std.proofs.Common.{◌≡◌, ℕ, List, ◌++◌}
use Rattle.std.proofs.Common.{sym, ◌∙◌, ap, ap₂, refl, append_assoc, arith, drop, length, take, ◌+◌, ◌-◌}
use Rattle.std.specs.Prelude.{Err}
use Rattle.std.proofs.lemmas.List.{drop-take, length-drop, take-append-drop, take-take}
use Rattle.sixel_grammar.specs.Reading.{ExplainsAlways, failures_after}
use Rattle.sixel_grammar.specs.declared.fault.InputFault.{InputFault}
use Rattle.sixel_grammar.specs.declared.fault.InputFault.TheVariants.{Grammar, OutOfMemory, Read}
use Rattle.sixel_grammar.proofs.SourceLemmas.{take_past}

take_then : (k n : ℕ) (xs : List ℕ) → take (k + n) xs ≡ take k xs ++ take n (drop k xs)
take_then k n xs =
    sym (take-append-drop k (take (k + n) xs))
    ∙ ap₂ (λ (a b : List ℕ). a ++ b) (take-take k (k + n) xs (omega arith)) (drop-take k n xs)

-- the rest of a piece
abbrev pub rest_of : ℕ → List ℕ → List ℕ
rest_of k xs = take (length xs - k) (drop k xs)

rest_is : (k : ℕ) (xs : List ℕ) → rest_of k xs ≡ drop k xs
rest_is k xs = take_past (length xs - k) (drop k xs) (omega (arith, length-drop k xs))

-- a part of a piece, and then the next part
pub part_then : (prefix xs : List ℕ) (k n : ℕ) → (prefix ++ take k xs) ++ take n (rest_of k xs) ≡ prefix
    ++ take (k + n) xs
part_then prefix xs k n =
    append_assoc prefix (take k xs) (take n (rest_of k xs))
    ∙ ap (λ (t : List ℕ). prefix ++ t)
    (ap (λ (t : List ℕ). take k xs ++ take n t) (rest_is k xs) ∙ sym (take_then k n xs))

-- such a fault doesn't change the source's count of failures
pub not_failed : (A : Type 0) (fault : InputFault) (bytes : List ℕ) (n : ℕ) → ExplainsAlways fault bytes
    → n ≡ failures_after {A = A} (Err fault) n
not_failed A (Grammar f) bytes n h = refl
not_failed A OutOfMemory bytes n h = refl
not_failed A Read bytes n h = absurd h
