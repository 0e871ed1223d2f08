-- Reading a source to its end.
use Rattle.std.proofs.Common.{◌≡◌, ℕ, zero, suc, get_or, ◌+◌, ◌<◌, ◌≤◌, List, [], ◌∷◌, ◌++◌, length, take, drop, Option}
use Rattle.std.proofs.Common.{Some, None, refl, sym, ap, subst, ◌∙◌, append_assoc, arith}
use Rattle.std.specs.Prelude.{IfSome}
use Rattle.std.specs.Io.KnownBytes.{Consumes, IsAtEnd, Keeps}
use Rattle.std.proofs.lemmas.List.{append-nil, take_more, take-append-drop}
use Rattle.sixel_grammar.specs.declared.command.Placed.{Placed}
use Rattle.sixel_grammar.specs.declared.fault.InputFault.{InputFault}
use Rattle.sixel_grammar.specs.declared.fault.InputFault.TheVariants.{Grammar, OutOfMemory, Read}
use Rattle.sixel_grammar.specs.declared.reader.Reader.{Reader}
use Rattle.sixel_grammar.specs.Faults.{IsFaultOf}
use Rattle.sixel_grammar.specs.Reading.{Explains, ExplainsAlways, NoFaultBefore}
use Rattle.sixel_grammar.specs.Standing.{StandsAfter}
use Rattle.sixel_grammar.proofs.StandLemmas.{read_complete, read_short}

pub refuses-more : (fault : InputFault) (bytes rest whole : List ℕ) → whole ≡ bytes ++ rest
    → ExplainsAlways fault bytes → ExplainsAlways fault whole
refuses-more (Grammar f) bytes rest whole e h =
    λ more.
    subst (λ (t : List ℕ). IsFaultOf t f) (sym (ap (λ (t : List ℕ). t ++ more) e ∙ append_assoc bytes rest more))
    (h (rest ++ more))
refuses-more OutOfMemory bytes rest whole e h = tt
refuses-more Read bytes rest whole e h = h

pub consumes-then : (a b c : Option (List ℕ)) (xs ys : List ℕ) → Consumes a b xs → Consumes b c ys
    → Consumes a c (xs ++ ys)
consumes-then None b c xs ys p q = tt
consumes-then (Some a) None c xs ys p q = absurd p
consumes-then (Some a) (Some b) None xs ys p q = absurd q
consumes-then (Some a) (Some b) (Some c) xs ys p q = p ∙ ap (λ (t : List ℕ). xs ++ t) q ∙ sym (append_assoc xs ys c)

-- a call that failed took no bytes
pub consumes-kept : (a b c : Option (List ℕ)) (xs : List ℕ) → Consumes a b xs → Keeps b c → Consumes a c xs
consumes-kept None b c xs p q = tt
consumes-kept (Some a) None c xs p q = absurd p
consumes-kept (Some a) (Some b) None xs p q = absurd q
consumes-kept (Some a) (Some b) (Some c) xs p q = p ∙ ap (λ (t : List ℕ). xs ++ t) (sym q)

-- at the end of the source, the bytes read are all of its bytes
pub all_read : (a b : Option (List ℕ)) (xs : List ℕ) (P : List ℕ → Type 0) → Consumes a b xs → IsAtEnd b → P xs
    → IfSome a P
all_read None b xs P c end h = tt
all_read (Some a) None xs P c end h = absurd c
all_read (Some a) (Some b) xs P c end h = subst P (sym (c ∙ ap (λ (t : List ℕ). xs ++ t) end ∙ append-nil xs)) h

-- a fault in the bytes read so far is the fault of all of the source's bytes
pub refused_early : (a b : Option (List ℕ)) (fault : InputFault) (xs : List ℕ) → Consumes a b xs
    → ExplainsAlways fault xs → IfSome a (Explains fault)
refused_early None b fault xs c h = tt
refused_early (Some a) None fault xs c h = absurd c
refused_early (Some a) (Some b) (Grammar f) xs c h = subst (λ (t : List ℕ). IsFaultOf t f) (sym c) (h b)
refused_early (Some a) (Some b) OutOfMemory xs c h = tt
refused_early (Some a) (Some b) Read xs c h = absurd h

-- the bytes that a reader has taken have no fault, and a failed call gives no more
pub no_fault_before : (a b c : Option (List ℕ)) (r : Reader) (events : List Placed) (given : List ℕ)
    → StandsAfter r events given
    → Consumes a b given → Keeps b c → IfSome a (NoFaultBefore c)
no_fault_before None b c r events given s u k = tt
no_fault_before (Some a) None c r events given s u k = absurd u
no_fault_before (Some a) (Some b) None r events given s u k = absurd k
no_fault_before (Some a) (Some b) (Some c) r events given s u k = (
  given,
  u
      ∙ ap (λ (t : List ℕ). given ++ t)
      (sym k),
  read_short r events given s,
  (events, read_complete r events given s),
)

pub take_none : (n : ℕ) (xs : List ℕ) → n ≡ 0 → take n xs ≡ []
take_none n [] e = rw e refl
take_none n (x ∷ xs) e = rw e refl

pub one_past : (prefix xs : List ℕ) (k : ℕ) → k < length xs
    → (prefix ++ take k xs) ++ get_or xs k 0 ∷ [] ≡ prefix ++ take (k + 1) xs
one_past prefix xs k lt =
    append_assoc prefix (take k xs) (get_or xs k 0 ∷ []) ∙ ap (λ (t : List ℕ). prefix ++ t) (sym (take_more xs k 0 lt))

pub split_past : (prefix xs : List ℕ) (k : ℕ) → k < length xs
    → prefix ++ xs ≡ ((prefix ++ take k xs) ++ get_or xs k 0 ∷ []) ++ drop (k + 1) xs
split_past prefix xs k lt =
    ap (λ (t : List ℕ). prefix ++ t) (sym (take-append-drop (k + 1) xs))
    ∙ sym (append_assoc prefix (take (k + 1) xs) (drop (k + 1) xs))
    ∙ ap (λ (t : List ℕ). t ++ drop (k + 1) xs) (sym (one_past prefix xs k lt))

pub take_past : (n : ℕ) (xs : List ℕ) → length xs ≤ n → take n xs ≡ xs
take_past zero [] le = refl
take_past zero (x ∷ xs) le = absurd (omega arith)
take_past (suc n) [] le = refl
take_past (suc n) (x ∷ xs) le = ap (λ (t : List ℕ). x ∷ t) (take_past n xs (omega arith))

-- if the last piece is empty, what holds of the bytes before it holds of all bytes
pub told_all : (a b c : Option (List ℕ)) (prefix piece : List ℕ) (n : ℕ) (P : List ℕ → Type 0) → Consumes a b prefix
    → Consumes b c (take n piece) → n ≡ 0 → IsAtEnd c → P prefix → IfSome a P
told_all a b c prefix piece n P before none is end p =
    all_read a c (prefix ++ take n piece) P (consumes-then a b c prefix (take n piece) before none) end
    (subst P (sym (ap (λ (t : List ℕ). prefix ++ t) (take_none n piece is) ∙ append-nil prefix)) p)
