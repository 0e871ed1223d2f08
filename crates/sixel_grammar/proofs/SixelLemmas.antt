-- What a reader must ensure when it takes a run of sixels.
use Rattle.std.proofs.Common.{◌≡◌, ℕ, ◌+◌, ◌-◌, ◌<◌, true, false, List, [], ◌∷◌, ◌++◌, length, get_or}
use Rattle.std.proofs.Common.{Some, None, refl, sym, subst, arith, length-append, append_assoc, suc}
use Rattle.std.proofs.lemmas.Bool.{cond-true}
use Rattle.std.proofs.lemmas.List.{append-nil}
use Rattle.sixel_grammar.specs.declared.command.Event.{Event}
use Rattle.sixel_grammar.specs.declared.command.Event.TheVariants.{Step}
use Rattle.sixel_grammar.specs.declared.command.Command.TheVariants.{Sixel}
use Rattle.sixel_grammar.specs.declared.command.Placed.{Placed}
use Rattle.sixel_grammar.specs.Bytes.{is_data}
use Rattle.sixel_grammar.specs.Faults.{Form, NoCommand, EndsIn}
use Rattle.sixel_grammar.specs.Next.{within}
use Rattle.sixel_grammar.specs.Stretches.{makes_sixel, sixels_from}
use Rattle.sixel_grammar.proofs.AdvanceLemmas.{GoesTo, advances}
use Rattle.sixel_grammar.proofs.ChoiceLemmas.{goes-on}

-- one more sixel
sixel_ends : (events : List Placed) (n : ℕ) (bytes : List ℕ) (b : ℕ) → n ≡ length bytes → is_data b ≡ true
    → EndsIn NoCommand events n bytes
    → EndsIn NoCommand (events ++ record { place = n; event = Step (Sixel (b - 63)) } ∷ []) (n + 1) (bytes ++ b ∷ [])
sixel_ends events n bytes b at t e =
    let event : Event = Step (Sixel (b - 63)) in
    let begins : within NoCommand b ≡ Some (NoCommand, Some event) = cond-true (is_data b) _ _ t in
    let went : GoesTo events n bytes b (Some (None, NoCommand, Some event)) =
    subst (GoesTo events n bytes b) (goes-on NoCommand NoCommand b (Some event) begins) (advances NoCommand e b) in
    subst (λ (k : ℕ). EndsIn NoCommand (events ++ record { place = n; event = event } ∷ []) (k + 1) (bytes ++ b ∷ []))
    (sym at) went

-- a run of sixels
pub sixels_end : (prefix : List ℕ) (events : List Placed) (n : ℕ) (bytes : List ℕ) → n ≡ length bytes
    → ((k : ℕ) → k < length prefix → is_data (get_or prefix k 0) ≡ true)
    → EndsIn NoCommand events n bytes
    → EndsIn NoCommand (events ++ sixels_from n prefix) (n + length prefix) (bytes ++ prefix)
sixels_end [] events n bytes at each e =
    let none : n ≡ n + 0 = omega arith in
    subst (λ (es : List Placed). EndsIn NoCommand es (n + 0) (bytes ++ [])) (sym (append-nil events))
    (subst (λ (bs : List ℕ). EndsIn NoCommand events (n + 0) bs) (sym (append-nil bytes))
    (subst (λ (k : ℕ). EndsIn NoCommand events k bytes) none e))
sixels_end (b ∷ prefix) events n bytes at each e =
    let first : Placed = record { place = n; event = Step (Sixel (b - 63)) } in
    let one = sixel_ends events n bytes b at (each 0 (omega arith)) e in
    let next : n + 1 ≡ length (bytes ++ b ∷ []) = omega (arith, at, length-append bytes (b ∷ [])) in
    let rest = sixels_end prefix (events ++ first ∷ []) (n + 1) (bytes ++ b ∷ []) next
    (λ k lt. each (suc k) (omega arith)) one in
    let far : n + 1 + length prefix ≡ n + length (b ∷ prefix) = omega arith in
    subst (λ (k : ℕ). EndsIn NoCommand (events ++ sixels_from n (b ∷ prefix)) k (bytes ++ b ∷ prefix)) far
    (subst (λ (es : List Placed). EndsIn NoCommand es (n + 1 + length prefix) (bytes ++ b ∷ prefix))
    (append_assoc events (first ∷ []) (sixels_from (n + 1) prefix))
    (subst (λ (bs : List ℕ). EndsIn NoCommand ((events ++ first ∷ []) ++ sixels_from (n + 1) prefix)
    (n + 1 + length prefix) bs)
    (append_assoc bytes (b ∷ []) prefix) rest))

-- in any form but `NoCommand`, no byte is a single sixel
pub other_form : (f : Form) (b : ℕ) → (f ≡ NoCommand → ⊥) → makes_sixel f b ≡ false
other_form f b h = other f refl
  where
    other : (g : Form) → f ≡ g → makes_sixel g b ≡ false
    other NoCommand e = absurd (h e)
    other _ e = refl

pub other_byte : (f : Form) (b : ℕ) → is_data b ≡ false → makes_sixel f b ≡ false
other_byte NoCommand b h = h
other_byte _ b h = refl
