-- Sixels that are pushed one by one, and in stretches.
use Rattle.std.proofs.Common.{◌≡◌, ℕ, true, false, not, IsTrue, List, [], ◌∷◌, ◌++◌, Bool, ◌&&◌, sym, ◌∙◌, ap, subst}
use Rattle.std.proofs.Common.{refl, append_assoc, arith, length, ◌+◌, ◌-◌, ◌<◌, ◌≤◌, drop, take, get_or, zero, suc}
use Rattle.std.proofs.lemmas.Bool.{and_parts, not-true}
use Rattle.std.proofs.lemmas.List.{get_or-drop, get_or-take, length-take, take_rest}
use Rattle.sixel_grammar.specs.Bytes.{is_data}
use Rattle.sixel_grammar.specs.Stretches.{sixels_from}
use Rattle.sixel_grammar.specs.declared.command.Command.{Command}
use Rattle.sixel_grammar.specs.declared.command.Command.TheVariants.{Sixel}
use Rattle.sixel_grammar.specs.declared.command.Event.{Event}
use Rattle.sixel_grammar.specs.declared.command.Event.TheVariants.{Step}
use Rattle.sixel_grammar.specs.declared.command.Placed.{Placed}
use Rattle.sixel_grammar.proofs.SourceLemmas.{take_past}
use Rattle.sixel_model.specs.Events.{is_finish}
use Rattle.sixel_judge.specs.Standing.{CheckerValue, StandsAfter, expects, is_start, is_whole}
use Rattle.sixel_judge.specs.Stretches.{MayStep}
use Rattle.sixel_judge.proofs.StandLemmas.{whole_push}

pub any_step : (seen : List Placed) (c : Command) → IsTrue (expects seen (Step c)) → MayStep seen
any_step [] c h d = h
any_step (q ∷ qs) c h d = h

-- after a command, any command may come next, if one may before it
pub may_step_then : (seen : List Placed) (p : Placed) (c : Command) → p.event ≡ Step c → MayStep seen
    → MayStep (seen ++ p ∷ [])
may_step_then [] p c is may d = absurd (let h = may c in cc)
may_step_then (q ∷ qs) p c is may d =
    let parts = and_parts (not (is_whole (q ∷ qs))) (not (is_start (Step c))) (may c) in
    let goes_on : is_whole ((q ∷ qs) ++ p ∷ []) ≡ false =
    whole_push (q ∷ qs) p (not-true (is_whole (q ∷ qs)) parts.0) ∙ ap is_finish is in
    ap (λ (b : Bool). not b && not (is_start (Step d))) goes_on

-- an event at an offset that is the same
pub event_at : (registers : ℕ) (checker : CheckerValue) (seen : List Placed) (from place : ℕ) (event : Event)
    → StandsAfter registers checker (seen ++ record { place = from; event = event } ∷ []) → from ≡ place
    → StandsAfter registers checker (seen ++ record { place = place; event = event } ∷ [])
event_at registers checker seen from place event s same =
    subst (λ (n : ℕ). StandsAfter registers checker (seen ++ record { place = n; event = event } ∷ [])) same s

-- sixels from an offset that is the same
pub sixels_at : (registers : ℕ) (checker : CheckerValue) (seen : List Placed) (from place : ℕ) (bytes : List ℕ)
    → StandsAfter registers checker (seen ++ sixels_from from bytes) → from ≡ place
    → StandsAfter registers checker (seen ++ sixels_from place bytes)
sixels_at registers checker seen from place bytes s same =
    subst (λ (n : ℕ). StandsAfter registers checker (seen ++ sixels_from n bytes)) same s

-- the first sixel of a stretch, and the others
pub may_after_first : (seen : List Placed) (place : ℕ) (stretch : List ℕ) → 0 < length stretch → MayStep seen
    → MayStep (seen ++ sixels_from place (take 1 stretch))
may_after_first seen place [] some may = absurd (omega arith)
may_after_first seen place (b ∷ more) some may =
    may_step_then seen (record { place = place; event = Step (Sixel (b - 63)) }) (Sixel (b - 63)) refl may

-- what is left of a piece after its first byte
rest_of : (b : ℕ) (more : List ℕ) → take (length (b ∷ more) - 1) more ≡ more
rest_of b more = take_past (length (b ∷ more) - 1) more (omega arith)

pub sixels_split : (seen : List Placed) (place count : ℕ) (bytes : List ℕ) → 0 < count → count ≤ length bytes
    → (seen ++ sixels_from place (take 1 bytes))
    ++ sixels_from (place + 1) (take (count - 1) (take (length bytes - 1) (drop 1 bytes)))
    ≡ seen ++ sixels_from place (take count bytes)
sixels_split seen place zero bytes some room = absurd (omega arith)
sixels_split seen place (suc n) [] some room = absurd (omega arith)
sixels_split seen place (suc n) (b ∷ more) some room =
    let p : Placed = record { place = place; event = Step (Sixel (b - 63)) } in
    let less : suc n - 1 ≡ n = omega arith in
    append_assoc seen (p ∷ []) (sixels_from (place + 1) (take (suc n - 1) (take (length (b ∷ more) - 1) more)))
    ∙ ap (λ (t : List ℕ). seen ++ p ∷ sixels_from (place + 1) (take (suc n - 1) t)) (rest_of b more)
    ∙ ap (λ (m : ℕ). seen ++ p ∷ sixels_from (place + 1) (take m more)) less

pub data_after_first : (bytes : List ℕ) (count : ℕ) → ((k : ℕ) → k < count → is_data (get_or bytes k 0) ≡ true)
    → (k : ℕ) → k < count - 1 → is_data (get_or (take (length bytes - 1) (drop 1 bytes)) k 0) ≡ true
data_after_first bytes count each k lt =
    let under : 1 + k < count = omega (arith, lt) in
    ap (λ (t : List ℕ). is_data (get_or t k 0)) (take_rest bytes 1) ∙ ap is_data (get_or-drop 1 bytes k 0)
    ∙ each (1 + k) under

pub data_then : (bytes : List ℕ) (n : ℕ) → ((k : ℕ) → k < n → is_data (get_or bytes k 0) ≡ true)
    → (k : ℕ) → k < length (take n bytes) → is_data (get_or (take n bytes) k 0) ≡ true
data_then bytes n each k lt =
    let under : k < n = omega (arith, lt, length-take n bytes) in
    ap is_data (get_or-take n bytes k 0 under) ∙ each k under

-- the first sixels of a stretch, and the others
cut_sixels : (place n : ℕ) (bytes : List ℕ)
    → sixels_from place bytes ≡ sixels_from place (take n bytes) ++ sixels_from (place + n) (drop n bytes)
cut_sixels place zero bytes =
    let same : place ≡ place + 0 = omega arith in
    ap (λ (p : ℕ). sixels_from p bytes) same
cut_sixels place (suc n) [] = refl
cut_sixels place (suc n) (b ∷ bytes) =
    let same : place + 1 + n ≡ place + suc n = omega arith in
    ap (λ (t : List Placed). record { place = place; event = Step (Sixel (b - 63)) } ∷ t)
    (cut_sixels (place + 1) n bytes
    ∙ ap (λ (p : ℕ). sixels_from (place + 1) (take n bytes) ++ sixels_from p (drop n bytes)) same)

pub sixels_joined : (seen : List Placed) (place n : ℕ) (bytes : List ℕ)
    → (seen ++ sixels_from place (take n bytes)) ++ sixels_from (place + n) (take (length bytes - n) (drop n bytes))
    ≡ seen ++ sixels_from place bytes
sixels_joined seen place n bytes =
    append_assoc seen (sixels_from place (take n bytes)) _
    ∙ ap (λ (t : List ℕ). seen ++ (sixels_from place (take n bytes) ++ sixels_from (place + n) t)) (take_rest bytes n)
    ∙ ap (λ (t : List Placed). seen ++ t) (sym (cut_sixels place n bytes))
