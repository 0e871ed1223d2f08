-- Lists in which each event keeps the rules, given the events before it.
use Rattle.std.proofs.Common.{◌≡◌, ℕ, zero, suc, List, [], ◌∷◌, ◌++◌, take, sym, append_assoc, append-nil, subst}
use Rattle.std.specs.Prelude.{Some, IsFalse}
use Rattle.sixel_grammar.specs.declared.command.Event.{Event}
use Rattle.sixel_model.specs.declared.rule.Rule.{Rule}
use Rattle.sixel_model.specs.Events.{is_eight_bit}
use Rattle.sixel_model.specs.Positions.{HoldsAtPosition}
use Rattle.sixel_model.specs.Rules.{Breaks, BreaksNone, last_rule}
use Rattle.sixel_model.proofs.RuleLemmas.{Keeps, keeps_none}

-- each event keeps the rules and isn't 8-bit; `before` are the events before the list
unfoldable pub KeepEach : ℕ → List Event → List Event → Type 0
KeepEach registers before [] = Unit {0}
KeepEach registers before (e ∷ es) =
    Keeps registers before e × IsFalse (is_eight_bit e) × KeepEach registers (before ++ e ∷ []) es

pub keep_one : (registers : ℕ) (before : List Event) (e : Event) → Keeps registers before e → IsFalse (is_eight_bit e)
    → KeepEach registers before (e ∷ [])
unfolding KeepEach
keep_one registers before e k bits = (k, bits, tt)

-- two lists, the second after the first
pub keep_append : (registers : ℕ) (before xs ys : List Event) → KeepEach registers before xs
    → KeepEach registers (before ++ xs) ys → KeepEach registers before (xs ++ ys)
unfolding KeepEach
keep_append registers before [] ys h k = subst (λ b. KeepEach registers b ys) (append-nil before) k
keep_append registers before (x ∷ xs) ys h k = (
  h.0,
  h.1,
  keep_append registers (before ++ x ∷ []) xs ys h.2
      (subst (λ b. KeepEach registers b ys) (sym (append_assoc before (x ∷ []) xs)) k),
)

none_after : (registers : ℕ) (rule : Rule) (i : ℕ) (before xs : List Event) → KeepEach registers before xs
    → HoldsAtPosition (λ b e. Breaks registers rule (before ++ b) e) xs i → ⊥
unfolding KeepEach
none_after registers rule i before [] h k = cc k.here
none_after registers rule zero before (x ∷ xs) h k =
    let same : x ≡ k.item = (let e : Some x ≡ Some k.item = k.here in cc) in
    let here : Breaks registers rule (before ++ []) x = rw same k.holds in
    keeps_none registers rule before x h.0 h.1 (rw append-nil at here)
none_after registers rule (suc i) before (x ∷ xs) h k =
    none_after registers rule i (before ++ x ∷ []) xs h.2
    (record { item = k.item; here = k.here; holds = rw (append_assoc before (x ∷ []) (take i xs)) k.holds })

-- if each event keeps the rules, none is broken
pub keep_none : (registers : ℕ) (events : List Event) → KeepEach registers [] events
    → BreaksNone registers last_rule events
unfolding BreaksNone
keep_none registers events h rule le i k = none_after registers rule i [] events h
    (record { item = k.item; here = k.here; holds = k.holds })
