-- Lists that break no rule, nor those that a named terminal asks for: their prefixes, and their events.
use Rattle.std.proofs.Common.{◌≡◌, ℕ, ◌<◌, Some}
use Rattle.std.proofs.Common.{List, [], ◌∷◌, ◌++◌, length, subst, take, arith}
use Rattle.std.specs.Prelude.{slice_get}
use Rattle.std.proofs.Math.Seq.{take-append_seam}
use Rattle.sixel_grammar.specs.declared.command.Event.{Event}
use Rattle.sixel_model.specs.declared.rule.Rule.TheVariants.{Uncovered}
use Rattle.sixel_model.specs.Positions.{HoldsNowhere}
use Rattle.sixel_model.specs.Rules.{Breaks, BreaksNone}
use Rattle.sixel_model.proofs.PositionLemmas.{get_end, holds_before, holds_end, holds_within}
use Rattle.sixel_model.proofs.RuleLemmas.{Keeps, keeps_at, none_before}
use Rattle.sixel_named_terminals.specs.declared.named.Named.{Named}
use Rattle.sixel_judge.proofs.AlarmLemmas.{taken_there, taken_twice}
use Rattle.sixel_emulator_rules_laws.proofs.AskedForms.{BreaksFor, BreaksNoneFor}
use Rattle.sixel_emulator_rules_laws.proofs.StaleLemmas.{by_pushes}

nowhere_before : {X : Type 0} (P : List X → X → Type 0) (xs : List X) (x : X) → HoldsNowhere P (xs ++ x ∷ [])
    → HoldsNowhere P xs
nowhere_before P xs x none i holds = none i (holds_before P xs x i (holds_within P xs i holds) holds)

-- what holds nowhere holds nowhere in a prefix
nowhere_taken : {X : Type 0} (P : List X → X → Type 0) (xs : List X) (i : ℕ) → HoldsNowhere P xs
    → HoldsNowhere P (take i xs)
nowhere_taken P xs i none j holds =
    let there : (j < i) × (slice_get xs j ≡ Some holds.item) = taken_there i j xs holds.item holds.here in
    let below : j < i = there.0 in
    none j (record {
      item = holds.item;
      here = there.1;
      holds = subst (λ (b : List _). P b holds.item) (taken_twice j i xs (omega (arith, below))) holds.holds;
    })

keeps_last : (n : ℕ) (before : List Event) (e : Event) → BreaksNone n Uncovered (before ++ e ∷ [])
    → Keeps n before e
keeps_last n before e none =
    let k : Keeps n (take (length before) (before ++ e ∷ [])) e =
    keeps_at n (before ++ e ∷ []) none (length before) e (get_end before e) in
    rw take-append_seam at k

-- what holds at the start and stays so with each event that breaks no rule
pub by_events : (named : Named) (n : ℕ) (P : List Event → Type 0) → P []
    → ((before : List Event) (e : Event) → BreaksNone n Uncovered before → Keeps n before e
    → ¬ BreaksFor named before e → P before → P (before ++ e ∷ []))
    → (events : List Event) → BreaksNone n Uncovered events → BreaksNoneFor named events → P events
by_events named n P start step events none fresh =
    by_pushes (λ (b : List Event). BreaksNone n Uncovered b → BreaksNoneFor named b → P b) [] events
    (λ before e ih all new.
    step before e (none_before n Uncovered before e all) (keeps_last n before e all)
    (λ breaks. new (length before) (holds_end (BreaksFor named) before e breaks))
    (ih (none_before n Uncovered before e all) (nowhere_before (BreaksFor named) before e new)))
    (λ all new. start) none fresh

-- what comes before a position breaks no rule
pub taken_events : (named : Named) (n : ℕ) (events : List Event) (i : ℕ) → BreaksNone n Uncovered events
    → BreaksNoneFor named events → BreaksNone n Uncovered (take i events) × BreaksNoneFor named (take i events)
unfolding BreaksNone
taken_events named n events i none fresh =
    (λ rule le. nowhere_taken (Breaks n rule) events i (none rule le), nowhere_taken (BreaksFor named) events i fresh)

-- an event at a position breaks none of the rules that the terminal asks for
pub fresh_at : (named : Named) (events : List Event) (i : ℕ) (e : Event) → BreaksNoneFor named events
    → slice_get events i ≡ Some e → ¬ BreaksFor named (take i events) e
fresh_at named events i e fresh here breaks = fresh i (record { item = e; here = here; holds = breaks })
