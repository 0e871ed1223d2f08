-- An asking that takes events.
use Rattle.std.proofs.Common.{◌≡◌, ◌<◌, ◌+◌, ◌-◌, ℕ, zero, suc, true, false, Option, Some, None, List, [], ◌∷◌}
use Rattle.std.proofs.Common.{◌++◌, length, take, get_or, refl, sym, ap, ◌∙◌, subst, append_assoc, arith}
use Rattle.std.specs.Prelude.{is_some}
use Rattle.std.specs.Option.{option_map}
use Rattle.sixel_grammar.specs.Document.{events_of}
use Rattle.sixel_grammar.specs.Stretches.{sixels_from}
use Rattle.sixel_grammar.specs.declared.command.Command.TheVariants.{Sixel}
use Rattle.sixel_grammar.specs.declared.command.Event.{Event}
use Rattle.sixel_grammar.specs.declared.command.Event.TheVariants.{Step}
use Rattle.sixel_grammar.specs.declared.command.Placed.{Placed}
use Rattle.sixel_terminal.proofs.FollowLemmas.{events_then, sixels_are}
use Rattle.sixel_terminal.specs.Stretches.{sixels_of}
use Rattle.sixel_emulator_rules.specs.Asking.{BreaksNoneWithin, HasAskedBy, HasFound, found_at, placed_at}
use Rattle.sixel_emulator_rules.specs.Counts.{first_in, is_calm_in}
use Rattle.sixel_emulator_rules.specs.Notes.{IsNotesAfter, passed}
use Rattle.sixel_emulator_rules.specs.declared.asking.AskedFinding.{AskedFinding}
use Rattle.sixel_emulator_rules.specs.declared.asking.Asking.{Asking}
use Rattle.sixel_emulator_rules.specs.declared.notes.Notes.{Notes}
use Rattle.sixel_emulator_rules.specs.declared.terminals.Terminals.{Terminals}
use Rattle.sixel_emulator_rules.proofs.AskingLemmas.{asked_push}
use Rattle.sixel_emulator_rules.proofs.CalmLemmas.{calm_of, none_over, notes_over}

pub not_some : {A : Type 0} (o : Option A) → is_some o ≡ false → o ≡ None
not_some None h = refl
not_some (Some a) h = cc

pub look_push : (old new : Asking) (seen : List Placed) (place : ℕ) (e : Event) → old.finding ≡ None
    → new.terminals ≡ old.terminals
    → new.finding ≡ option_map (found_at place) (first_in old.terminals old.notes e)
    → ((before : List Event) → IsNotesAfter old.notes before → IsNotesAfter new.notes (before ++ e ∷ []))
    → HasFound old seen → HasFound new (seen ++ placed_at place e ∷ [])
look_push old new seen place e none same found notes h =
    let asked : HasAskedBy old.terminals old.notes None seen =
    subst (λ (o : Option AskedFinding). HasAskedBy old.terminals old.notes o seen) none h in
    subst (λ (t : Terminals). HasAskedBy t new.notes new.finding (seen ++ placed_at place e ∷ [])) (sym same)
    (subst (λ (o : Option AskedFinding). HasAskedBy old.terminals new.notes o (seen ++ placed_at place e ∷ []))
    (sym found)
    (asked_push old.terminals old.notes new.notes seen place e (first_in old.terminals old.notes e) refl asked.0 asked.1
    (notes (events_of seen) asked.0)))

-- sixels that can break no rule
pub calm_push : (t : Terminals) (n : Notes) (o : Option AskedFinding) (seen : List Placed) (place : ℕ) (bytes : List ℕ)
    → o ≡ None → 0 < length bytes → is_calm_in t n (length bytes) ≡ true → HasAskedBy t n o seen
    → HasAskedBy t (passed n (length bytes)) o (seen ++ sixels_from place bytes)
calm_push t n o seen place bytes none some calm h =
    let asked : HasAskedBy t n None seen = subst (λ (p : Option AskedFinding). HasAskedBy t n p seen) none h in
    let are : events_of seen ++ sixels_of bytes ≡ events_of (seen ++ sixels_from place bytes) =
    ap (λ (es : List Event). events_of seen ++ es) (sym (sixels_are place bytes))
    ∙ sym (events_then seen (sixels_from place bytes)) in
    subst (λ (p : Option AskedFinding). HasAskedBy t (passed n (length bytes)) p (seen ++ sixels_from place bytes))
    (sym none) (
      subst (IsNotesAfter (passed n (length bytes))) are (notes_over n (events_of seen) bytes some asked.0),
      subst (BreaksNoneWithin t) are
          (none_over t (events_of seen) bytes (calm_of t (length bytes) asked.0 calm) asked.1),
    )

-- ---- one sixel more

sixels_more : (from at k : ℕ) (stretch : List ℕ) → from + k ≡ at → k < length stretch
    → sixels_from from (take k stretch)
    ++ record { place = at; event = Step (Sixel (get_or stretch k 0 - 63)) } ∷ []
    ≡ sixels_from from (take (suc k) stretch)
sixels_more from at k [] same lt = absurd (omega (arith, lt))
sixels_more from at zero (b ∷ bs) same lt =
    let here : at ≡ from = omega (arith, same) in
    ap (λ (n : ℕ). record { place = n; event = Step (Sixel (b - 63)) } ∷ []) here
sixels_more from at (suc k) (b ∷ bs) same lt =
    ap (λ (l : List Placed). record { place = from; event = Step (Sixel (b - 63)) } ∷ l)
    (sixels_more (from + 1) at k bs (omega (arith, same)) (omega (arith, lt)))

pub sixels_then : (seen : List Placed) (place at k : ℕ) (stretch : List ℕ) → place + k ≡ at → k < length stretch
    → (seen ++ sixels_from place (take k stretch))
    ++ placed_at at (Step (Sixel (get_or stretch k 0 - 63))) ∷ []
    ≡ seen ++ sixels_from place (take (k + 1) stretch)
sixels_then seen place at k stretch same lt =
    let next : suc k ≡ k + 1 = omega arith in
    append_assoc seen (sixels_from place (take k stretch)) _
    ∙ ap (λ (l : List Placed). seen ++ l)
    (sixels_more place at k stretch same lt ∙ ap (λ (n : ℕ). sixels_from place (take n stretch)) next)
