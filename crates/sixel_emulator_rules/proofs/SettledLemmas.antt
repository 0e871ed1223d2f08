-- Selects, returns, new lines and repeats that break no rule, and what stays calm after them.
use Rattle.std.proofs.Common.{◌≡◌, ◌∙◌, ◌+◌, ◌==◌, ℕ, Bool, true}
use Rattle.std.proofs.Common.{false, not, min, Option, Some, None, List, [], ◌∷◌}
use Rattle.std.proofs.Common.{◌++◌, ap, arith, refl, subst, sym}
use Rattle.std.specs.Prelude.{◌&&◌, ◌||◌}
use Rattle.std.specs.Option.{option_map, option_map_or}
use Rattle.std.proofs.lemmas.Bool.{and_from, and_parts, eq-eqb}
use Rattle.sixel_grammar.specs.declared.command.Command.TheVariants.{CarriageReturn, NextLine, Repeat, Select, Sixel}
use Rattle.sixel_grammar.specs.declared.command.Event.{Event}
use Rattle.sixel_grammar.specs.declared.command.Event.TheVariants.{Step}
use Rattle.sixel_grammar.specs.declared.command.Placed.{Placed}
use Rattle.sixel_model.specs.Events.{columns_of, is_data_command}
use Rattle.sixel_model.specs.Rules.{known_by}
use Rattle.sixel_model.proofs.PositionLemmas.{option_or_none}
use Rattle.sixel_emulator.specs.Places.{most}
use Rattle.sixel_emulator_rules.specs.Asked.{is_asked}
use Rattle.sixel_emulator_rules.specs.Asking.{HasAsked, HasFound, found_at, placed_at}
use Rattle.sixel_emulator_rules.specs.Counts.{IsCalmBefore, asks_where, first_in, is_near_at}
use Rattle.sixel_emulator_rules.specs.Notes.{IsNotesAfter, attributes, is_same, lowered, passed, returned, selecting}
use Rattle.sixel_emulator_rules.specs.Notes.{shade_at, stale_in}
use Rattle.sixel_emulator_rules.specs.declared.asking.Asking.{Asking}
use Rattle.sixel_emulator_rules.specs.declared.notes.Notes.{Notes}
use Rattle.sixel_emulator_rules.specs.declared.rule.AskedRule.TheVariants.{Stale}
use Rattle.sixel_emulator_rules.specs.declared.shade.Shade.{Shade}
use Rattle.sixel_emulator_rules.specs.declared.shade.Shade.TheVariants.{Rgb, Hls}
use Rattle.sixel_emulator_rules.specs.declared.terminals.Terminals.{Terminals}
use Rattle.sixel_emulator_rules.proofs.NotesLemmas.{notes_push}
use Rattle.sixel_emulator_rules.proofs.QuietLemmas.{columns_are}
use Rattle.sixel_emulator_rules.proofs.TakingLemmas.{look_push}

-- ---- the notes

stands : (n : Notes) (before : List Event) → IsNotesAfter n before → min (n.column + 0) most ≡ n.column
stands n before s = let capped = s.column_is in omega (arith, capped)

pub notes_select : (n : Notes) (before : List Event) (r : ℕ) → IsNotesAfter n before
    → IsNotesAfter (selecting n r) (before ++ Step (Select r) ∷ [])
notes_select n before r s =
    subst (λ (c : ℕ). IsNotesAfter (record (selecting n r) { column = c }) (before ++ Step (Select r) ∷ []))
    (stands n before s)
    (notes_push n n.declared before (Step (Select r)) s (sym (option_or_none (option_map attributes n.declared)))
    (λ narrow. narrow))

pub notes_return : (n : Notes) (before : List Event) → IsNotesAfter n before
    → IsNotesAfter (returned n) (before ++ Step CarriageReturn ∷ [])
notes_return n before s =
    notes_push n n.declared before (Step CarriageReturn) s (sym (option_or_none (option_map attributes n.declared)))
    (λ narrow. narrow)

pub notes_line : (n : Notes) (before : List Event) → IsNotesAfter n before
    → IsNotesAfter (lowered n) (before ++ Step NextLine ∷ [])
notes_line n before s =
    notes_push n n.declared before (Step NextLine) s (sym (option_or_none (option_map attributes n.declared)))
    (λ narrow. narrow)

pub notes_repeat : (n : Notes) (before : List Event) (c b : ℕ) → IsNotesAfter n before
    → IsNotesAfter (passed n c) (before ++ Step (Repeat c b) ∷ [])
notes_repeat n before c b s =
    subst (λ (k : ℕ). IsNotesAfter (passed n k) (before ++ Step (Repeat c b) ∷ [])) (columns_are c b)
    (notes_push n n.declared before (Step (Repeat c b)) s (sym (option_or_none (option_map attributes n.declared)))
    (λ narrow. narrow))

pub notes_data : (n : Notes) (before : List Event) (e : Event) → is_data_command e ≡ true → IsNotesAfter n before
    → IsNotesAfter (passed n (columns_of 0 e)) (before ++ e ∷ [])
notes_data n before (Step (Sixel b)) one s =
    notes_push n n.declared before (Step (Sixel b)) s (sym (option_or_none (option_map attributes n.declared)))
    (λ narrow. narrow)
notes_data n before (Step (Repeat c b)) one s =
    notes_push n n.declared before (Step (Repeat c b)) s (sym (option_or_none (option_map attributes n.declared)))
    (λ narrow. narrow)
notes_data n before _ one s = cc

-- ---- what is found

-- an event that breaks no rule
pub quiet_push : (old new : Asking) (seen : List Placed) (place : ℕ) (e : Event) → old.finding ≡ None
    → new.terminals ≡ old.terminals → new.finding ≡ old.finding → first_in old.terminals old.notes e ≡ None
    → ((before : List Event) → IsNotesAfter old.notes before → IsNotesAfter new.notes (before ++ e ∷ []))
    → HasFound old seen → HasFound new (seen ++ placed_at place e ∷ [])
quiet_push old new seen place e none same kept quiet notes h =
    look_push old new seen place e none same (kept ∙ none ∙ sym (ap (option_map (found_at place)) quiet)) notes h

pub taken_quietly : (old new : Asking) (n : Notes) (seen : List Placed) (place : ℕ) (e : Event) → old.finding ≡ None
    → new.terminals ≡ old.terminals → new.finding ≡ old.finding → new.notes ≡ n
    → first_in old.terminals old.notes e ≡ None
    → ((before : List Event) → IsNotesAfter old.notes before → IsNotesAfter n (before ++ e ∷ []))
    → IsCalmBefore new.terminals new.notes new.calm → HasAsked old seen → HasAsked new (seen ++ placed_at place e ∷ [])
taken_quietly old new n seen place e none same kept is quiet notes calm h = (
  quiet_push old new seen place e none same kept quiet
      (λ before s. subst (λ (m : Notes). IsNotesAfter m (before ++ e ∷ [])) (sym is) (notes before s)) h.0,
  calm,
)

-- ---- what stays calm

each_same : (x y z : ℕ) → ((x == x) && ((y == y) && (z == z))) ≡ true
each_same x y z =
    and_from (x == x) ((y == y) && (z == z)) (eq-eqb x x refl)
    (and_from (y == y) (z == z) (eq-eqb y y refl) (eq-eqb z z refl))

same_itself : (o : Option Shade) → is_same o o ≡ true
same_itself None = refl
same_itself (Some (Rgb x y z)) = each_same x y z
same_itself (Some (Hls x y z)) = each_same x y z

known_anew : (r : ℕ) → known_by (Some r) (Some r) ≡ Some r
known_anew r = rw (eq-eqb r r refl) refl

fresh_anew : (n : Notes) (r : ℕ) → stale_in (selecting n r) ≡ false
fresh_anew n r =
    ap (λ (o : Option ℕ). option_map_or (λ q. not (is_same (shade_at n.shades q) (shade_at n.shades r))) o false)
    (known_anew r)
    ∙ ap not (same_itself (shade_at n.shades r))

not_and : (a b : Bool) → b ≡ false → not (a && b) ≡ true
not_and true b h = rw h refl
not_and false b h = refl

-- none ends before column 0
pub calm_nowhere : (t : Terminals) (n : Notes) (limit : ℕ) → limit ≡ 0 → IsCalmBefore t n limit
calm_nowhere t n limit none end lt = absurd (omega (arith, none, lt))

pub calm_select : (t : Terminals) (n : Notes) (r limit : ℕ) → IsCalmBefore t n limit
    → IsCalmBefore t (selecting n r) limit
calm_select t n r limit calm end lt =
    let near : Bool = not (asks_where t) || is_near_at n end in
    let parts = and_parts near (not (is_asked t Stale && stale_in n)) (calm end lt) in
    and_from near (not (is_asked t Stale && stale_in (selecting n r))) parts.0
    (not_and (is_asked t Stale) (stale_in (selecting n r)) (fresh_anew n r))

-- where no rule is asked for that hangs on where a data command stands
pub calm_line : (t : Terminals) (n : Notes) (limit : ℕ) → asks_where t ≡ false → IsCalmBefore t n limit
    → IsCalmBefore t (lowered n) limit
calm_line t n limit none calm end lt =
    let stale : Bool = not (is_asked t Stale && stale_in n) in
    let parts = and_parts (not (asks_where t) || is_near_at n end) stale (calm end lt) in
    and_from (not (asks_where t) || is_near_at (lowered n) end) stale (rw none refl) parts.1
