-- The colours that a `Foot` keeps, with one more event.
use Rattle.std.proofs.Common.{◌≡◌, ◌≢◌, ◌==◌, ℕ, zero, suc, ◌<◌, Bool, true, false, Option, Some, None, List, [], ◌∷◌}
use Rattle.std.proofs.Common.{◌++◌, length, set, replicate, refl, sym, ap, ◌∙◌, arith}
use Rattle.std.specs.Prelude.{if◌then◌else◌}
use Rattle.std.specs.Option.{option_and_then, option_or}
use Rattle.std.proofs.lemmas.Bool.{eqb-false, eqb-true}
use Rattle.std.proofs.lemmas.List.{length-set, length-replicate}
use Rattle.sixel_grammar.specs.declared.command.Command.{Command}
use Rattle.sixel_grammar.specs.declared.command.Command.TheVariants.{Define, Sixel}
use Rattle.sixel_grammar.specs.declared.command.Event.{Event}
use Rattle.sixel_grammar.specs.declared.command.Event.TheVariants.{Step}
use Rattle.sixel_model.specs.declared.colour.Parts.{Parts}
use Rattle.sixel_model.specs.Colours.{palette_at}
use Rattle.sixel_model.specs.Events.{Definition}
use Rattle.sixel_model.specs.Positions.{latest}
use Rattle.sixel_model.proofs.PositionLemmas.{latest_push}
use Rattle.sixel_foot.specs.declared.foot.colours.Colours.{Colours}
use Rattle.sixel_foot.specs.Foot.{foot_colour, foot_gives, foot_register}
use Rattle.sixel_foot.specs.FootSeen.{HasColours}
use Rattle.sixel_emulator.specs.Words.{nearest}
use Rattle.sixel_terminal.specs.Stretches.{sixels_of}
use Rattle.sixel_emulator.proofs.PlainLemmas.{same_over}

-- ---- a list of optional colours

no_colour : (n register : ℕ) → palette_at (replicate n None) register ≡ None
no_colour zero register = refl
no_colour (suc n) zero = refl
no_colour (suc n) (suc register) = no_colour n register

same_entry : (xs : List (Option Parts)) (q : ℕ) (colour : Parts) → q < length xs
    → palette_at (set xs q (Some colour)) q ≡ Some colour
same_entry [] q colour lt = absurd (omega arith)
same_entry (x ∷ xs) zero colour lt = refl
same_entry (x ∷ xs) (suc q) colour lt = same_entry xs q colour (omega arith)

other_entry : (xs : List (Option Parts)) (q r : ℕ) (entry : Option Parts) → q ≢ r
    → palette_at (set xs q entry) r ≡ palette_at xs r
other_entry [] q r entry n = refl
other_entry (x ∷ xs) zero zero entry n = absurd (n refl)
other_entry (x ∷ xs) zero (suc r) entry n = refl
other_entry (x ∷ xs) (suc q) zero entry n = refl
other_entry (x ∷ xs) (suc q) (suc r) entry n = other_entry xs q r entry (λ e. n (ap suc e))

entry_with : (xs : List (Option Parts)) (q r : ℕ) (colour : Parts) (b : Bool) → (q == r) ≡ b → q < length xs
    → palette_at (set xs q (Some colour)) r ≡ option_or (if b then Some colour else None) (palette_at xs r)
entry_with xs q r colour true e lt =
    let same : q ≡ r = eqb-true q r e in
    ap (palette_at (set xs q (Some colour))) (sym same) ∙ same_entry xs q colour lt
entry_with xs q r colour false e lt = other_entry xs q r (Some colour) (eqb-false q r e)

-- ---- one more event

given : (o : Option Parts) (b : Bool) (d : Definition) (colour : Parts) → nearest d.system d.x d.y d.z ≡ Some colour
    → option_and_then (λ (c : Definition). nearest c.system c.x c.y c.z) (if b then Some d else None)
    ≡ (if b then Some colour else None)
given o true d colour h = h
given o false d colour h = refl

not_given : (b : Bool) (d : Definition) → nearest d.system d.x d.y d.z ≡ None
    → option_and_then (λ (c : Definition). nearest c.system c.x c.y c.z) (if b then Some d else None) ≡ None
not_given true d h = h
not_given false d h = refl

-- a definition that gives a colour
pub colours_with : {c : Colours} (new : Colours) {before : List Event} (number system x y z : ℕ) (colour : Parts)
    → HasColours c before → nearest system x y z ≡ Some colour
    → new.entries.items ≡ set c.entries.items (foot_register number) (Some colour)
    → HasColours new (before ++ Step (Define number system x y z) ∷ [])
colours_with {c} new {before} number system x y z colour s gives is =
    let d : Definition = record { system = system; x = x; y = y; z = z } in
    let q = foot_register number in
    let low : q < length c.entries.items = omega (arith, s.whole) in
    record {
      whole = ap length is ∙ length-set c.entries.items q (Some colour) ∙ s.whole;
      each = λ register lt. ap (λ (xs : List (Option Parts)). palette_at xs register) is
          ∙ entry_with c.entries.items q register colour (q == register) refl low
          ∙ ap (option_or (if q == register then Some colour else None)) (s.each register lt)
          ∙ ap (λ (o : Option Parts). option_or o (foot_colour before register))
          (sym (given None (q == register) d colour gives))
          ∙ sym (latest_push (foot_gives register) before (Step (Define number system x y z)));
    }

-- an event that gives none
pub colours_same : {c : Colours} {before : List Event} (e : Event) → HasColours c before
    → ((register : ℕ) → foot_gives register e ≡ None) → HasColours c (before ++ e ∷ [])
colours_same {c} {before} e s none = record {
  whole = s.whole;
  each = λ register lt. s.each register lt
      ∙ ap (λ (o : Option Parts). option_or o (foot_colour before register)) (sym (none register))
      ∙ sym (latest_push (foot_gives register) before e);
}

pub gives_none : (number system x y z register : ℕ) → nearest system x y z ≡ None
    → foot_gives register (Step (Define number system x y z)) ≡ None
gives_none number system x y z register h =
    not_given (foot_register number == register) (record { system = system; x = x; y = y; z = z }) h

pub no_definition : (command : Command)
    → ((number system x y z : ℕ) → command ≡ Define number system x y z → ⊥)
    → (register : ℕ) → foot_gives register (Step command) ≡ None
no_definition (Define number system x y z) other register = absurd (other number system x y z refl)
no_definition _ other register = refl

pub no_step : (e : Event) → ((command : Command) → e ≡ Step command → ⊥) → (register : ℕ) → foot_gives register e ≡ None
no_step (Step command) other register = absurd (other command refl)
no_step _ other register = refl

pub colours_none : (c : Colours) → c.entries.items ≡ replicate 1024 None → HasColours c []
unfolding latest
colours_none c is = record {
  whole = ap length is ∙ length-replicate {0} {A = Option Parts} 1024 None;
  each = λ register lt. ap (λ (xs : List (Option Parts)). palette_at xs register) is ∙ no_colour 1024 register;
}

-- what holds of no `Some` holds of `None` alone
pub only_none : {A : Type 0} (P : Option A → Type 0) → ((a : A) → P (Some a) → ⊥) → (o : Option A) → P o → o ≡ None
only_none P no_some None h = refl
only_none P no_some (Some a) h = absurd (no_some a h)

pub colours_over : {c : Colours} (before : List Event) (bytes : List ℕ) → HasColours c before
    → HasColours c (before ++ sixels_of bytes)
colours_over {c} before bytes s = record {
  whole = s.whole;
  each = λ register lt. s.each register lt
      ∙ sym (same_over (λ es. foot_colour es register)
      (λ es bits. latest_push (foot_gives register) es (Step (Sixel bits))) before bytes);
}
