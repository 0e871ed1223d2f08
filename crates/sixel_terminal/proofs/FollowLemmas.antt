-- A drawing that follows the events that are read.
use Rattle.std.proofs.Common.{◌≡◌, ◌∙◌, ◌+◌, ◌-◌, ℕ, List, [], ◌∷◌, ◌++◌, ap, refl, subst, sym}
use Rattle.std.proofs.lemmas.List.{map-append}
use Rattle.sixel_grammar.specs.Document.{events_of}
use Rattle.sixel_grammar.specs.Following.{TakesEvents}
use Rattle.sixel_grammar.specs.Stretches.{sixels_from}
use Rattle.sixel_grammar.specs.declared.command.Command.TheVariants.{Sixel}
use Rattle.sixel_grammar.specs.declared.command.Event.{Event}
use Rattle.sixel_grammar.specs.declared.command.Event.TheVariants.{Step}
use Rattle.sixel_grammar.specs.declared.command.Placed.{Placed}
use Rattle.sixel_terminal.specs.Drawings.{Drawn, HasDrawn, HasDrawnOn}
use Rattle.sixel_terminal.specs.Stretches.{sixels_of}

pub events_then : (seen more : List Placed) → events_of (seen ++ more) ≡ events_of seen ++ events_of more
events_then seen more = map-append (λ (p : Placed). p.event) seen more

pub sixels_are : (place : ℕ) (bytes : List ℕ) → events_of (sixels_from place bytes) ≡ sixels_of bytes
sixels_are place [] = refl
sixels_are place (b ∷ rest) = ap (λ (es : List Event). Step (Sixel (b - 63)) ∷ es) (sixels_are (place + 1) rest)

pub draws_one : (old new : Drawn) (p : Placed) → new.terminal ≡ old.terminal
    → ((before : List Event) → HasDrawn old before → HasDrawn new (before ++ p.event ∷ []))
    → TakesEvents HasDrawnOn old new (p ∷ [])
draws_one old new p same draws = λ first seen h. (
  same ∙ h.0,
  subst (HasDrawn new) (sym (events_then seen (p ∷ []))) (draws (events_of seen) h.1),
)

pub draws_stretch : (old new : Drawn) (place : ℕ) (bytes : List ℕ) → new.terminal ≡ old.terminal
    → ((before : List Event) → HasDrawn old before → HasDrawn new (before ++ sixels_of bytes))
    → TakesEvents HasDrawnOn old new (sixels_from place bytes)
draws_stretch old new place bytes same draws = λ first seen h. (
  same ∙ h.0,
  subst (HasDrawn new)
      (ap (λ (es : List Event). events_of seen ++ es) (sym (sixels_are place bytes))
      ∙ sym (events_then seen (sixels_from place bytes)))
      (draws (events_of seen) h.1),
)
