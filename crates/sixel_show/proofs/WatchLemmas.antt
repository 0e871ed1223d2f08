-- A drawing whose registers are watched.
use Rattle.std.proofs.Common.{◌≡◌, ◌∙◌, ℕ, Bool, List, [], ◌∷◌, ◌++◌, ◌||◌, false, ap, refl, subst, sym}
use Rattle.std.proofs.Math.Bool.{or-false}
use Rattle.std.proofs.lemmas.List.Folds.{list_any-append}
use Rattle.sixel_grammar.specs.Document.{events_of}
use Rattle.sixel_grammar.specs.Following.{TakesEvents}
use Rattle.sixel_grammar.specs.Stretches.{sixels_from}
use Rattle.sixel_grammar.specs.declared.command.Event.{Event}
use Rattle.sixel_grammar.specs.declared.command.Placed.{Placed}
use Rattle.sixel_model.specs.Rules.{breaks_register}
use Rattle.sixel_terminal.specs.Stretches.{sixels_of}
use Rattle.sixel_terminal.proofs.FollowLemmas.{events_then, sixels_are}
use Rattle.sixel_show.specs.declared.watched.Watched.{Watched}
use Rattle.sixel_show.specs.Notes.{has_high_register, names_high_register}
use Rattle.sixel_show.specs.Watching.{HasWatched, HasWatchedOn}

-- one more event
pub high_more : (events : List Event) (e : Event)
    → has_high_register (events ++ e ∷ []) ≡ (has_high_register events || names_high_register e)
high_more events e =
    list_any-append names_high_register events (e ∷ [])
    ∙ ap (λ (b : Bool). has_high_register events || b) (or-false (names_high_register e))

-- sixels name no register
sixels_low : (bytes : List ℕ) → has_high_register (sixels_of bytes) ≡ false
unfolding breaks_register
sixels_low [] = refl
sixels_low (b ∷ rest) = sixels_low rest

pub high_stretch : (events : List Event) (bytes : List ℕ)
    → has_high_register (events ++ sixels_of bytes) ≡ has_high_register events
high_stretch events bytes =
    list_any-append names_high_register events (sixels_of bytes)
    ∙ ap (λ (b : Bool). has_high_register events || b) (sixels_low bytes)
    ∙ or-false (has_high_register events)

pub watches_one : (old new : Watched) (p : Placed) → new.drawing.terminal ≡ old.drawing.terminal
    → ((before : List Event) → HasWatched old before → HasWatched new (before ++ p.event ∷ []))
    → TakesEvents HasWatchedOn old new (p ∷ [])
watches_one old new p same watches = λ first seen h. (
  same ∙ h.0,
  subst (HasWatched new) (sym (events_then seen (p ∷ []))) (watches (events_of seen) h.1),
)

pub watches_stretch : (old new : Watched) (place : ℕ) (bytes : List ℕ) → new.drawing.terminal ≡ old.drawing.terminal
    → ((before : List Event) → HasWatched old before → HasWatched new (before ++ sixels_of bytes))
    → TakesEvents HasWatchedOn old new (sixels_from place bytes)
watches_stretch old new place bytes same watches = λ first seen h. (
  same ∙ h.0,
  subst (HasWatched new)
      (ap (λ (es : List Event). events_of seen ++ es) (sym (sixels_are place bytes))
      ∙ sym (events_then seen (sixels_from place bytes)))
      (watches (events_of seen) h.1),
)
