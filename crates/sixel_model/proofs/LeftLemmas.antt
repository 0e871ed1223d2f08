-- The palette that is left.
use Rattle.std.proofs.Common.{◌≡◌, ℕ, ◌<◌, ◌==◌, Option, Some, None, List, [], ◌∷◌, ◌++◌, length}
use Rattle.std.proofs.Common.{get_or, ap, ◌∙◌, arith}
use Rattle.std.specs.Option.{option_and_then, option_flatten, option_or}
use Rattle.std.proofs.lemmas.Option.{slice_get-get_or}
use Rattle.std.proofs.lemmas.List.FromFn.{fill_by_all, get_or-map-range_with_len, length-map-range_with_len}
use Rattle.sixel_grammar.specs.declared.command.Event.{Event}
use Rattle.sixel_model.specs.declared.colour.Parts.{Parts}
use Rattle.sixel_model.specs.Colours.{palette_at}
use Rattle.sixel_model.specs.Events.{definition_where}
use Rattle.sixel_model.specs.Rules.{colour_by, colour_of, definition_of, palette_left}
use Rattle.sixel_model.proofs.StepLemmas.{definition_push}

pub length_left : (n : ℕ) (events : List Event) → length (palette_left n events) ≡ n
unfolding palette_left
length_left n events = length-map-range_with_len (colour_of events) 0 n

pub get_left : (n r : ℕ) (events : List Event) → r < n → get_or (palette_left n events) r None ≡ colour_of events r
unfolding palette_left
get_left n r events lt = get_or-map-range_with_len (colour_of events) 0 n r r None lt (omega arith)

-- the colour of a register in the palette that is left
pub left_at : (n r : ℕ) (events : List Event) → r < n → palette_at (palette_left n events) r ≡ colour_of events r
left_at n r events lt =
    let long : r < length (palette_left n events) = rw (length_left n events) lt in
    ap option_flatten
    (slice_get-get_or (palette_left n events) r None long ∙ ap Some (get_left n r events lt))

-- a list of these colours is the palette that is left
pub left_from_index : (n : ℕ) (events : List Event) (xs : List (Option Parts)) → length xs ≡ n
    → ((r : ℕ) → r < n → get_or xs r None ≡ colour_of events r) → xs ≡ palette_left n events
unfolding palette_left
left_from_index n events xs long each = fill_by_all (colour_of events) xs n None long each

pub colour_push : (before : List Event) (e : Event) (r : ℕ) → colour_of (before ++ e ∷ []) r
    ≡ option_and_then colour_by (option_or (definition_where (λ q. q == r) e) (definition_of before r))
unfolding colour_of
colour_push before e r = ap (option_and_then colour_by) (definition_push before e r)
