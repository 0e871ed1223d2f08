-- Which rules an event breaks, by the notes on the events before it.
use Rattle.std.specs.Prelude.{◌≡◌, ◌<◌, ◌+◌, ◌*◌, ◌&&◌, ◌||◌, ℕ, Bool, true, false, not, Option, List, [], ◌∷◌}
use Rattle.std.specs.Prelude.{is_none, is_some, nat_le, nat_lt}
use Rattle.std.specs.List.{find}
use Rattle.std.specs.Option.{option_map_or}
use Rattle.sixel_grammar.specs.declared.command.Event.{Event}
use Rattle.sixel_model.specs.Events.{columns_of, is_data_command, is_painting, is_return, raster_of}
use Rattle.sixel_emulator_rules.specs.Asked.{breaks_hue, breaks_large, breaks_introducer, breaks_rows, is_asked}
use Rattle.sixel_emulator_rules.specs.Notes.{stale_in}
use Rattle.sixel_emulator_rules.specs.declared.notes.Declared.{Declared}
use Rattle.sixel_emulator_rules.specs.declared.notes.Notes.{Notes}
use Rattle.sixel_emulator_rules.specs.declared.rule.AskedRule.{AskedRule}
use Rattle.sixel_emulator_rules.specs.declared.rule.AskedRule.TheVariants.{RasterLate, Dropped, Stale, Large, Rows}
use Rattle.sixel_emulator_rules.specs.declared.rule.AskedRule.TheVariants.{Past, Hue}
use Rattle.sixel_emulator_rules.specs.declared.rule.AskedRule.TheVariants.{Far, Introducer, Bare, SpaceAfter}
use Rattle.sixel_emulator_rules.specs.declared.terminals.Terminals.{Terminals}

-- ---- where a data command stands

abbrev pub ends_right_in : Notes → Declared → Event → Bool
ends_right_in n d e = nat_lt d.width (n.column + columns_of 0 e)

abbrev pub is_below_in : Notes → Declared → Bool
is_below_in n d = nat_le d.height (6 * n.band)

abbrev pub leaves_in : Notes → Declared → Event → Bool
leaves_in n d e = is_data_command e && (ends_right_in n d e || is_below_in n d)

abbrev pub is_deep_in : Notes → Declared → Bool
is_deep_in n d = nat_lt (d.height + 512) (6 * n.band + 6)

abbrev pub leaves_far_in : Notes → Declared → Event → Bool
leaves_far_in n d e = ends_right_in n d e || is_deep_in n d

-- ---- the rules

abbrev pub late_in : Notes → Event → Bool
late_in n e = (is_some (raster_of e) && is_none n.declared) && is_some n.named

abbrev pub dropped_in : Notes → Event → Bool
dropped_in n e = is_return e && n.droppable

abbrev pub paints_stale_in : Notes → Event → Bool
paints_stale_in n e = is_painting e && stale_in n

abbrev pub past_in : Notes → Event → Bool
past_in n e = not (is_painting e) && option_map_or (λ d. leaves_in n d e) n.declared false

abbrev pub strays_in : Notes → Event → Bool
strays_in n e = option_map_or (λ d. leaves_far_in n d e) n.declared false

abbrev pub far_in : Notes → Event → Bool
far_in n e = is_data_command e && (nat_lt 32767 (n.column + columns_of 0 e) || strays_in n e)

abbrev pub counts_in : Notes → Event → AskedRule → Bool
counts_in n e RasterLate = late_in n e
counts_in n e Dropped = dropped_in n e
counts_in n e Stale = paints_stale_in n e
counts_in n e Large = breaks_large e
counts_in n e Rows = breaks_rows e
counts_in n e Past = past_in n e
counts_in n e Hue = breaks_hue e
counts_in n e Far = far_in n e
counts_in n e Introducer = breaks_introducer e
counts_in n e Bare = false
counts_in n e SpaceAfter = false

-- a terminal of the set asks for the rule, and the event breaks it
abbrev pub asked_in : Terminals → Notes → Event → AskedRule → Bool
asked_in t n e rule = is_asked t rule && counts_in n e rule

-- the rules in order of number
abbrev pub in_order : List AskedRule
in_order =
    RasterLate ∷ Dropped ∷ Stale ∷ Large ∷ Rows ∷ Past ∷ Hue ∷ Far ∷ Introducer ∷ Bare ∷ SpaceAfter ∷ []

abbrev pub first_in : Terminals → Notes → Event → Option AskedRule
first_in t n e = find (asked_in t n e) in_order

-- ---- sixels one after the other

-- so many sixels end in the box, in a band that begins in it
abbrev pub fits_in : Notes → ℕ → Declared → Bool
fits_in n columns d = nat_le (n.column + columns) d.width && nat_lt (6 * n.band) d.height

abbrev pub fits_box_in : Notes → ℕ → Bool
fits_box_in n columns = option_map_or (fits_in n columns) n.declared true

-- and they are not too far right for mlterm
abbrev pub is_near_in : Notes → ℕ → Bool
is_near_in n columns = fits_box_in n columns && nat_le (n.column + columns) 32767

-- a rule is asked for that hangs on where a data command stands
abbrev pub asks_where : Terminals → Bool
asks_where t = is_asked t Past || is_asked t Far

-- none of so many sixels can break a rule that is asked for
abbrev pub is_calm_in : Terminals → Notes → ℕ → Bool
is_calm_in t n columns = (not (asks_where t) || is_near_in n columns) && not (is_asked t Stale && stale_in n)

-- this column of the band lies in the box, and not too far out for mlterm
abbrev pub is_near_at : Notes → ℕ → Bool
is_near_at n end =
    option_map_or (λ (d : Declared). nat_le end d.width && nat_lt (6 * n.band) d.height) n.declared true
    && nat_le end 32767

-- no data command that ends there can break a rule that is asked for
abbrev pub ends_calm_in : Terminals → Notes → ℕ → Bool
ends_calm_in t n end = (not (asks_where t) || is_near_at n end) && not (is_asked t Stale && stale_in n)

-- none that ends before this one
abbrev pub IsCalmBefore : Terminals → Notes → ℕ → Type 0
IsCalmBefore t n limit = (end : ℕ) → end < limit → ends_calm_in t n end ≡ true
