-- Painting in a colour that a register got after it was selected.
use Rattle.std.specs.Prelude.{◌≡◌, ◌≢◌, ℕ, IsTrue, List, Option, Some}
use Rattle.std.specs.Option.{option_flatten, option_map}
use Rattle.sixel_grammar.specs.declared.command.Event.{Event}
use Rattle.sixel_model.specs.declared.colour.Parts.{Parts}
use Rattle.sixel_model.specs.Events.{is_painting, select_of}
use Rattle.sixel_model.specs.Positions.{last_at}
use Rattle.sixel_model.specs.Rules.{colour_of, known}

-- the colour that the register had by its definitions when a register was last selected
unfoldable pub colour_at_select : List Event → ℕ → Option Parts
colour_at_select before register =
    option_flatten (last_at (λ earlier e. option_map (λ (r : ℕ). colour_of earlier register) (select_of e)) before)

-- a painting command whose known register had another colour, or none, when it was selected
pub record IsStale (before : List Event) (e : Event) : Type 0 where
  pub register : ℕ
  pub painting : IsTrue (is_painting e)
  pub is_known : known before ≡ Some register
  pub differs : colour_of before register ≢ colour_at_select before register
