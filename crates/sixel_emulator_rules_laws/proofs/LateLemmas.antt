-- A list in which a definition comes after a select.
use Rattle.std.proofs.Common.{◌≡◌, ◌*◌, ℕ, true, false, List, [], ◌∷◌, replicate, refl, ap, ◌∙◌, lit≤}
use Rattle.sixel_grammar.specs.declared.command.Command.TheVariants.{Define, Select, Sixel}
use Rattle.sixel_grammar.specs.declared.command.Event.{Event}
use Rattle.sixel_grammar.specs.declared.command.Event.TheVariants.{Step}
use Rattle.sixel_model.specs.declared.colour.Parts.{Parts}
use Rattle.sixel_model.specs.declared.colour.Parts.TheVariants.{Rgb}
use Rattle.sixel_model.specs.Rules.{Breaks, BreaksNone, BreaksOutside, BreaksUncovered, breaks_box_size}
use Rattle.sixel_model.specs.Rules.{breaks_eight_bit, breaks_colour_value, breaks_ratio, breaks_raster_first}
use Rattle.sixel_model.specs.Rules.{breaks_raster_twice, breaks_redefined, breaks_register, breaks_repeat_zero}
use Rattle.sixel_model.specs.Rules.{breaks_undefined, breaks_unselected, definition_of, is_covered, is_painted_in}
use Rattle.sixel_model.specs.Rules.{known, last_rule, raster_before}
use Rattle.sixel_model.specs.Geometry.{band, column, covers, falls, touches}
use Rattle.sixel_model.specs.Positions.{any_at, any_below, at_position, earliest, last_at, last_below, latest}
use Rattle.sixel_model.specs.Positions.{passes_at, since}
use Rattle.sixel_model.specs.Profiles.{count_of}
use Rattle.sixel_model.specs.declared.profile.Profile.{Profile}
use Rattle.sixel_model.specs.declared.profile.Profile.TheVariants.{Registers16, Registers256}
use Rattle.sixel_terminal.specs.declared.choices.Choices.{Choices}
use Rattle.sixel_terminal.specs.declared.choices.Ground.{Ground}
use Rattle.sixel_terminal.specs.declared.choices.Ground.TheVariants.{Kept}
use Rattle.sixel_terminal.specs.Displays.{Display, IsInClass}
use Rattle.sixel_terminal.specs.Drawing.{height_of, is_kept_on, is_seen_on, map_on, paints_on, selected_on, shown_on}
use Rattle.sixel_terminal.specs.Drawing.{touches_on}
use Rattle.sixel_judge.proofs.DecideLemmas.{decided_by, falls_searchable, blank_searchable, first_of, outside_first}
use Rattle.sixel_judge.proofs.DecideLemmas.{blank_first, outside_decided, blank_somewhere, both_decided}
use Rattle.sixel_judge.proofs.DecideLemmas.{uncovered_decided, rule_decided, held_decided, position_decided}
use Rattle.sixel_judge.proofs.DecideLemmas.{broken_decided, broken_or_none}
use Rattle.sixel_check_laws.proofs.OnePixel.{second_of}
use Rattle.sixel_judge.proofs.SearchLemmas.{decide_true, least_here, least_more, least_below, in_row}
use Rattle.sixel_judge.proofs.SearchLemmas.{row_decided, first_point}
use Rattle.sixel_foot.specs.Foot.{foot_model}
use Rattle.sixel_emulator.specs.Readings.{IsReading}
use Rattle.sixel_foot.specs.Settings.{foot_display}
use Rattle.sixel_emulator.specs.Words.{after_each, after_first}
use Rattle.sixel_named_terminals.proofs.NamedLemmas.{reading_once}
use Rattle.sixel_emulator_rules_laws.specs.Laws.{LateDefinitionsCanDiffer, late_red}
use Rattle.sixel_emulator_rules_laws.proofs.DrawingLemmas.{drawing_is_reading, foot_drawing}
use Rattle.sixel_emulator_rules_laws.proofs.SaidLemmas.{all_is_said}

-- by computation, each rule is tested at each event
unbroken : (profile : Profile) → BreaksNone (count_of profile) last_rule late_red
unfolding decided_by falls_searchable blank_searchable first_of outside_first blank_first outside_decided
    blank_somewhere both_decided uncovered_decided rule_decided held_decided position_decided broken_decided
    broken_or_none decide_true least_here least_more least_below in_row row_decided
    first_point Breaks
    BreaksOutside BreaksUncovered breaks_box_size breaks_colour_value breaks_eight_bit breaks_ratio
    breaks_raster_first breaks_raster_twice breaks_redefined breaks_register breaks_repeat_zero breaks_undefined
    breaks_unselected definition_of is_covered is_painted_in known raster_before band column covers falls touches any_at
    any_below earliest latest passes_at since
unbroken Registers16 = second_of (broken_or_none 16 late_red) refl
unbroken Registers256 = second_of (broken_or_none 256 late_red) refl

abbrev pub white : Parts
white = Rgb 100 100 100

-- it keeps its ground, doesn't clip, has 8-bit controls, and draws from the top left of a screen of one pixel
abbrev one_pixel : Choices
one_pixel = let ground : Ground = Kept in record {
  binds_at_showing = false;
  selects = false;
  ground = ground;
  selected = 0;
  zero = 0;
  clamps = false;
  tall = 1;
  clips = false;
  eight_bit = true;
  screen_width = 1;
  screen_height = 1;
  origin_x = 0;
  origin_y = 0;
}

-- a terminal with these choices and one white pixel, whose registers are black at the start
abbrev one_white : ℕ → Display
one_white registers = record {
  choices = one_pixel;
  colours = replicate registers (Rgb 0 0 0);
  screen = replicate (1 * 1) white;
}

in_class : (profile : Profile) → IsInClass (count_of profile) (one_white (count_of profile))
in_class Registers16 = record {
  enough = lit≤ tt;
  selected = lit≤ tt;
  ground = tt;
  zero = lit≤ tt;
  tall = lit≤ tt;
  screen = refl;
  origin_x = lit≤ tt;
  origin_y = lit≤ tt;
}
in_class Registers256 = record {
  enough = lit≤ tt;
  selected = lit≤ tt;
  ground = tt;
  zero = lit≤ tt;
  tall = lit≤ tt;
  screen = refl;
  origin_x = lit≤ tt;
  origin_y = lit≤ tt;
}

red_at_painting : (profile : Profile) → shown_on (one_white (count_of profile)) late_red 0 0 ≡ Rgb 100 0 0
unfolding shown_on last_at last_below at_position is_seen_on paints_on is_kept_on touches_on touches covers any_below
    height_of selected_on map_on latest earliest raster_before band column since
red_at_painting Registers16 = refl
red_at_painting Registers256 = refl

-- what foot draws: black is given to what was never defined, and that is selected
late_drawing : foot_drawing late_red ≡ Step (Define 1 2 0 0 0) ∷ Step (Select 1) ∷ Step (Sixel 1) ∷ []
unfolding after_each after_first latest band column since
late_drawing = refl

black_drawn : (background : Parts)
    → shown_on (foot_display background 1 1) (Step (Define 1 2 0 0 0) ∷ Step (Select 1) ∷ Step (Sixel 1) ∷ []) 0 0
    ≡ Rgb 0 0 0
unfolding shown_on last_at last_below at_position is_seen_on paints_on is_kept_on touches_on touches covers any_below
    height_of selected_on map_on latest earliest raster_before band column since
black_drawn background = refl

pub black_on_foot : (background : Parts) (drawing : List Event) → IsReading foot_model late_red drawing
    → shown_on (foot_display background 1 1) drawing 0 0 ≡ Rgb 0 0 0
black_on_foot background drawing reading =
    ap (λ (es : List Event). shown_on (foot_display background 1 1) es 0 0)
    (reading_once foot_model late_red drawing (foot_drawing late_red) reading (drawing_is_reading late_red)
    ∙ late_drawing)
    ∙ black_drawn background

pub late_definitions_can_differ : (profile : Profile) → LateDefinitionsCanDiffer (count_of profile)
late_definitions_can_differ profile = (
  one_white (count_of profile),
  record {
    unbroken = unbroken profile;
    class = in_class profile;
    room = record { across = lit≤ tt; down = lit≤ tt };
    red = red_at_painting profile;
    said = all_is_said (count_of profile) late_red (unbroken profile);
    black = black_on_foot;
  },
)
