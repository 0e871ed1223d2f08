-- The terminal that shows a picture, and the PPM of its screen.
use Rattle.std.specs.Prelude.{◌≡◌, ◌++◌, ℕ, ◌*◌, ◌%◌, ◌&&◌, Bool, true, false, IsSome, List, Option, map, replicate}
use Rattle.std.specs.Prelude.{if◌then◌else◌}
use Rattle.std.specs.Bool.{then_some}
use Rattle.std.specs.List.{range_with_len}
use Rattle.std.specs.Option.{option_and_then}
use Rattle.sixel_grammar.specs.declared.command.Event.{Event}
use Rattle.sixel_grammar.specs.declared.command.Placed.{Placed}
use Rattle.sixel_grammar.specs.Document.{events_of}
use Rattle.sixel_grammar.specs.Prefixes.{CompleteIn}
use Rattle.sixel_model.specs.declared.colour.Parts.{Parts}
use Rattle.sixel_model.specs.declared.colour.Parts.TheVariants.{Rgb}
use Rattle.sixel_ppm.specs.Ppm.{is_file_side, ppm_text}
use Rattle.sixel_model.specs.Profiles.{count_of}
use Rattle.sixel_model.specs.Rules.{raster_before}
use Rattle.sixel_model.specs.declared.profile.Profile.{Profile}
use Rattle.sixel_model.specs.declared.profile.Profile.TheVariants.{Registers16, Registers256}
use Rattle.sixel_terminal.specs.declared.choices.Choices.{Choices}
use Rattle.sixel_terminal.specs.declared.choices.Ground.{Ground}
use Rattle.sixel_terminal.specs.declared.choices.Ground.TheVariants.{Kept, Filled}
use Rattle.sixel_terminal.specs.Displays.{Display}
use Rattle.sixel_terminal.specs.Drawing.{screen_on}
use Rattle.sixel_terminal.specs.Limits.{display_of}
use Rattle.sixel_report.specs.Texts.{Text}

-- showing, fill (with register 0), selects and the size are asked for; the other choices are fixed
abbrev pub show_choices : Bool → Bool → Bool → ℕ → ℕ → Choices
show_choices showing fill selects width height = let ground : Ground = if fill then Filled 0 else Kept in record {
  binds_at_showing = showing;
  selects = selects;
  ground = ground;
  selected = 0;
  zero = 1;
  clamps = true;
  clips = false;
  eight_bit = true;
  tall = 1;
  screen_width = width;
  screen_height = height;
  origin_x = 0;
  origin_y = 0;
}

abbrev pub grey : ℕ → Parts
grey percent = Rgb percent percent percent

-- the grey that a register starts with, in percent
abbrev pub percent_at : Profile → ℕ → ℕ
percent_at Registers16 register = 6 * register
percent_at Registers256 register = register % 101

-- the colours that the registers of the profile start with
abbrev pub greys : Profile → List Parts
greys profile = map (λ register. grey (percent_at profile register)) (range_with_len 0 (count_of profile))

-- every pixel is white
abbrev pub white_screen : Choices → List Parts
white_screen choices = replicate (choices.screen_width * choices.screen_height) (Rgb 100 100 100)

-- the terminal with these choices and the registers of the profile
unfoldable pub show_terminal : Profile → Choices → Display
show_terminal profile choices = display_of choices (greys profile) (white_screen choices)

-- this width and height, if a screen can have them: each side is from 1 to 4,096
abbrev pub sides_of_box : ℕ → ℕ → Option (ℕ × ℕ)
sides_of_box width height = then_some (is_file_side width && is_file_side height) (width, height)

-- the width and height of the declared box, that of the first raster attributes, if a screen can have them
unfoldable pub declared_screen : List Event → Option (ℕ × ℕ)
declared_screen events = option_and_then (λ a. sides_of_box a.width a.height) (raster_before events)

-- the events that are complete in some viable prefix of the bytes declare a box of a screen's size
pub record DeclareScreenIn (bytes : List ℕ) : Type 0 where
  pub prefix : List ℕ
  pub rest : List ℕ
  pub bytes_are : bytes ≡ prefix ++ rest
  pub events : List Placed
  pub complete : CompleteIn events prefix
  pub declares : IsSome (declared_screen (events_of events))

-- the terminal with a screen of these sides
abbrev pub screen_terminal : Profile → Bool → Bool → Bool → ℕ × ℕ → Display
screen_terminal profile showing fill selects sides =
    show_terminal profile (show_choices showing fill selects sides.0 sides.1)

-- the PPM of the terminal's screen after the events
unfoldable pub screen_text : Display → List Event → Text
screen_text t events = ppm_text t.choices.screen_width t.choices.screen_height (screen_on t events)
