-- The plain terminals that draw what readings give. Readings give no repeat that has another width on another terminal,
-- no definition that selects, no colour out of range, and no 8-bit control.
use Rattle.std.specs.Prelude.{ℕ, Bool, true, false}
use Rattle.sixel_terminal.specs.declared.choices.Choices.{Choices}
use Rattle.sixel_terminal.specs.declared.choices.Ground.{Ground}

-- whether a pixel shows the colour that its register has at the end; the ground; the register that is selected at the
-- start; and the size of the screen, with the picture at its top left
abbrev pub plain_choices : Bool → Ground → ℕ → ℕ → ℕ → Choices
plain_choices showing fill selected width height = let ground : Ground = fill in record {
  binds_at_showing = showing;
  selects = false;
  ground = ground;
  selected = selected;
  zero = 0;
  clamps = true;
  clips = false;
  eight_bit = true;
  tall = 1;
  screen_width = width;
  screen_height = height;
  origin_x = 0;
  origin_y = 0;
}
