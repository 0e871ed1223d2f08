-- A terminal with room for a box.
use Rattle.std.proofs.Common.{◌≡◌, ℕ, ◌+◌, ◌*◌, false, length, replicate, arith}
use Rattle.std.proofs.lemmas.List.{length-replicate}
use Rattle.sixel_model.specs.declared.colour.Parts.TheVariants.{Rgb}
use Rattle.sixel_terminal.specs.declared.choices.Choices.{Choices}
use Rattle.sixel_terminal.specs.declared.choices.Ground.TheVariants.{Kept}
use Rattle.sixel_terminal.specs.Displays.{Display}
use Rattle.sixel_terminal.specs.Limits.{display_of}
use Rattle.sixel_check_laws.specs.Examples.{SomeTerminalHasRoom}

-- a screen one pixel wider and higher than the box at its top left, so that even an empty box has an origin
abbrev roomy_choices : ℕ → ℕ → Choices
roomy_choices width height = record {
  binds_at_showing = false;
  selects = false;
  ground = Kept;
  selected = 0;
  zero = 0;
  clamps = false;
  clips = false;
  eight_bit = false;
  tall = 1;
  screen_width = width + 1;
  screen_height = height + 1;
  origin_x = 0;
  origin_y = 0;
}

abbrev roomy : ℕ → ℕ → ℕ → Display
roomy registers width height =
    display_of (roomy_choices width height) (replicate (registers + 1) (Rgb 0 0 0))
    (replicate ((width + 1) * (height + 1)) (Rgb 0 0 0))

pub some_has_room : SomeTerminalHasRoom
some_has_room registers width height =
    let black = Rgb 0 0 0 in
    let count : length (replicate (registers + 1) black) ≡ registers + 1 = length-replicate (registers + 1) black in
    let pixels = length-replicate ((width + 1) * (height + 1)) black in (
      roomy registers width height,
      record {
        enough = omega (arith, count);
        selected = omega (arith, count);
        ground = tt;
        zero = omega arith;
        tall = omega arith;
        screen = pixels;
        origin_x = omega arith;
        origin_y = omega arith;
      },
      record { across = omega arith; down = omega arith },
    )
