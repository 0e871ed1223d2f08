use Rattle.std.proofs.Common.{◌≡◌, ◌∙◌, ℕ, ap, arith, length, map}
use Rattle.sixel_model.specs.Profiles.{count_of}
use Rattle.sixel_ppm.specs.PpmReading.{distinct, palette_of}
use Rattle.sixel_terminal.specs.Screens.{colour_in_ink}
use Rattle.sixel_mend.proofs.numbering.parts_of.Goals as goal

pub returns-clause-numbered : goal.returns-clause-numbered
returns-clause-numbered c =
    let held = c.in_ok-registers.ensures.held in
    let many : length c.registers_of.new.numbering.colours.palette ≡ count_of c.args.profile =
    c.in_ok-registers.ensures.profile ∙ c.new-numbering.ensures.profile in
    record {
      palette_is =
          c.into_palette-palette.ensures ∙ held.fills.palette
          ∙ ap (λ (n : ℕ). palette_of n (distinct (map colour_in_ink c.args.pixels.now))) many;
      registers_are = held.numbered;
      few = omega (arith, held.fills.few, many);
    }
