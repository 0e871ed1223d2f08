use Rattle.sixel_emulator_rules_laws.proofs.PixelLemmas
use Rattle.sixel_emulator_rules_laws.proofs.laws.each_witness_has_a_pixel.Goals as goal

pub returns : goal.returns
returns c = record {
  pixel = PixelLemmas.each_witness_has_a_pixel;
  mlterm = PixelLemmas.mlterm_ends_at_each;
}
